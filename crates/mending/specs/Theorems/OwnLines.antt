-- What is restored in a port's lines goes by that port's lines alone.
use Rattle.std.specs.Prelude.{◌≡◌, refl, Bool, true, false, cond, List, [], ◌∷◌, ◌++◌, ℕ, ◌%◌, eqb, drop, get_or}
use Rattle.std.proofs.Common.{sym, ap, ◌∙◌, true≢false, eqb-true}
use Rattle.mending.specs.Beside.{is_port, port_lines}
use Rattle.mending.specs.Following.{followed_if, has_count}
use Rattle.mending.specs.Laws.Lines.{Came, Fits, Read, came, fits_followed, fits_next, followed_left, left_other, next_count, out_frame, out_other, out_of, read_of}
use Rattle.mending.specs.Laws.Lines.{Read as R}
use Rattle.mending.specs.Laws.Opened.{mended_lines_lem}
use Rattle.mending.specs.Lines.{Line, count_by, counts_of, fate_by, fate_to, judged, left_by, lines_with, mended_lines, out_by, record_of}
use Rattle.mending.specs.Mending.{Opened, mended_of}
use Rattle.recording.specs.Record.{is_frame}
use Rattle.recording.specs.declared.record.Record.{Record}
use Rattle.recording.specs.declared.record.Record.TheVariants.{Frame, Malformed, Long, Unfinished, End}

port_other : (port : ℕ) (r : Record) → is_frame r ≡ false → is_port port r ≡ false
port_other port (Frame p h4 flag place next) e = absurd (true≢false e)
port_other port (Malformed next) e = refl
port_other port Long e = refl
port_other port Unfinished e = refl
port_other port End e = refl

module _ (ports size port : ℕ) where
  abbrev mine : List Line → List Line
  mine ls = port_lines ports size port ls

  mine_by : (l : Line) (ls : List Line) (b : Bool) → is_port port (record_of ports size l) ≡ b → mine (l ∷ ls) ≡ cond b (l ∷ mine ls) (mine ls)
  mine_by l ls b e = ap (λ (t : Bool). cond t (l ∷ mine ls) (mine ls)) e

  -- its counts are those of its own lines
  counts_by_lem : (r : Record) (counts : List ℕ) (b : Bool) → is_port port r ≡ b → count_by port r counts ≡ cond b (count_by port r counts) counts
  counts_by_lem r counts true e = refl
  counts_by_lem (Frame p h4 flag place next) counts false e = ap (λ (t : Bool). cond t (h4 % 16 ∷ counts) counts) e
  counts_by_lem (Malformed next) counts false e = refl
  counts_by_lem Long counts false e = refl
  counts_by_lem Unfinished counts false e = refl
  counts_by_lem End counts false e = refl

  own_counts : (ls : List Line) → counts_of ports size port (mine ls) ≡ counts_of ports size port ls
  own_counts [] = refl
  own_counts (l ∷ ls) = go (is_port port (record_of ports size l)) refl (own_counts ls)
    where
      go : (b : Bool) → is_port port (record_of ports size l) ≡ b → counts_of ports size port (mine ls) ≡ counts_of ports size port ls
          → counts_of ports size port (mine (l ∷ ls)) ≡ count_by port (record_of ports size l) (counts_of ports size port ls)
      go true e r = ap (counts_of ports size port) (mine_by l ls true e) ∙ ap (count_by port (record_of ports size l)) r
      go false e r = ap (counts_of ports size port) (mine_by l ls false e) ∙ (r ∙ sym (counts_by_lem (record_of ports size l) (counts_of ports size port ls) false e))

  left_by_lem : (left : ℕ → List ℕ) (p h4 : ℕ) (flag : Bool) (place next : ℕ) (b : Bool) → eqb p port ≡ b → left_by left (Frame p h4 flag place next) port ≡ cond b (drop 1 (left port)) (left port)
  left_by_lem left p h4 flag place next b e = ap (λ (t : Bool). cond t (drop 1 (left port)) (left port)) e

  own_out : (ls : List Line) (left one : ℕ → List ℕ) → Fits ports size left ls → one port ≡ left port → mine (out_of ports size left ls) ≡ out_of ports size one (mine ls)
  own_out [] left one h k = refl
  own_out (l ∷ ls) left one h k = go (read_of ports size l) (own_out ls (left_by left (record_of ports size l)) one (fits_next ports size left l ls h)) (own_out ls (left_by left (record_of ports size l)) (left_by one (record_of ports size l)) (fits_next ports size left l ls h))
    where
      go : Read ports size l
          → (one port ≡ left_by left (record_of ports size l) port → mine (out_of ports size (left_by left (record_of ports size l)) ls) ≡ out_of ports size one (mine ls))
          → (left_by one (record_of ports size l) port ≡ left_by left (record_of ports size l) port → mine (out_of ports size (left_by left (record_of ports size l)) ls) ≡ out_of ports size (left_by one (record_of ports size l)) (mine ls))
          → mine (out_of ports size left (l ∷ ls)) ≡ out_of ports size one (mine (l ∷ ls))
      go (R.other e) r s =
          ap mine (out_other ports size left l ls e)
          ∙ (r (k ∙ sym (left_other left (record_of ports size l) port e)) ∙ ap (out_of ports size one) (sym (mine_by l ls false (port_other port (record_of ports size l) e))))
      go (R.frame p h4 flag place next e) r s =
          let n = next_count ports size left l ls h p h4 flag place next e in
          by (eqb p port) refl (came ports size left l p h4 flag place next e n.1)
        where
          by : (b : Bool) → eqb p port ≡ b → Came ports size left l p → mine (out_of ports size left (l ∷ ls)) ≡ out_of ports size one (mine (l ∷ ls))
          by true t c =
              let x : one p ≡ left p = ap one (eqb-true p port t) ∙ (k ∙ ap left (sym (eqb-true p port t))) in
              let y : left_by one (record_of ports size l) port ≡ left_by left (record_of ports size l) port =
              ap (λ (q : Record). left_by one q port) e ∙ (ap (λ (q : List ℕ). cond (eqb p port) (drop 1 q) q) k ∙ sym (ap (λ (q : Record). left_by left q port) e)) in
              let z : out_by size l (fate_by size one l (record_of ports size l)) ≡ c.line ∷ [] =
              ap (λ (q : Record). out_by size l (fate_by size one l q)) e ∙ (ap (λ (q : List ℕ). out_by size l (fate_to size l (h4 % 16) (get_or q 0 0))) x ∙ (sym (ap (λ (q : Record). out_by size l (fate_by size left l q)) e) ∙ c.out)) in
              ap mine (out_frame ports size left l ls p c)
              ∙ (mine_by c.line (out_of ports size (left_by left (record_of ports size l)) ls) true (ap (is_port port) c.is ∙ t)
              ∙ (ap (λ (q : List Line). c.line ∷ q) (s y)
              ∙ (sym (ap (λ (q : List Line). q ++ out_of ports size (left_by one (record_of ports size l)) (mine ls)) z) ∙ ap (out_of ports size one) (sym (mine_by l ls true (ap (is_port port) e ∙ t))))))
          by false t c =
              let y : one port ≡ left_by left (record_of ports size l) port = k ∙ sym (ap (λ (q : Record). left_by left q port) e ∙ left_by_lem left p h4 flag place next false t) in
              ap mine (out_frame ports size left l ls p c)
              ∙ (mine_by c.line (out_of ports size (left_by left (record_of ports size l)) ls) false (ap (is_port port) c.is ∙ t) ∙ (r y ∙ ap (out_of ports size one) (sym (mine_by l ls false (ap (is_port port) e ∙ t)))))

-- the lines of a port, mended among all and mended alone
pub own_lines : (has : Bool) (ports size port : ℕ) (ls : List Line)
    → port_lines ports size port (mended_lines size (judged has ports size ls)) ≡ mended_lines size (judged has ports size (port_lines ports size port ls))
unfolding judged
own_lines has ports size port ls =
    own_out ports size port ls (followed_left ports size has ls) (followed_left ports size has (port_lines ports size port ls)) (fits_followed ports size has ls) (ap (followed_if has) (own_counts ports size port ls))

-- the same of the lines behind the first of a recording that is answered 0
pub own_lines_out : (t : List ℕ) (o : Opened t) (port : ℕ) → port_lines o.settings.ports o.settings.size port (drop 1 (lines_with (mended_of t)))
    ≡ mended_lines o.settings.size (judged (has_count o.settings.kind) o.settings.ports o.settings.size (port_lines o.settings.ports o.settings.size port o.rest))
unfolding judged
own_lines_out t o port = rw (mended_lines_lem t o) (own_lines (has_count o.settings.kind) o.settings.ports o.settings.size port o.rest)
