-- Lines that come out of mending, over the counts that each port has left: what port and count each has, and that they stand as the torn ones did.
use Rattle.std.specs.Prelude.{◌≡◌, refl, Bool, true, false, cond, List, [], ◌∷◌, ◌++◌, ◌⊎◌, ◌≢◌, ℕ, suc, ◌+◌, ◌-◌, ◌*◌, ◌/◌, ◌%◌, ◌<◌, eqb, drop, get_or, length, set}
use Rattle.std.proofs.Common.{sym, ap, ap₂, ◌∙◌, true≢false, inl, inr, arith, length-drop, length-set, get_or-set_other, get_or-set_same, eq-eqb, eqb-true}
use Rattle.std.proofs.lemmas.Bool.{eqb-false}
use Rattle.ground.specs.Finite.{same_bytes_lem, same_bytes}
use Rattle.ground.specs.Truth.{fails}
use Rattle.mending.specs.Beside.{altered_note, h4_in}
use Rattle.mending.specs.Following.{followed_if}
use Rattle.mending.specs.Laws.Counts.{Counts, if_counts, if_length, if_twice}
use Rattle.mending.specs.Laws.Digits.{capital_digit, digit_count, digit_no_end, digit_some, digit_within, with_count}
use Rattle.mending.specs.Laws.Texts.{Ended, free_set}
use Rattle.mending.specs.Lines.{Fate, Line, capital, count_by, counts_of, digit_in, digit_place, fate_by, fate_to, judged_by, left_by, mended_lines, out_by, record_of, with_digit}
use Rattle.mending.specs.Lines.{Fate as F}
use Rattle.mending.specs.Mending.{note_by, note_text, notes_from}
use Rattle.recording.specs.Record.{is_frame}
use Rattle.recording.specs.declared.record.Record.{Record}
use Rattle.recording.specs.declared.record.Record.TheVariants.{Frame, Malformed, Long, Unfinished, End}
use Rattle.text.specs.Ascii.{ascii}
use Rattle.text.specs.Fields.{digit_of}
use Rattle.text.specs.Laws.Lines.{Free}
use Rattle.text.specs.Text.{LINE-END}

-- A line is a frame or no frame

pub data Read (ports size : ℕ) (l : Line) : Type 0 where
  frame : (port h4 : ℕ) (flag : Bool) (place next : ℕ) → record_of ports size l ≡ Frame port h4 flag place next → Read ports size l
  other : is_frame (record_of ports size l) ≡ false → Read ports size l

pub read_of : (ports size : ℕ) (l : Line) → Read ports size l
read_of ports size l = go (record_of ports size l) refl
  where
    go : (r : Record) → record_of ports size l ≡ r → Read ports size l
    go (Frame port h4 flag place next) e = frame port h4 flag place next e
    go (Malformed next) e = other (ap is_frame e)
    go Long e = other (ap is_frame e)
    go Unfinished e = other (ap is_frame e)
    go End e = other (ap is_frame e)

pub left_other : (left : ℕ → List ℕ) (r : Record) (port : ℕ) → is_frame r ≡ false → left_by left r port ≡ left port
left_other left (Frame p h4 flag place next) port e = absurd (true≢false e)
left_other left (Malformed next) port e = refl
left_other left Long port e = refl
left_other left Unfinished port e = refl
left_other left End port e = refl

pub fate_other : (size : ℕ) (left : ℕ → List ℕ) (l : Line) (r : Record) → is_frame r ≡ false → fate_by size left l r ≡ F.Dropped
fate_other size left l (Frame p h4 flag place next) e = absurd (true≢false e)
fate_other size left l (Malformed next) e = refl
fate_other size left l Long e = refl
fate_other size left l Unfinished e = refl
fate_other size left l End e = refl

-- The note of a line that stays, and of one that gets another count

same_self : (x : List ℕ) → same_bytes x x ≡ true
same_self [] = refl
same_self (b ∷ x) = rw (eq-eqb b b refl) (same_self x)

kept_note : (size n : ℕ) (l : Line) → altered_note size n l l ≡ []
kept_note size n l = rw (same_self l.bytes)

altered_note_lem : (ports size : ℕ) (l : Line) (port h4 : ℕ) (flag : Bool) (place next : ℕ) → record_of ports size l ≡ Frame port h4 flag place next → (new : ℕ) → new < 16 → (h4 % 16 ≡ new → ⊥) → (n : ℕ)
    → altered_note size n l (with_digit size l (capital new)) ≡ note_by size n l (F.Restored (digit_in size l) (capital new))
unfolding digit_place
altered_note_lem ports size l port h4 flag place next e new b d n =
    let k = digit_within ports size l port h4 flag place next e in
    let i = length l.bytes - (size + size + 4) in
    let m : List ℕ = set l.bytes i (capital new) in
    let z : length m ≡ length l.bytes = length-set l.bytes i (capital new) in
    let differ : same_bytes l.bytes m ≡ false =
    fails (same_bytes l.bytes m)
    (λ t. d (sym (digit_count ports size l port h4 flag place next e) ∙ (ap (λ (x : List ℕ). digit_of (get_or x i 0)) (same_bytes_lem l.bytes m t) ∙ (ap digit_of (get_or-set_same l.bytes i (capital new) 0 k) ∙ capital_digit new b)))) in
    let high : get_or m (length m - (size + size + 4) - 1) 0 ≡ get_or l.bytes (i - 1) 0 =
    ap (λ (x : ℕ). get_or m (x - (size + size + 4) - 1) 0) z ∙ get_or-set_other l.bytes i (i - 1) (capital new) 0 (λ q. let w = digit_some ports size l port h4 flag place next e in omega arith) in
    let low : get_or m (length m - (size + size + 4)) 0 ≡ capital new =
    ap (λ (x : ℕ). get_or m (x - (size + size + 4)) 0) z ∙ get_or-set_same l.bytes i (capital new) 0 k in
    ap (λ (u : Bool). cond u [] (note_text n (ascii "H4") (h4_in size l) (h4_in size (with_digit size l (capital new))))) differ
    ∙ ap₂ (λ (x y : ℕ). note_text n (ascii "H4") (h4_in size l) (x ∷ y ∷ [])) high low

-- Lists of counts

empty : (x : List ℕ) → length x ≡ 0 → [] ≡ x
empty [] e = refl
empty (a ∷ x) e = absurd (omega arith)

pub whole : (x : List ℕ) (n : ℕ) → length x ≡ suc n → get_or x 0 0 ∷ drop 1 x ≡ x
whole [] n e = absurd (omega arith)
whole (a ∷ x) n e = refl

head_count : (x : List ℕ) (n : ℕ) → length x ≡ suc n → Counts x → get_or x 0 0 < 16
head_count [] n e h = absurd (omega arith)
head_count (a ∷ x) n e h = h.0

drop_counts : (x : List ℕ) → Counts x → Counts (drop 1 x)
drop_counts [] h = tt
drop_counts (a ∷ x) h = h.1

module _ (ports size : ℕ) where
  -- each port has a count left for each of its lines
  abbrev pub Fits : (ℕ → List ℕ) → List Line → Type 0
  Fits left ls = (port : ℕ) → (length (left port) ≡ length (counts_of ports size port ls)) × Counts (left port)

  fits_by : (left : ℕ → List ℕ) (r : Record) (port : ℕ) (counts : List ℕ) → length (left port) ≡ length (count_by port r counts) → Counts (left port)
      → (length (left_by left r port) ≡ length counts) × Counts (left_by left r port)
  fits_by left (Frame p h4 flag place next) port counts e h = go (eqb p port) e
    where
      go : (b : Bool) → length (left port) ≡ length (cond b (h4 % 16 ∷ counts) counts) → (length (cond b (drop 1 (left port)) (left port)) ≡ length counts) × Counts (cond b (drop 1 (left port)) (left port))
      go true k = let n = length-drop 1 (left port) in (omega arith, drop_counts (left port) h)
      go false k = (k, h)
  fits_by left (Malformed next) port counts e h = (e, h)
  fits_by left Long port counts e h = (e, h)
  fits_by left Unfinished port counts e h = (e, h)
  fits_by left End port counts e h = (e, h)

  pub fits_next : (left : ℕ → List ℕ) (l : Line) (ls : List Line) → Fits left (l ∷ ls) → Fits (left_by left (record_of ports size l)) ls
  fits_next left l ls h port = fits_by left (record_of ports size l) port (counts_of ports size port ls) (h port).0 (h port).1

  -- what comes out of a frame's line: the same port, the count that is left for it, all else as it stood
  pub record Came (left : ℕ → List ℕ) (l : Line) (port : ℕ) : Type 0 where
    pub line : Line
    pub h4 : ℕ
    pub flag : Bool
    pub place : ℕ
    pub next : ℕ
    pub out : out_by size l (fate_by size left l (record_of ports size l)) ≡ line ∷ []
    pub is : record_of ports size line ≡ Frame port h4 flag place next
    pub count : h4 % 16 ≡ get_or (left port) 0 0
    pub end : line.end ≡ l.end
    pub long : length line.bytes ≡ length l.bytes
    pub free : Free l.bytes → Free line.bytes
    pub bytes : (i : ℕ) → i ≢ digit_place size l → get_or line.bytes i 0 ≡ get_or l.bytes i 0
    pub note : (n : ℕ) → note_by size n l (fate_by size left l (record_of ports size l)) ≡ altered_note size n l line

  -- A line of a port with its next count due: it comes out as it is where it has that count, else with that one digit put, and then its note is the one of what was altered.
  pub came : (left : ℕ → List ℕ) (l : Line) (port h4 : ℕ) (flag : Bool) (place next : ℕ) → record_of ports size l ≡ Frame port h4 flag place next → get_or (left port) 0 0 < 16 → Came left l port
  came left l port h4 flag place next e b = go (eqb (h4 % 16) (get_or (left port) 0 0)) refl
    where
      fated : out_by size l (fate_by size left l (record_of ports size l)) ≡ out_by size l (fate_to size l (h4 % 16) (get_or (left port) 0 0))
      fated = ap (λ (r : Record). out_by size l (fate_by size left l r)) e

      noted : (n : ℕ) → note_by size n l (fate_by size left l (record_of ports size l)) ≡ note_by size n l (fate_to size l (h4 % 16) (get_or (left port) 0 0))
      noted n = ap (λ (r : Record). note_by size n l (fate_by size left l r)) e

      go : (t : Bool) → eqb (h4 % 16) (get_or (left port) 0 0) ≡ t → Came left l port
      go true t =
          record {
            line = l;
            h4 = h4;
            flag = flag;
            place = place;
            next = next;
            out = fated ∙ ap (λ (u : Bool). out_by size l (cond u F.Kept (F.Restored (digit_in size l) (capital (get_or (left port) 0 0))))) t;
            is = e;
            count = eqb-true (h4 % 16) (get_or (left port) 0 0) t;
            end = refl;
            long = refl;
            free = λ f. f;
            bytes = λ i d. refl;
            note = λ n. noted n ∙ (ap (λ (u : Bool). note_by size n l (cond u F.Kept (F.Restored (digit_in size l) (capital (get_or (left port) 0 0))))) t ∙ sym (kept_note size n l));
          }
      go false t =
          let d = capital_digit (get_or (left port) 0 0) b in
          record {
            line = with_digit size l (capital (get_or (left port) 0 0));
            h4 = h4 / 16 * 16 + get_or (left port) 0 0;
            flag = flag;
            place = place;
            next = next;
            out = fated ∙ ap (λ (u : Bool). out_by size l (cond u F.Kept (F.Restored (digit_in size l) (capital (get_or (left port) 0 0))))) t;
            is = with_count ports size l port h4 flag place next e (get_or (left port) 0 0) b;
            count = omega arith;
            end = refl;
            long = length-set l.bytes (digit_place size l) (capital (get_or (left port) 0 0));
            free = λ f. free_set l.bytes (digit_place size l) (capital (get_or (left port) 0 0)) f (digit_no_end (capital (get_or (left port) 0 0)) (omega arith));
            bytes = λ i k. get_or-set_other l.bytes (digit_place size l) i (capital (get_or (left port) 0 0)) 0 k;
            note =
                λ n.
                noted n
                ∙ (ap (λ (u : Bool). note_by size n l (cond u F.Kept (F.Restored (digit_in size l) (capital (get_or (left port) 0 0))))) t
                ∙ sym (altered_note_lem ports size l port h4 flag place next e (get_or (left port) 0 0) b (eqb-false (h4 % 16) (get_or (left port) 0 0) t) n));
          }

  abbrev pub out_of : (ℕ → List ℕ) → List Line → List Line
  out_of left ls = mended_lines size (judged_by ports size left ls)

  -- the count that is left for a frame's line
  pub next_count : (left : ℕ → List ℕ) (l : Line) (ls : List Line) → Fits left (l ∷ ls) → (port h4 : ℕ) (flag : Bool) (place next : ℕ) → record_of ports size l ≡ Frame port h4 flag place next
      → (length (left port) ≡ suc (length (counts_of ports size port ls))) × (get_or (left port) 0 0 < 16)
  next_count left l ls h port h4 flag place next e =
      let k : length (left port) ≡ suc (length (counts_of ports size port ls)) =
      (h port).0 ∙ (ap (λ (r : Record). length (count_by port r (counts_of ports size port ls))) e ∙ ap (λ (b : Bool). length (cond b (h4 % 16 ∷ counts_of ports size port ls) (counts_of ports size port ls))) (eq-eqb port port refl)) in
      (k, head_count (left port) (length (counts_of ports size port ls)) k (h port).1)

  -- a line that comes out, or none
  pub out_frame : (left : ℕ → List ℕ) (l : Line) (ls : List Line) (port : ℕ) (c : Came left l port) → out_of left (l ∷ ls) ≡ c.line ∷ out_of (left_by left (record_of ports size l)) ls
  out_frame left l ls port c = ap (λ (x : List Line). x ++ out_of (left_by left (record_of ports size l)) ls) c.out

  pub out_other : (left : ℕ → List ℕ) (l : Line) (ls : List Line) → is_frame (record_of ports size l) ≡ false → out_of left (l ∷ ls) ≡ out_of (left_by left (record_of ports size l)) ls
  out_other left l ls e = ap (λ (f : Fate). out_by size l f ++ out_of (left_by left (record_of ports size l)) ls) (fate_other size left l (record_of ports size l) e)

  -- the counts of what comes out are those that were left
  pub counts_out : (ls : List Line) (left : ℕ → List ℕ) → Fits left ls → (port : ℕ) → counts_of ports size port (out_of left ls) ≡ left port
  counts_out [] left h port = empty (left port) (h port).0
  counts_out (l ∷ ls) left h port = go (read_of ports size l) (counts_out ls (left_by left (record_of ports size l)) (fits_next left l ls h) port)
    where
      go : Read ports size l → counts_of ports size port (out_of (left_by left (record_of ports size l)) ls) ≡ left_by left (record_of ports size l) port → counts_of ports size port (out_of left (l ∷ ls)) ≡ left port
      go (other e) r = ap (counts_of ports size port) (out_other left l ls e) ∙ (r ∙ left_other left (record_of ports size l) port e)
      go (frame p h4 flag place next e) r =
          let n = next_count left l ls h p h4 flag place next e in
          let c = came left l p h4 flag place next e n.1 in
          ap (counts_of ports size port) (out_frame left l ls p c)
          ∙ (ap (λ (x : Record). count_by port x (counts_of ports size port (out_of (left_by left (record_of ports size l)) ls))) c.is
          ∙ (ap (λ (x : List ℕ). cond (eqb p port) (c.h4 % 16 ∷ x) x) (r ∙ ap (λ (x : Record). left_by left x port) e) ∙ at (eqb p port) refl (c.h4 % 16) c.count n.0))
        where
          at : (b : Bool) → eqb p port ≡ b → (x : ℕ) → x ≡ get_or (left p) 0 0 → length (left p) ≡ suc (length (counts_of ports size p ls))
              → cond b (x ∷ cond b (drop 1 (left port)) (left port)) (cond b (drop 1 (left port)) (left port)) ≡ left port
          at true t x k m =
              let s = eqb-true p port t in
              ap₂ (λ (y : ℕ) (q : ℕ). y ∷ drop 1 (left q)) k (sym s) ∙ (whole (left p) (length (counts_of ports size p ls)) m ∙ ap left s)
          at false t x k m = refl

  -- every one of them is a frame
  abbrev pub Frames : List Line → Type 0
  Frames [] = Unit {0}
  Frames (l ∷ ls) = (is_frame (record_of ports size l) ≡ true) × Frames ls

  pub frames_out : (ls : List Line) (left : ℕ → List ℕ) → Fits left ls → Frames (out_of left ls)
  frames_out [] left h = tt
  frames_out (l ∷ ls) left h = go (read_of ports size l) (frames_out ls (left_by left (record_of ports size l)) (fits_next left l ls h))
    where
      go : Read ports size l → Frames (out_of (left_by left (record_of ports size l)) ls) → Frames (out_of left (l ∷ ls))
      go (other e) r = rw (out_other left l ls e) r
      go (frame p h4 flag place next e) r =
          let n = next_count left l ls h p h4 flag place next e in
          let c = came left l p h4 flag place next e n.1 in
          rw (out_frame left l ls p c) (ap is_frame c.is, r)

  -- they stand as the torn lines did
  out_none : (left : ℕ → List ℕ) (ls : List Line) → ls ≡ [] → out_of left ls ≡ []
  out_none left ls e = ap (out_of left) e

  pub ended_out : (ls : List Line) (left : ℕ → List ℕ) → Fits left ls → Ended ls → Ended (out_of left ls)
  ended_out [] left h d = tt
  ended_out (l ∷ ls) left h d = go (read_of ports size l) (ended_out ls (left_by left (record_of ports size l)) (fits_next left l ls h) d.1)
    where
      go : Read ports size l → Ended (out_of (left_by left (record_of ports size l)) ls) → Ended (out_of left (l ∷ ls))
      go (other e) r = rw (out_other left l ls e) r
      go (frame p h4 flag place next e) r =
          let n = next_count left l ls h p h4 flag place next e in
          let c = came left l p h4 flag place next e n.1 in
          rw (out_frame left l ls p c) ((c.free d.0.0, at c d.0.1), r)
        where
          at : (c : Came left l p) → (l.end ≡ LINE-END ∷ []) ⊎ ((l.end ≡ []) × (0 < length l.bytes) × (ls ≡ []))
              → (c.line.end ≡ LINE-END ∷ []) ⊎ ((c.line.end ≡ []) × (0 < length c.line.bytes) × (out_of (left_by left (record_of ports size l)) ls ≡ []))
          at c (inl x) = inl (c.end ∙ x)
          at c (inr x) = let y = x.1 in let z = c.long in inr (c.end ∙ x.0, omega arith, out_none (left_by left (record_of ports size l)) ls x.2)

  -- Lines whose ports have their own counts left

  own_by : (left : ℕ → List ℕ) (r : Record) (port : ℕ) (counts : List ℕ) → left port ≡ count_by port r counts → left_by left r port ≡ counts
  own_by left (Frame p h4 flag place next) port counts e = go (eqb p port) e
    where
      go : (b : Bool) → left port ≡ cond b (h4 % 16 ∷ counts) counts → cond b (drop 1 (left port)) (left port) ≡ counts
      go true k = ap (drop 1) k
      go false k = k
  own_by left (Malformed next) port counts e = e
  own_by left Long port counts e = e
  own_by left Unfinished port counts e = e
  own_by left End port counts e = e

  own_fate : (left : ℕ → List ℕ) (l : Line) (r : Record) (counts : ℕ → List ℕ) → is_frame r ≡ true → ((port : ℕ) → left port ≡ count_by port r (counts port)) → fate_by size left l r ≡ F.Kept
  own_fate left l (Frame p h4 flag place next) counts e h =
      let k : left p ≡ h4 % 16 ∷ counts p = h p ∙ ap (λ (b : Bool). cond b (h4 % 16 ∷ counts p) (counts p)) (eq-eqb p p refl) in
      let t : eqb (h4 % 16) (get_or (left p) 0 0) ≡ true = eq-eqb (h4 % 16) (get_or (left p) 0 0) (sym (ap (λ (x : List ℕ). get_or x 0 0) k)) in
      ap (λ (u : Bool). cond u F.Kept (F.Restored (digit_in size l) (capital (get_or (left p) 0 0)))) t
  own_fate left l (Malformed next) counts e h = absurd (true≢false (sym e))
  own_fate left l Long counts e h = absurd (true≢false (sym e))
  own_fate left l Unfinished counts e h = absurd (true≢false (sym e))
  own_fate left l End counts e h = absurd (true≢false (sym e))

  -- come out as they are, and there is no note
  pub own_out : (ls : List Line) (left : ℕ → List ℕ) → Frames ls → ((port : ℕ) → left port ≡ counts_of ports size port ls) → (n : ℕ)
      → (out_of left ls ≡ ls) × (notes_from size n (judged_by ports size left ls) ≡ [])
  own_out [] left f h n = (refl, refl)
  own_out (l ∷ ls) left f h n =
      let k = own_fate left l (record_of ports size l) (λ port. counts_of ports size port ls) f.0 h in
      let r = own_out ls (left_by left (record_of ports size l)) f.1 (λ port. own_by left (record_of ports size l) port (counts_of ports size port ls) (h port)) (suc n) in (
        ap (λ (x : Fate). out_by size l x ++ out_of (left_by left (record_of ports size l)) ls) k ∙ ap (λ (x : List Line). l ∷ x) r.0,
        ap (λ (x : Fate). note_by size n l x ++ notes_from size (suc n) (judged_by ports size (left_by left (record_of ports size l)) ls)) k ∙ r.1,
      )

  -- Counts followed

  counts_by_lem : (port : ℕ) (r : Record) (counts : List ℕ) → Counts counts → Counts (count_by port r counts)
  counts_by_lem port (Frame p h4 flag place next) counts h = go (eqb p port)
    where
      go : (b : Bool) → Counts (cond b (h4 % 16 ∷ counts) counts)
      go true = (omega arith, h)
      go false = h
  counts_by_lem port (Malformed next) counts h = h
  counts_by_lem port Long counts h = h
  counts_by_lem port Unfinished counts h = h
  counts_by_lem port End counts h = h

  pub counts_are : (port : ℕ) (ls : List Line) → Counts (counts_of ports size port ls)
  counts_are port [] = tt
  counts_are port (l ∷ ls) = counts_by_lem port (record_of ports size l) (counts_of ports size port ls) (counts_are port ls)

  abbrev pub followed_left : Bool → List Line → ℕ → List ℕ
  followed_left has ls port = followed_if has (counts_of ports size port ls)

  pub fits_followed : (has : Bool) (ls : List Line) → Fits (followed_left has ls) ls
  fits_followed has ls port = (if_length has (counts_of ports size port ls), if_counts has (counts_of ports size port ls) (counts_are port ls))

  -- 'Mending a mended recording changes nothing', of the lines behind the first
  pub lines_again : (has : Bool) (ls : List Line) (n : ℕ) → (out_of (followed_left has (out_of (followed_left has ls) ls)) (out_of (followed_left has ls) ls) ≡ out_of (followed_left has ls) ls)
      × (notes_from size n (judged_by ports size (followed_left has (out_of (followed_left has ls) ls)) (out_of (followed_left has ls) ls)) ≡ [])
  lines_again has ls n =
      own_out (out_of (followed_left has ls) ls) (followed_left has (out_of (followed_left has ls) ls)) (frames_out ls (followed_left has ls) (fits_followed has ls))
      (λ port.
      let c : counts_of ports size port (out_of (followed_left has ls) ls) ≡ followed_if has (counts_of ports size port ls) = counts_out ls (followed_left has ls) (fits_followed has ls) port in
      ap (followed_if has) c ∙ (if_twice has (counts_of ports size port ls) (counts_are port ls) ∙ sym c))
      n
