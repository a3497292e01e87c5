-- 'all other lines come out unchanged and in order', and 'For each line it dropped or altered it writes line number, field, old and new text'.
use Rattle.std.specs.Prelude.{◌≡◌, refl, Bool, true, false, cond, List, [], ◌∷◌, ◌++◌, ℕ, suc, drop}
use Rattle.std.proofs.Common.{sym, ap, ◌∙◌}
use Rattle.recording.specs.Record.{is_frame}
use Rattle.mending.specs.Beside.{AllAlike, altered_note, notes_beside, well_formed}
use Rattle.mending.specs.Laws.Lines.{Fits, Read, came, fate_other, fits_followed, fits_next, followed_left, next_count, out_frame, out_other, out_of, read_of}
use Rattle.mending.specs.Laws.Lines.{Read as R}
use Rattle.mending.specs.Laws.Opened.{mended_lines_lem, notes_are, counted_in, ports_in, size_in}
use Rattle.mending.specs.Lines.{Fate, Line, judged_by, left_by, lines_with, record_of}
use Rattle.mending.specs.Mending.{Opened, mended_of, note_by, note_text, notes_from, notes_of}
use Rattle.text.specs.Ascii.{ascii}

module _ (ports size : ℕ) where
  -- the lines that come out are the well-formed ones, in order
  alike_out : (ls : List Line) (left : ℕ → List ℕ) → Fits ports size left ls → AllAlike size (well_formed ports size ls) (out_of ports size left ls)
  alike_out [] left h = tt
  alike_out (l ∷ ls) left h = go (read_of ports size l) (alike_out ls (left_by left (record_of ports size l)) (fits_next ports size left l ls h))
    where
      go : Read ports size l → AllAlike size (well_formed ports size ls) (out_of ports size (left_by left (record_of ports size l)) ls) → AllAlike size (well_formed ports size (l ∷ ls)) (out_of ports size left (l ∷ ls))
      go (R.other e) r = rw (e, out_other ports size left l ls e) r
      go (R.frame p h4 flag place next e) r =
          let n = next_count ports size left l ls h p h4 flag place next e in
          let c = came ports size left l p h4 flag place next e n.1 in
          rw (ap is_frame e, out_frame ports size left l ls p c) (record { end = c.end; long = c.long; bytes = c.bytes }, r)

  -- a malformed line beside any lines
  beside_other : (n : ℕ) (l : Line) (ls ms : List Line) → is_frame (record_of ports size l) ≡ false → notes_beside ports size n (l ∷ ls) ms ≡ note_text n (ascii "line") l.bytes [] ++ notes_beside ports size (suc n) ls ms
  beside_other n l ls [] e = rw e
  beside_other n l ls (m ∷ ms) e = rw e

  notes_out : (ls : List Line) (left : ℕ → List ℕ) → Fits ports size left ls → (n : ℕ) → notes_from size n (judged_by ports size left ls) ≡ notes_beside ports size n ls (out_of ports size left ls)
  notes_out [] left h n = refl
  notes_out (l ∷ ls) left h n = go (read_of ports size l) (notes_out ls (left_by left (record_of ports size l)) (fits_next ports size left l ls h) (suc n))
    where
      go : Read ports size l → notes_from size (suc n) (judged_by ports size (left_by left (record_of ports size l)) ls) ≡ notes_beside ports size (suc n) ls (out_of ports size (left_by left (record_of ports size l)) ls)
          → notes_from size n (judged_by ports size left (l ∷ ls)) ≡ notes_beside ports size n (l ∷ ls) (out_of ports size left (l ∷ ls))
      go (R.other e) r =
          ap (λ (f : Fate). note_by size n l f ++ notes_from size (suc n) (judged_by ports size (left_by left (record_of ports size l)) ls)) (fate_other size left l (record_of ports size l) e)
          ∙ (ap (λ (x : List ℕ). note_text n (ascii "line") l.bytes [] ++ x) r
          ∙ (sym (beside_other n l ls (out_of ports size (left_by left (record_of ports size l)) ls) e) ∙ ap (notes_beside ports size n (l ∷ ls)) (sym (out_other ports size left l ls e))))
      go (R.frame p h4 flag place next e) r =
          let k = next_count ports size left l ls h p h4 flag place next e in
          let c = came ports size left l p h4 flag place next e k.1 in
          let f : is_frame (record_of ports size l) ≡ true = ap is_frame e in
          ap (λ (x : List ℕ). x ++ notes_from size (suc n) (judged_by ports size (left_by left (record_of ports size l)) ls)) (c.note n)
          ∙ (ap (λ (x : List ℕ). altered_note size n l c.line ++ x) r
          ∙ (ap (λ (b : Bool). cond b (altered_note size n l c.line ++ notes_beside ports size (suc n) ls (out_of ports size (left_by left (record_of ports size l)) ls))
          (note_text n (ascii "line") l.bytes [] ++ notes_beside ports size (suc n) ls (c.line ∷ out_of ports size (left_by left (record_of ports size l)) ls))) (sym f)
          ∙ ap (notes_beside ports size n (l ∷ ls)) (sym (out_frame ports size left l ls p c))))

-- The first line is as it was. Behind it come the well-formed lines in order, each byte for byte but for the fourth byte before its payload.
pub others_unchanged : (t : List ℕ) (o : Opened t) → (lines_with (mended_of t) ≡ o.first ∷ drop 1 (lines_with (mended_of t)))
    × AllAlike o.settings.size (well_formed o.settings.ports o.settings.size o.rest) (drop 1 (lines_with (mended_of t)))
others_unchanged t o =
    rw (mended_lines_lem t o) (refl, alike_out (ports_in t o) (size_in t o) o.rest (followed_left (ports_in t o) (size_in t o) (counted_in t o) o.rest) (fits_followed (ports_in t o) (size_in t o) (counted_in t o) o.rest))

-- A line has a note exactly if it was dropped, or is not as it was; the numbers are those of the lines, the old text is the recording's, the new one the mended recording's.
pub notes_exactly : (t : List ℕ) (o : Opened t) → notes_of t ≡ notes_beside o.settings.ports o.settings.size 2 o.rest (drop 1 (lines_with (mended_of t)))
notes_exactly t o =
    rw (mended_lines_lem t o)
    (notes_are t o ∙ notes_out (ports_in t o) (size_in t o) o.rest (followed_left (ports_in t o) (size_in t o) (counted_in t o) o.rest) (fits_followed (ports_in t o) (size_in t o) (counted_in t o) o.rest) 2)
