-- The line that lies at a place of a text, among the text's lines and as the code reads it.
use Rattle.std.specs.Prelude.{◌≡◌, Bool, ℕ, suc, ◌+◌, ◌-◌, ◌%◌, ◌≤◌, ◌<◌, eqb, take}
use Rattle.std.proofs.Math.Path.{refl}
use Rattle.std.proofs.Common.{sym, ap, ◌∙◌, not-suc-le-zero, drop_of_length-le, length-drop, take-append-drop, drop_at, drop-drop, take-add, take_all, take_at}
use Rattle.std.proofs.Math.Bool.{true, false}
use Rattle.std.proofs.lemmas.Bool.{false≢true}
use mathlib.Core.List.{List, [], ◌∷◌, ◌++◌, append_assoc, append-nil}
use native.Mathlib.Omega.{arith}
use Rattle.std.proofs.Math.Dec.{ltb}
use Rattle.std.proofs.Math.ListN.{drop, length, length-append}
use Rattle.std.proofs.Math.Seq.{slice, drop-append-add, drop-append_seam, drop-length, length-take-le}
use borrow.Author.Tests.{ltb-false, ltb-true, ne_eqb}
use Rattle.ground.specs.Finding.{index_of}
use Rattle.mending.specs.declared.line.Read.{Read}
use Rattle.mending.specs.Laws.Layout.{frame_layout, line_placed, placed_at}
use Rattle.mending.specs.Lines.{Line, digit_place, line_text, lines_with, record_of}
use Rattle.recording.specs.Theorems.Lines.{IsLine, is_line}
use Rattle.recording.specs.declared.record.Record.{Record}
use Rattle.recording.specs.declared.record.Record.TheVariants.{Frame, Malformed, Long, Unfinished, End}
use Rattle.recording.specs.Line.{MOST, first_line, found_of, has_end}
use Rattle.recording.specs.Record.{last_record, line_record, record_in}
use Rattle.text.specs.Laws.Lines.{Free, free_line, free_take, last_line, with_end_lem}
use Rattle.text.specs.Text.{LINE-END, lines_of}

-- a line with its end before more text, and one that lacks it

abbrev pub ending : List ℕ → Line
ending l = record { bytes = l; end = LINE-END ∷ [] }

abbrev pub unended : List ℕ → Line
unended l = record { bytes = l; end = [] }

line_first : (l more : List ℕ) → Free l → lines_with (l ++ (LINE-END ∷ more)) ≡ ending l ∷ lines_with more
unfolding lines_with
line_first l more f =
    let e : suc (length l) ≡ length l + 1 = omega arith in
    rw (free_line l more f, drop-append_seam l (LINE-END ∷ more), e, drop-append-add l (LINE-END ∷ more) 1) refl

line_alone : (t : List ℕ) → Free t → 0 < length t → lines_with t ≡ unended t ∷ []
unfolding lines_with
line_alone [] f h = absurd (not-suc-le-zero h)
line_alone (b ∷ t) f h = rw (last_line b t f, drop-length (b ∷ t)) refl

abbrev behind : List ℕ → List ℕ
behind t = drop (index_of LINE-END t + 1) t

split : (t : List ℕ) → index_of LINE-END t < length t → t ≡ first_line t ++ (LINE-END ∷ behind t)
split t h = sym (take-append-drop (index_of LINE-END t + 1) t) ∙ rw (with_end_lem t h, append_assoc)

-- the first of some lines
abbrev first_of : List Line → Line
first_of [] = unended []
first_of (l ∷ ls) = l

unfoldable pub line_at : ℕ → List ℕ → Line
line_at at text = first_of (lines_with (drop at text))

-- a line lies at a place, and the next one behind it
pub record LiesAt (at : ℕ) (text : List ℕ) (l : Line) : Type 0 where
  pub lines : lines_with (drop at text) ≡ l ∷ lines_with (drop (at + length (line_text l)) text)
  pub here : drop at text ≡ line_text l ++ drop (at + length (line_text l)) text
  pub least : 0 < length (line_text l)
  pub most : at + length (line_text l) ≤ length text

pub no_lines : lines_with [] ≡ []
unfolding lines_with lines_of
no_lines = refl

pub lies_ending : (at : ℕ) (text : List ℕ) → at < length text → has_end (drop at text) ≡ true → LiesAt at text (ending (first_line (drop at text)))
lies_ending at text h e =
    let rest = drop at text in
    let k = ltb-true (index_of LINE-END rest) (length rest) e in
    let n : length (first_line rest) ≡ index_of LINE-END rest = length-take-le (index_of LINE-END rest) rest (omega arith) in
    let m : length (line_text (ending (first_line rest))) ≡ index_of LINE-END rest + 1 = length-append (first_line rest) (LINE-END ∷ []) ∙ (let z = n in omega arith) in
    let d : drop (at + length (line_text (ending (first_line rest)))) text ≡ behind rest =
    ap (λ (j : ℕ). drop (at + j) text) m ∙ sym (drop-drop (index_of LINE-END rest + 1) at text) in
    let w = length-drop at text in
    record {
      lines = ap lines_with (split rest k) ∙ line_first (first_line rest) (behind rest) (free_take rest) ∙ rw d refl;
      here = split rest k ∙ rw (d, append_assoc) refl;
      least = omega arith;
      most = omega arith;
    }

pub lies_unended : (at : ℕ) (text : List ℕ) → at < length text → has_end (drop at text) ≡ false → LiesAt at text (unended (drop at text))
lies_unended at text h e =
    let rest = drop at text in
    let k = ltb-false (index_of LINE-END rest) (length rest) e in
    let w = length-drop at text in
    let f : Free rest = rw (take_all (index_of LINE-END rest) rest k) at (free_take rest) in
    let m : length (line_text (unended rest)) ≡ length rest = length-append rest [] ∙ (omega arith) in
    let d : drop (at + length (line_text (unended rest))) text ≡ [] = drop_of_length-le text {i = at + length (line_text (unended rest))} (omega arith) in
    record {
      lines = line_alone rest f (omega arith) ∙ rw (d, no_lines) refl;
      here = rw d (sym (append-nil (line_text (unended rest)) ∙ append-nil rest));
      least = omega arith;
      most = omega arith;
    }

line_is : (at : ℕ) (text : List ℕ) (l : Line) → LiesAt at text l → line_at at text ≡ l
unfolding line_at
line_is at text l h = ap first_of h.lines

pub line_lies : (at : ℕ) (text : List ℕ) → at < length text → LiesAt at text (line_at at text)
line_lies at text h = go (has_end (drop at text)) refl
  where
    go : (b : Bool) → has_end (drop at text) ≡ b → LiesAt at text (line_at at text)
    go true e = let x = lies_ending at text h e in rw (line_is at text (ending (first_line (drop at text))) x) x
    go false e = let x = lies_unended at text h e in rw (line_is at text (unended (drop at text)) x) x

-- a part of a text that stands from a place on
pub slice_here : (at : ℕ) (text x y : List ℕ) → at ≤ length text → drop at text ≡ x ++ y → slice at (at + length x) text ≡ x
slice_here at text x y h e =
    let n = length-take-le at text h in
    ap (drop at) (take-add at (length x) text) ∙ (drop_at (take at text) (take (length x) (drop at text)) at n ∙ (ap (take (length x)) e ∙ take_at x y (length x) refl))

-- What the code finds there.

abbrev pub dropped_to : ℕ → ℕ → Read
dropped_to next end = record { next = next; end = end; digit = 0; port = 0; count = 0; kept = false }

-- the place of the payload, where there is one, and of the next line
abbrev pub place_of : Record → ℕ
place_of (Frame port h4 flag place next) = place
place_of (Malformed next) = 4
place_of Long = 4
place_of Unfinished = 4
place_of End = 4

abbrev pub next_of : Record → ℕ
next_of (Frame port h4 flag place next) = next
next_of (Malformed next) = next
next_of Long = 1
next_of Unfinished = 1
next_of End = 1

-- by a record, of a line that has an end of so many bytes
unfoldable pub read_found : ℕ → Record → Read
read_found back (Frame port h4 flag place next) = record { next = next; end = next - back; digit = place - 4; port = port; count = h4 % 16; kept = true }
read_found back (Malformed next) = dropped_to next (next - back)
read_found back Long = dropped_to 1 0
read_found back Unfinished = dropped_to 1 0
read_found back End = dropped_to 1 0

-- the rest of the text is a line that lacks its end
abbrev pub is_unended : Record → Bool
is_unended (Frame port h4 flag place next) = false
is_unended (Malformed next) = false
is_unended Long = true
is_unended Unfinished = true
is_unended End = false

-- by the line
abbrev pub read_dropped : ℕ → Line → Read
read_dropped at l = dropped_to (at + length (line_text l)) (at + length l.bytes)

abbrev pub read_by : ℕ → ℕ → Line → Record → Read
read_by size at l (Frame port h4 flag place next) =
    record { next = at + length (line_text l); end = at + length l.bytes; digit = at + digit_place size l; port = port; count = h4 % 16; kept = true }
read_by size at l (Malformed next) = read_dropped at l
read_by size at l Long = read_dropped at l
read_by size at l Unfinished = read_dropped at l
read_by size at l End = read_dropped at l

unfoldable pub read_at : ℕ → ℕ → ℕ → List ℕ → Read
read_at ports size at text = read_by size at (line_at at text) (record_of ports size (line_at at text))

module _ (ports size at : ℕ) (l : Line) where
  line_end : (at + length (line_text l)) - length l.end ≡ at + length l.bytes
  line_end = let w = length-append l.bytes l.end in omega arith

  -- the record of a line at its place reads as the line does
  found_reads : read_found (length l.end) (line_record ports size at (at + length (line_text l)) l.bytes) ≡ read_by size at l (record_of ports size l)
  unfolding read_found record_of digit_place
  found_reads = rw (line_placed ports size at (at + length (line_text l)) l.bytes) (go (line_record ports size 0 0 l.bytes) refl (is_line ports size 0 0 l.bytes))
    where
      go : (r : Record) → line_record ports size 0 0 l.bytes ≡ r → IsLine r → read_found (length l.end) (placed_at at (at + length (line_text l)) r) ≡ read_by size at l r
      go (Frame port h4 flag place next) e i =
          let f = frame_layout ports size 0 0 port h4 flag place next l.bytes e in
          let p = f.place_is in
          let w = f.layout.whole in
          let d : (at + place) - 4 ≡ at + (length l.bytes - (size + size + 4)) = omega arith in
          rw (line_end, d) refl
      go (Malformed next) e i = rw line_end refl
      go Long e i = elim i [ ]
      go Unfinished e i = elim i [ ]
      go End e i = elim i [ ]

  -- and it lies as the code asks
  found_place : 4 ≤ place_of (line_record ports size at (at + length (line_text l)) l.bytes)
  found_place = rw (line_placed ports size at (at + length (line_text l)) l.bytes) (go (line_record ports size 0 0 l.bytes) refl)
    where
      go : (r : Record) → line_record ports size 0 0 l.bytes ≡ r → 4 ≤ place_of (placed_at at (at + length (line_text l)) r)
      go (Frame port h4 flag place next) e =
          let f = frame_layout ports size 0 0 port h4 flag place next l.bytes e in
          let p = f.place_is in
          let w = f.layout.whole in
          omega arith
      go (Malformed next) e = omega arith
      go Long e = omega arith
      go Unfinished e = omega arith
      go End e = omega arith

  found_next : next_of (line_record ports size at (at + length (line_text l)) l.bytes) ≡ at + length (line_text l)
  found_next = rw (line_placed ports size at (at + length (line_text l)) l.bytes) (go (line_record ports size 0 0 l.bytes) (is_line ports size 0 0 l.bytes))
    where
      go : (r : Record) → IsLine r → next_of (placed_at at (at + length (line_text l)) r) ≡ at + length (line_text l)
      go (Frame port h4 flag place next) i = refl
      go (Malformed next) i = refl
      go Long i = elim i [ ]
      go Unfinished i = elim i [ ]
      go End i = elim i [ ]

-- what is found is the record of the line at the place
pub record FoundAt (ports size at : ℕ) (text : List ℕ) (back : ℕ) (r : Record) : Type 0 where
  pub place : 4 ≤ place_of r
  pub next : back ≤ next_of r
  pub is : read_found back r ≡ read_at ports size at text

found_line : (ports size at : ℕ) (text : List ℕ) (l : Line) → LiesAt at text l → FoundAt ports size at text (length l.end) (line_record ports size at (at + length (line_text l)) l.bytes)
unfolding read_at
found_line ports size at text l h =
    let n = found_next ports size at l in
    let w = length-append l.bytes l.end in
    record { place = found_place ports size at l; next = omega arith; is = rw (line_is at text l h) (found_reads ports size at l) }

line_ended : (ports size at n : ℕ) (line : List ℕ) → is_unended (line_record ports size at n line) ≡ false
line_ended ports size at n line = go (line_record ports size at n line) (is_line ports size at n line)
  where
    go : (r : Record) → IsLine r → is_unended r ≡ false
    go (Frame port h4 flag place next) i = refl
    go (Malformed next) i = refl
    go Long i = elim i [ ]
    go Unfinished i = elim i [ ]
    go End i = elim i [ ]

module _ (ports size at : ℕ) (text : List ℕ) (h : at < length text) where
  some : eqb (length (drop at text)) 0 ≡ false
  some = ne_eqb (length (drop at text)) 0 (λ (z : length (drop at text) ≡ 0). let w = length-drop at text in omega arith)

  record_ending : has_end (drop at text) ≡ true → record_in ports size at (drop at text) ≡ line_record ports size at (at + length (line_text (ending (first_line (drop at text))))) (first_line (drop at text))
  unfolding record_in found_of
  record_ending e =
      let rest = drop at text in
      let k = ltb-true (index_of LINE-END rest) (length rest) e in
      let n : length (first_line rest) ≡ index_of LINE-END rest = length-take-le (index_of LINE-END rest) rest (omega arith) in
      let m = length-append (first_line rest) (LINE-END ∷ []) in
      let z : at + index_of LINE-END rest + 1 ≡ at + length (line_text (ending (first_line rest))) = omega arith in
      rw (some, e, ← z) refl

  record_unended : has_end (drop at text) ≡ false → is_unended (record_in ports size at (drop at text)) ≡ true
  unfolding record_in found_of
  record_unended e = go (ltb MOST (length (drop at text))) refl
    where
      go : (b : Bool) → ltb MOST (length (drop at text)) ≡ b → is_unended (record_in ports size at (drop at text)) ≡ true
      go true t = rw (some, e, t) refl
      go false t = rw (some, e, t) refl

  last_unended : last_record ports size at (drop at text) ≡ line_record ports size at (at + length (line_text (unended (drop at text)))) (drop at text)
  unfolding last_record
  last_unended = rw (some, append-nil (drop at text)) refl

  -- a line that has its end
  found_here : is_unended (record_in ports size at (drop at text)) ≡ false → FoundAt ports size at text 1 (record_in ports size at (drop at text))
  found_here u = go (has_end (drop at text)) refl
    where
      go : (b : Bool) → has_end (drop at text) ≡ b → FoundAt ports size at text 1 (record_in ports size at (drop at text))
      go true e = rw (record_ending e) (found_line ports size at text (ending (first_line (drop at text))) (lies_ending at text h e))
      go false e = absurd (false≢true (sym u ∙ record_unended e))

  -- and the last one, which lacks it
  found_last : is_unended (record_in ports size at (drop at text)) ≡ true → FoundAt ports size at text 0 (last_record ports size at (drop at text))
  found_last u = go (has_end (drop at text)) refl
    where
      go : (b : Bool) → has_end (drop at text) ≡ b → FoundAt ports size at text 0 (last_record ports size at (drop at text))
      go true e =
          absurd (false≢true (sym (line_ended ports size at (at + length (line_text (ending (first_line (drop at text))))) (first_line (drop at text))) ∙ (ap is_unended (sym (record_ending e)) ∙ u)))
      go false e = rw last_unended (found_line ports size at text (unended (drop at text)) (lies_unended at text h e))

  pub found_of_lem : (r : Record) → r ≡ record_in ports size at (drop at text) → is_unended r ≡ false → FoundAt ports size at text 1 r
  found_of_lem r e u = rw e (found_here (rw e at u))

  pub last_of : (r s : Record) → r ≡ record_in ports size at (drop at text) → is_unended r ≡ true → s ≡ last_record ports size at (drop at text) → FoundAt ports size at text 0 s
  last_of r s e u f = rw f (found_last (rw e at u))

-- where things lie in a text of so many bytes
pub record Bounds (at size : ℕ) (r : Read) : Type 0 where
  pub ahead : at < r.next
  pub within : r.next ≤ size
  pub starts : at ≤ r.end
  pub ends : r.end ≤ r.next
  pub port : r.port < 64
  pub digit : r.kept ≡ true → (at + 2 ≤ r.digit) × (r.digit < r.end)

dropped_bounds : (at : ℕ) (text : List ℕ) → at < length text → Bounds at (length text) (read_dropped at (line_at at text))
dropped_bounds at text h =
    let y = line_lies at text h in
    let a = y.least in
    let b = y.most in
    let w = length-append (line_at at text).bytes (line_at at text).end in
    record { ahead = omega arith; within = omega arith; starts = omega arith; ends = omega arith; port = omega arith; digit = λ (z : false ≡ true). absurd (false≢true z) }

frame_bounds : (ports size at : ℕ) (text : List ℕ) (port h4 : ℕ) (flag : Bool) (place next : ℕ) → at < length text → ports ≤ 64 → line_record ports size 0 0 (line_at at text).bytes ≡ Frame port h4 flag place next
    → Bounds at (length text) (read_by size at (line_at at text) (Frame port h4 flag place next))
unfolding digit_place
frame_bounds ports size at text port h4 flag place next h m e =
    let y = line_lies at text h in
    let a = y.least in
    let b = y.most in
    let w = length-append (line_at at text).bytes (line_at at text).end in
    let f = frame_layout ports size 0 0 port h4 flag place next (line_at at text).bytes e in
    let x = f.layout.whole in
    let q = f.layout.below in
    record { ahead = omega arith; within = omega arith; starts = omega arith; ends = omega arith; port = omega arith; digit = λ z. (omega arith, omega arith) }

pub read_bounds : (ports size at : ℕ) (text : List ℕ) → at < length text → ports ≤ 64 → Bounds at (length text) (read_at ports size at text)
unfolding read_at record_of
read_bounds ports size at text h m = go (line_record ports size 0 0 (line_at at text).bytes) refl
  where
    go : (r : Record) → line_record ports size 0 0 (line_at at text).bytes ≡ r → Bounds at (length text) (read_by size at (line_at at text) r)
    go (Frame port h4 flag place next) e = frame_bounds ports size at text port h4 flag place next h m e
    go (Malformed next) e = dropped_bounds at text h
    go Long e = dropped_bounds at text h
    go Unfinished e = dropped_bounds at text h
    go End e = dropped_bounds at text h

pub read_of : (ports size at : ℕ) (text : List ℕ) → at < length text → ports ≤ 64 → (back : ℕ) (r : Record) → FoundAt ports size at text back r → (q : Read) → q ≡ read_found back r
    → (q ≡ read_at ports size at text) × Bounds at (length text) q
read_of ports size at text h few back r f q e = let z : q ≡ read_at ports size at text = e ∙ f.is in (z, rw z (read_bounds ports size at text h few))
