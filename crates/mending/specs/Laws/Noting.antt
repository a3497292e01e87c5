-- The second sweep over lent slices: a note by what is read at a place, and a buffer whose front is what is written.
use Rattle.std.specs.Prelude.{Bool, ◌≡◌, true, false, cond, ℕ, suc, ◌+◌, ◌-◌, ◌≤◌, ◌<◌, eqb, drop}
use Rattle.std.proofs.Math.Path.{refl}
use Rattle.std.proofs.Common.{sym, ap, ◌∙◌, drop_of_length-le, length-append, get_or-drop, length-take-le, take_all, take_at}
use mathlib.Core.List.{List, [], ◌∷◌, ◌++◌, append_assoc, append-nil}
use native.Mathlib.Omega.{arith}
use Rattle.std.proofs.Math.ListN.{get_or-append, get_or, length, take}
use Rattle.std.proofs.Math.Seq.{slice}
use Rattle.std.proofs.lemmas.List.Edits.{sets-eq}
use borrow.Author.Tests.{eq-eqb, ne_eqb}
use Rattle.ground.specs.Truth.{cond_by}
use Rattle.mending.specs.declared.line.Read.{Read}
use Rattle.mending.specs.Laws.Copies.{lines_read, read_next}
use Rattle.mending.specs.Laws.Layout.{frame_layout}
use Rattle.mending.specs.Laws.Sweeps.{note_swept, notes_swept, to_swept}
use Rattle.mending.specs.Laws.Reads.{LiesAt, line_lies, line_at, no_lines, read_at, read_by, slice_here}
use Rattle.mending.specs.Lines.{Line, digit_place, line_text, lines_with, record_of}
use Rattle.mending.specs.Mending.{note_text}
use Rattle.recording.specs.declared.record.Record.{Record}
use Rattle.recording.specs.declared.record.Record.TheVariants.{Frame, Malformed, Long, Unfinished, End}
use Rattle.text.specs.Ascii.{ascii}
use Rattle.text.specs.Laws.Putting.{is_put, put_then, room, shorter}
use Rattle.text.specs.Output.{Put, ended, number_text, put_bytes, put_next}
use Rattle.text.specs.Text.{LINE-END, TAB}

-- the note by two digits that were and are
abbrev pub note_digits : ℕ → ℕ → ℕ → ℕ → List ℕ
note_digits n high old new = cond (eqb old new) [] (note_text n (ascii "H4") (high ∷ old ∷ []) (high ∷ new ∷ []))

unfoldable pub note_read : ℕ → List ℕ → ℕ → List ℕ → ℕ → Read → List ℕ
note_read n text at mended to r =
    cond r.kept (note_digits n (get_or text (r.digit - 1) 0) (get_or text r.digit 0) (get_or mended (to + (r.digit - at)) 0)) (note_text n (ascii "line") (slice at r.end text) [])

abbrev pub to_read : ℕ → ℕ → Read → ℕ
to_read at to r = cond r.kept (to + (r.next - at)) to

-- a byte of the line that lies at a place
byte_here : (at : ℕ) (text : List ℕ) (l : Line) → LiesAt at text l → (i : ℕ) → i < length l.bytes → get_or text (at + i) 0 ≡ get_or l.bytes i 0
byte_here at text l h i k =
    let w = length-append l.bytes l.end in
    sym (get_or-drop at text i 0)
    ∙ (ap (λ (x : List ℕ). get_or x i 0) h.here
    ∙ (get_or-append (line_text l) (drop (at + length (line_text l)) text) 0 i (omega arith) ∙ get_or-append l.bytes l.end 0 i k))

bytes_here : (at : ℕ) (text : List ℕ) (l : Line) → at ≤ length text → LiesAt at text l → slice at (at + length l.bytes) text ≡ l.bytes
bytes_here at text l h y =
    slice_here at text l.bytes (l.end ++ drop (at + length (line_text l)) text) h (y.here ∙ append_assoc l.bytes l.end (drop (at + length (line_text l)) text))

module _ (ports size : ℕ) (mended : List ℕ) (at : ℕ) (text : List ℕ) (more : at < length text) (n to : ℕ) where
  abbrev l : Line
  l = line_at at text

  note_frame_lem : (p h4 : ℕ) (flag : Bool) (place next : ℕ) → record_of ports size l ≡ Frame p h4 flag place next
      → note_read n text at mended to (read_by size at l (Frame p h4 flag place next)) ≡ note_swept ports size mended n to l (Frame p h4 flag place next)
  unfolding note_read record_of digit_place
  note_frame_lem p h4 flag place next e =
      let f = frame_layout ports size 0 0 p h4 flag place next l.bytes e in
      let w = f.layout.whole in
      let d = length l.bytes - (size + size + 4) in
      let y = line_lies at text more in
      let a : get_or text (at + d) 0 ≡ get_or l.bytes d 0 = byte_here at text l y d (omega arith) in
      let z : at + d - 1 ≡ at + (d - 1) = omega arith in
      let b : get_or text (at + (d - 1)) 0 ≡ get_or l.bytes (d - 1) 0 = byte_here at text l y (d - 1) (omega arith) in
      let x : at + d - at ≡ d = omega arith in
      rw (z, a, b, x) refl

  note_dropped : note_read n text at mended to (read_by size at l (Malformed 0)) ≡ note_text n (ascii "line") l.bytes []
  unfolding note_read
  note_dropped = rw (bytes_here at text l (omega arith) (line_lies at text more)) refl

  note_by_lem : (r : Record) → record_of ports size l ≡ r → note_read n text at mended to (read_by size at l r) ≡ note_swept ports size mended n to l r
  note_by_lem (Frame p h4 flag place next) e = note_frame_lem p h4 flag place next e
  note_by_lem (Malformed next) e = note_dropped
  note_by_lem Long e = note_dropped
  note_by_lem Unfinished e = note_dropped
  note_by_lem End e = note_dropped

  to_by : (r : Record) → to_read at to (read_by size at l r) ≡ to_swept ports size mended to l r
  to_by (Frame p h4 flag place next) = omega arith
  to_by (Malformed next) = refl
  to_by Long = refl
  to_by Unfinished = refl
  to_by End = refl

-- what is written, with a text put behind it
pub put_take : {t out new : List ℕ} {at next : ℕ} → at + length t ≤ length out → Put t at out next new → take next new ≡ take at out ++ t
put_take {t} {out} {new} {at} {next} h p =
    let a = length-take-le at out (omega arith) in
    let b : length (take at out ++ t) ≡ next = length-append (take at out) t ∙ (let z = p.behind in omega arith) in
    ap (take next) (p.bytes ∙ sets-eq t out at h) ∙ take_at (take at out ++ t) (drop (at + length t) out) next b

pub record Noting (ports size start : ℕ) (text mended : List ℕ) (at to number written : ℕ) (notes : List ℕ) : Type 0 where
  pub within : at ≤ length text
  pub behind : to ≤ at
  pub few : number ≤ at + 2
  pub inside : written ≤ length notes
  pub long : length notes ≡ length (notes_swept ports size mended 2 start (lines_with (drop start text)))
  pub goes : take written notes ++ notes_swept ports size mended number to (lines_with (drop at text)) ≡ notes_swept ports size mended 2 start (lines_with (drop start text))

module _ (ports size start : ℕ) (text mended : List ℕ) (at to number written : ℕ) (notes : List ℕ) (c : Noting ports size start text mended at to number written notes) (more : at < length text) where
  abbrev r : Read
  r = read_at ports size at text

  abbrev note : List ℕ
  note = note_read number text at mended to r

  note_is : note ≡ note_swept ports size mended number to (line_at at text) (record_of ports size (line_at at text))
  unfolding read_at
  note_is = note_by_lem ports size mended at text more number to (record_of ports size (line_at at text)) refl

  stepped : take written notes ++ (note ++ notes_swept ports size mended (suc number) (to_read at to r) (lines_with (drop r.next text))) ≡ notes_swept ports size mended 2 start (lines_with (drop start text))
  unfolding read_at
  stepped =
      rw (note_is, to_by ports size mended at text more number to (record_of ports size (line_at at text)))
      (ap (λ (ls : List Line). take written notes ++ notes_swept ports size mended number to ls) (sym (lines_read ports size at text more)) ∙ c.goes)

  -- there is room for the note
  pub note_fits : written + length note ≤ length notes
  note_fits =
      let a = ap length stepped in
      let b = length-append (take written notes) (note ++ notes_swept ports size mended (suc number) (to_read at to r) (lines_with (drop r.next text))) in
      let d = length-append note (notes_swept ports size mended (suc number) (to_read at to r) (lines_with (drop r.next text))) in
      let e = length-take-le written notes c.inside in
      let f = c.long in
      omega arith

  pub noting_more : (new : List ℕ) (next-written next-to next_number : ℕ) → Put note written notes next-written new → next-to ≡ to_read at to r → next_number ≡ number + 1
      → next-to ≤ r.next → Noting ports size start text mended r.next next-to next_number next-written new
  noting_more new next-written next-to next_number p e m h =
      let n = read_next ports size at text in
      let y = line_lies at text more in
      let a = y.least in
      let b = y.most in
      let f = note_fits in
      let w = p.behind in
      let k = p.kept in
      let q = c.few in
      let z : next_number ≡ suc number = omega arith in
      record {
        within = omega arith;
        behind = h;
        few = omega arith;
        inside = omega arith;
        long = k ∙ c.long;
        goes = rw (put_take f p, e, z) (append_assoc (take written notes) note (notes_swept ports size mended (suc number) (to_read at to r) (lines_with (drop r.next text))) ∙ stepped);
      }

pub noting_starts : (ports size start : ℕ) (text mended notes : List ℕ) → start ≤ length text → length notes ≡ length (notes_swept ports size mended 2 start (lines_with (drop start text)))
    → Noting ports size start text mended start start 2 0 notes
noting_starts ports size start text mended notes h k = record { within = h; behind = omega arith; few = omega arith; inside = omega arith; long = k; goes = refl }

pub noting_ends : (ports size start : ℕ) (text mended : List ℕ) (at to number written : ℕ) (notes : List ℕ) → Noting ports size start text mended at to number written notes → length text ≤ at
    → notes ≡ notes_swept ports size mended 2 start (lines_with (drop start text))
noting_ends ports size start text mended at to number written notes c h =
    let e : lines_with (drop at text) ≡ [] = ap lines_with (drop_of_length-le text {i = at} h) ∙ no_lines in
    let g : take written notes ≡ notes_swept ports size mended 2 start (lines_with (drop start text)) =
    sym (append-nil (take written notes)) ∙ (ap (λ (ls : List Line). take written notes ++ notes_swept ports size mended number to ls) (sym e) ∙ c.goes) in
    let w = ap length g in
    let k = c.long in
    let l = length-take-le written notes c.inside in
    sym (take_all written notes (omega arith)) ∙ g

-- What the calls promise.

put_more : (y : List ℕ) {x out mid new : List ℕ} {at next last : ℕ} → Put x at out next mid → at + length (x ++ y) ≤ length out → (last ≡ put_next y next mid) × (new ≡ put_bytes y next mid) → Put (x ++ y) at out last new
put_more y p h e = put_then p (is_put (room p y h) e)

pub put_nothing : (out : List ℕ) (at : ℕ) → Put [] at out at out
put_nothing out at = record { behind = omega arith; bytes = refl; kept = refl }

dropped_whole : (n : ℕ) (bytes : List ℕ) → ended (number_text n) TAB ++ ended (ascii "line") TAB ++ bytes ++ (TAB ∷ LINE-END ∷ []) ≡ note_text n (ascii "line") bytes []
dropped_whole n bytes = simp append_assoc

restored_whole : (n high old new : ℕ)
    → ended (number_text n) TAB ++ ended (ascii "H4") TAB ++ (high ∷ old ∷ TAB ∷ high ∷ new ∷ LINE-END ∷ []) ≡ note_text n (ascii "H4") (high ∷ old ∷ []) (high ∷ new ∷ [])
restored_whole n high old new = simp append_assoc

pub dropped_put : (n : ℕ) (bytes out : List ℕ) (at : ℕ) → at + length (note_text n (ascii "line") bytes []) ≤ length out → {a b c d : ℕ} {out₁ out₂ out₃ out₄ : List ℕ}
    → (a ≡ put_next (ended (number_text n) TAB) at out) × (out₁ ≡ put_bytes (ended (number_text n) TAB) at out)
    → (b ≡ put_next (ended (ascii "line") TAB) a out₁) × (out₂ ≡ put_bytes (ended (ascii "line") TAB) a out₁)
    → (c ≡ put_next bytes b out₂) × (out₃ ≡ put_bytes bytes b out₂)
    → (d ≡ put_next (TAB ∷ LINE-END ∷ []) c out₃) × (out₄ ≡ put_bytes (TAB ∷ LINE-END ∷ []) c out₃)
    → Put (note_text n (ascii "line") bytes []) at out d out₄
dropped_put n bytes out at h e f g k =
    let x = ended (number_text n) TAB in
    let y = ended (ascii "line") TAB in
    let four : at + length (x ++ y ++ bytes ++ (TAB ∷ LINE-END ∷ [])) ≤ length out = rw (dropped_whole n bytes) h in
    let three = shorter (x ++ y ++ bytes) (TAB ∷ LINE-END ∷ []) at (length out) four in
    let two = shorter (x ++ y) bytes at (length out) three in
    let p = is_put (shorter x y at (length out) two) e in
    let q = put_more y p two f in
    let r = put_more bytes q three g in
    rw (dropped_whole n bytes) at (put_more (TAB ∷ LINE-END ∷ []) r four k)

pub restored_put : (n high old new : ℕ) (out : List ℕ) (at : ℕ) → at + length (note_text n (ascii "H4") (high ∷ old ∷ []) (high ∷ new ∷ [])) ≤ length out → {a b c : ℕ} {out₁ out₂ out₃ : List ℕ}
    → (a ≡ put_next (ended (number_text n) TAB) at out) × (out₁ ≡ put_bytes (ended (number_text n) TAB) at out)
    → (b ≡ put_next (ended (ascii "H4") TAB) a out₁) × (out₂ ≡ put_bytes (ended (ascii "H4") TAB) a out₁)
    → (c ≡ put_next (high ∷ old ∷ TAB ∷ high ∷ new ∷ LINE-END ∷ []) b out₂) × (out₃ ≡ put_bytes (high ∷ old ∷ TAB ∷ high ∷ new ∷ LINE-END ∷ []) b out₂)
    → Put (note_text n (ascii "H4") (high ∷ old ∷ []) (high ∷ new ∷ [])) at out c out₃
restored_put n high old new out at h e f g =
    let x = ended (number_text n) TAB in
    let y = ended (ascii "H4") TAB in
    let z = high ∷ old ∷ TAB ∷ high ∷ new ∷ LINE-END ∷ [] in
    let three : at + length (x ++ y ++ z) ≤ length out = rw (restored_whole n high old new) h in
    let two = shorter (x ++ y) z at (length out) three in
    let p = is_put (shorter x y at (length out) two) e in
    rw (restored_whole n high old new) at (put_more z (put_more y p two f) three g)

module _ (n : ℕ) (text : List ℕ) (at : ℕ) (mended : List ℕ) (to : ℕ) (r : Read) where
  pub read_dropped_lem : r.kept ≡ false → note_read n text at mended to r ≡ note_text n (ascii "line") (slice at r.end text) []
  unfolding note_read
  read_dropped_lem k = rw k refl

  pub read_same : r.kept ≡ true → (old new : ℕ) → old ≡ get_or text r.digit 0 → new ≡ get_or mended (to + (r.digit - at)) 0 → old ≡ new → note_read n text at mended to r ≡ []
  unfolding note_read
  read_same k old new a b e = rw (k, ← a, ← b, eq-eqb old new e) refl

  pub read_other : r.kept ≡ true → (high old new : ℕ) → high ≡ get_or text (r.digit - 1) 0 → old ≡ get_or text r.digit 0 → new ≡ get_or mended (to + (r.digit - at)) 0 → (old ≡ new → ⊥)
      → note_read n text at mended to r ≡ note_text n (ascii "H4") (high ∷ old ∷ []) (high ∷ new ∷ [])
  unfolding note_read
  read_other k high old new h a b e = rw (k, ← h, ← a, ← b, ne_eqb old new e) refl

-- a turn

module _ (ports size start : ℕ) (text mended : List ℕ) (at to number written : ℕ) (notes : List ℕ) (c : Noting ports size start text mended at to number written notes) (more : at < length text)
    (r : Read) (er : r ≡ read_at ports size at text) where
  pub turn_fits : written + length (note_read number text at mended to r) ≤ length notes
  turn_fits = rw er (note_fits ports size start text mended at to number written notes c more)

  to_within : to_read at to r ≤ r.next
  to_within =
      let a : at ≤ r.next = rw (er, read_next ports size at text) (omega arith) in
      let b = c.behind in
      cond_by (λ (x : ℕ). x ≤ r.next) r.kept (to + (r.next - at)) to (λ k. omega arith) (λ k. omega arith)

  pub note_turn : (new : List ℕ) (next-written next-to : ℕ) → Put (note_read number text at mended to r) written notes next-written new → next-to ≡ to_read at to r
      → Noting ports size start text mended r.next next-to (number + 1) next-written new
  note_turn new next-written next-to p e =
      let w : next-to ≤ r.next = rw e to_within in
      rw er (noting_more ports size start text mended at to number written notes c more new next-written next-to (number + 1) (rw er at p) (rw er at e) refl (rw er at w))
