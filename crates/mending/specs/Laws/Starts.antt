-- The first line of a recording as the code reads it, and what the lines behind it make of the whole.
use Rattle.std.specs.Prelude.{◌≡◌, Bool, cond, ◌&&◌, List, [], ◌∷◌, ◌++◌, ℕ, ◌+◌, ◌≤◌, ◌<◌, eqb, drop, take}
use Rattle.std.proofs.Math.Path.{refl, sym}
use Rattle.std.proofs.Common.{ap, ◌∙◌, append-nil, take_at}
use Rattle.std.proofs.Math.Bool.{true, false}
use native.Mathlib.Omega.{arith}
use Rattle.std.proofs.Math.Dec.{ltb}
use Rattle.std.proofs.Math.ListN.{length, length-append}
use Rattle.std.proofs.Math.Seq.{length-take-le}
use borrow.Author.Tests.{lt-leb, ltb-true, ne_eqb}
use Rattle.ground.specs.Finding.{index_of}
use Rattle.ground.specs.Truth.{and_left}
use Rattle.mending.specs.declared.opening.Start.{Start}
use Rattle.mending.specs.Following.{has_count}
use Rattle.mending.specs.Laws.Reads.{LiesAt, ending, lies_ending, lies_unended, unended}
use Rattle.mending.specs.Lines.{Line, judged, line_text, lines_with, mended_lines, text_of}
use Rattle.mending.specs.Mending.{answer_by, fitting, mended_in, mended_of, notes_from, notes_in, notes_of, opening_of, read_answer}
use Rattle.phases.specs.Sizes.{start_sized}
use Rattle.receiver.specs.Laws.Sizes.{start_sizes_of}
use Rattle.receiver.specs.Starting.{times_within}
use Rattle.recording.specs.Theorems.Lines.{line_opens, opens_to}
use Rattle.recording.specs.declared.pairs.Settings.{Settings}
use Rattle.recording.specs.Line.{MOST, first_line, found_of, has_end}
use Rattle.recording.specs.declared.opening.Opening.{Opening}
use Rattle.recording.specs.Opening.{line_opening, opening_in}
use Rattle.recording.specs.declared.opening.Opening.TheVariants as O
use Rattle.text.specs.Text.{LINE-END, lines_of}

abbrev pub no_start : ℕ → Start
no_start answer = record { next = 0; ports = 0; size = 0; counted = false; answer = answer }

abbrev pub start_as : Settings → ℕ → Start
start_as s next = record { next = next; ports = s.ports; size = s.size; counted = has_count s.kind; answer = 0 }

abbrev pub start_with : Settings → ℕ → Start
start_with s next = cond (fitting s) (start_as s next) (no_start 4)

abbrev pub start_by : Opening → Start
start_by (O.Settings s next) = start_with s next
start_by O.Malformed = no_start 13
start_by O.Unfinished = no_start 13
start_by O.End = no_start 13

unfoldable pub start_of : List ℕ → Start
start_of text = start_by (opening_in 0 true text)

-- settings in range

abbrev pub times_both : Settings → Bool
times_both s = times_within (take s.ports s.hold_off) && times_within (take s.ports s.restore)

abbrev pub is_sized : Settings → Bool
is_sized s = start_sized s.kind s.ports s.size s.window

pub fits_not : (s : Settings) → is_sized s ≡ false → false ≡ fitting s
unfolding fitting
fits_not s t = rw t

pub fits_by : (s : Settings) → is_sized s ≡ true → times_both s ≡ fitting s
unfolding fitting
fits_by s t = rw t

pub few_ports : (s : Settings) → is_sized s ≡ true → s.ports ≤ 64
few_ports s t = (start_sizes_of s.kind s.ports s.size s.window t).few_ports

fitting_sized : (s : Settings) → fitting s ≡ true → is_sized s ≡ true
unfolding fitting
fitting_sized s t = and_left (is_sized s) (times_within (take s.ports s.hold_off)) (and_left (is_sized s && times_within (take s.ports s.hold_off)) (times_within (take s.ports s.restore)) t)

-- The first line of a text that has one.

opening_long : (text : List ℕ) → MOST < length text → line_opening 0 text ≡ O.Malformed
unfolding line_opening
opening_long text k = rw (lt-leb (length text) MOST k) refl

module _ (text : List ℕ) (h : 0 < length text) where
  some : eqb (length text) 0 ≡ false
  some = ne_eqb (length text) 0 (λ (z : length text ≡ 0). omega arith)

  opens_ending : has_end text ≡ true → opening_in 0 true text ≡ opens_to (length (line_text (ending (first_line text)))) (line_opening 0 (first_line text))
  unfolding opening_in found_of
  opens_ending e =
      let k = ltb-true (index_of LINE-END text) (length text) e in
      let n : length (first_line text) ≡ index_of LINE-END text = length-take-le (index_of LINE-END text) text (omega arith) in
      let m = length-append (first_line text) (LINE-END ∷ []) in
      let z : 0 + index_of LINE-END text + 1 ≡ length (line_text (ending (first_line text))) = omega arith in
      rw (some, e, z) (line_opens (length (line_text (ending (first_line text)))) 0 (first_line text))

  opens_unended : has_end text ≡ false → opening_in 0 true text ≡ opens_to (length (line_text (unended text))) (line_opening 0 text)
  unfolding opening_in found_of
  opens_unended e = go (ltb MOST (length text)) refl
    where
      go : (b : Bool) → ltb MOST (length text) ≡ b → opening_in 0 true text ≡ opens_to (length (line_text (unended text))) (line_opening 0 text)
      go true t = rw (some, e, t, opening_long text (ltb-true MOST (length text) t)) refl
      go false t =
          let z : 0 + length text ≡ length (line_text (unended text)) = sym (ap length (append-nil text) ∙ (omega arith)) in
          rw (some, e, t, z) (line_opens (length (line_text (unended text))) 0 text)

-- the first line of a text, with how it opens
record First (text : List ℕ) : Type 0 where
  line : Line
  lies : LiesAt 0 text line
  opens : opening_in 0 true text ≡ opens_to (length (line_text line)) (line_opening 0 line.bytes)

first : (text : List ℕ) → 0 < length text → First text
first text h = go (has_end text) refl
  where
    go : (b : Bool) → has_end text ≡ b → First text
    go true e = record { line = ending (first_line text); lies = lies_ending 0 text h e; opens = opens_ending text h e }
    go false e = record { line = unended text; lies = lies_unended 0 text h e; opens = opens_unended text h e }

answer_by_lem : (n : ℕ) (o : Opening) → (start_by (opens_to n o)).answer ≡ answer_by o
answer_by_lem n (O.Settings s next) = go (fitting s)
  where
    go : (b : Bool) → (cond b (start_as s n) (no_start 4)).answer ≡ cond b 0 4
    go true = refl
    go false = refl
answer_by_lem n O.Malformed = refl
answer_by_lem n O.Unfinished = refl
answer_by_lem n O.End = refl

pub start_answer_lem : (text : List ℕ) → (start_of text).answer ≡ read_answer text
unfolding start_of read_answer opening_in found_of lines_with lines_of
start_answer_lem [] = refl
start_answer_lem (b ∷ t) =
    let f = first (b ∷ t) (omega arith) in
    ap (λ (o : Opening). (start_by o).answer) f.opens ∙ (answer_by_lem (length (line_text f.line)) (line_opening 0 f.line.bytes) ∙ ap (λ (ls : List Line). answer_by (opening_of ls)) (sym f.lies.lines))

-- what follows from settings that are taken
pub record Opens (text : List ℕ) (s : Start) : Type 0 where
  pub within : s.next ≤ length text
  pub few : s.ports ≤ 64
  pub mended_is : mended_of text ≡ take s.next text ++ text_of (mended_lines s.size (judged s.counted s.ports s.size (lines_with (drop s.next text))))
  pub notes_is : notes_of text ≡ notes_from s.size 2 (judged s.counted s.ports s.size (lines_with (drop s.next text)))

opens_by : (text : List ℕ) (l : Line) → LiesAt 0 text l → (o : Opening) → line_opening 0 l.bytes ≡ o → (start_by (opens_to (length (line_text l)) o)).answer ≡ 0 → Opens text (start_by (opens_to (length (line_text l)) o))
unfolding mended_of notes_of
opens_by text l h O.Malformed e z = absurd (omega arith)
opens_by text l h O.Unfinished e z = absurd (omega arith)
opens_by text l h O.End e z = absurd (omega arith)
opens_by text l h (O.Settings s next) e z = go (fitting s) refl z
  where
    go : (b : Bool) → fitting s ≡ b → (cond b (start_as s (length (line_text l))) (no_start 4)).answer ≡ 0 → Opens text (cond b (start_as s (length (line_text l))) (no_start 4))
    go true t z =
        let n = length (line_text l) in
        let z : 0 + n ≡ n = omega arith in
        let y : take n text ≡ line_text l = ap (take n) h.here ∙ take_at (line_text l) (drop (0 + n) text) n refl in
        record {
          within = (let m = h.most in omega arith);
          few = few_ports s (fitting_sized s t);
          mended_is = ap mended_in h.lines ∙ rw (e, y, z) refl;
          notes_is = ap notes_in h.lines ∙ rw (e, z) refl;
        }
    go false t z = absurd (omega arith)

pub opens : (text : List ℕ) → (start_of text).answer ≡ 0 → Opens text (start_of text)
unfolding start_of opening_in found_of
opens [] z = absurd (omega arith)
opens (b ∷ t) z =
    let f = first (b ∷ t) (omega arith) in
    rw f.opens (opens_by (b ∷ t) f.line f.lies (line_opening 0 f.line.bytes) refl (rw f.opens at z))
