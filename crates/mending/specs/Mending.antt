-- A recording mended (2026-11): what is answered, the mended recording, and the notes of what was dropped or altered.
use Rattle.std.specs.Prelude.{◌≡◌, Bool, true, ◌&&◌, List, [], ◌∷◌, ◌++◌, ℕ, suc, ◌-◌, get_or, length, take, if◌then◌else◌, ◌==◌}
use Rattle.ground.specs.Types.{Bytes}
use Rattle.mending.specs.Following.{has_count}
use Rattle.mending.specs.Lines.{Fate, Judged, Line, digit_place, judged, line_text, lines_with, mended_lines, text_of}
use Rattle.mending.specs.Lines.{Fate as F}
use Rattle.phases.specs.Sizes.{start_sized}
use Rattle.receiver.specs.Starting.{times_within}
use Rattle.recording.specs.declared.pairs.Settings.{Settings}
use Rattle.recording.specs.declared.opening.Opening.{Opening}
use Rattle.recording.specs.Opening.{line_opening}
use Rattle.recording.specs.declared.opening.Opening.TheVariants as O
use Rattle.text.specs.Ascii.{ascii}
use Rattle.text.specs.Output.{ended, number_text}
use Rattle.text.specs.Text.{LINE-END, TAB}

-- 'Settings out of range' are 4, as in 2026-05; how much store a replay has is not asked
unfoldable pub fitting : Settings → Bool
fitting s =
    start_sized s.kind s.ports s.size s.window && times_within (take s.ports s.hold_off) && times_within (take s.ports s.restore)

abbrev pub answer_by : Opening → ℕ
answer_by (O.Settings s next) = if fitting s then 0 else 4
answer_by O.Malformed = 13
answer_by O.Unfinished = 13
answer_by O.End = 13

-- 'an unreadable first line is 13'; an empty recording has none
abbrev pub opening_of : List Line → Opening
opening_of [] = O.Malformed
opening_of (first ∷ ls) = line_opening 0 first.bytes

unfoldable pub read_answer : Bytes → ℕ
read_answer text = answer_by (opening_of (lines_with text))

-- a note: 'line number, field, old and new text'
abbrev pub note_text : (n : ℕ) (field old new : Bytes) → Bytes
note_text n field old new = ended (number_text n) TAB ++ ended field TAB ++ ended old TAB ++ ended new LINE-END

module _ (size : ℕ) where
  -- H4 with another second digit
  abbrev pub h4_with : Line → ℕ → Bytes
  h4_with l digit = get_or l.bytes (digit_place size l - 1) 0 ∷ digit ∷ []

  -- 'For each line it dropped or altered'
  abbrev pub note_by : (n : ℕ) (l : Line) (fate : Fate) → Bytes
  note_by n l F.Kept = []
  note_by n l (F.Restored old new) = note_text n (ascii "H4") (h4_with l old) (h4_with l new)
  note_by n l F.Dropped = note_text n (ascii "line") l.bytes []

  -- of lines numbered from n
  abbrev pub notes_from : ℕ → List Judged → Bytes
  notes_from n [] = []
  notes_from n (j ∷ js) = note_by n j.line j.fate ++ notes_from (suc n) js

-- the lines behind the first, by its settings
abbrev pub mended_by : Opening → List Line → Bytes
mended_by (O.Settings s next) ls = text_of (mended_lines s.size (judged (has_count s.kind) s.ports s.size ls))
mended_by O.Malformed ls = []
mended_by O.Unfinished ls = []
mended_by O.End ls = []

abbrev pub notes_by : Opening → List Line → Bytes
notes_by (O.Settings s next) ls = notes_from s.size 2 (judged (has_count s.kind) s.ports s.size ls)
notes_by O.Malformed ls = []
notes_by O.Unfinished ls = []
notes_by O.End ls = []

-- the first line stays as it is, and has the number 1
abbrev pub mended_in : List Line → Bytes
mended_in [] = []
mended_in (first ∷ ls) = line_text first ++ mended_by (line_opening 0 first.bytes) ls

abbrev pub notes_in : List Line → Bytes
notes_in [] = []
notes_in (first ∷ ls) = notes_by (line_opening 0 first.bytes) ls

unfoldable pub mended_of : Bytes → Bytes
mended_of text = mended_in (lines_with text)

unfoldable pub notes_of : Bytes → Bytes
notes_of text = notes_in (lines_with text)

-- 9: a length is not the one told
unfoldable pub mend_answer : (text : Bytes) (mended notes : ℕ) → ℕ
mend_answer text mended notes =
    if read_answer text == 0
    then (if mended == length (mended_of text) && notes == length (notes_of text) then 0 else 9)
    else read_answer text

-- a recording that is answered 0: its first line, the settings in it, and the other lines
pub record Opened (t : Bytes) : Type 0 where
  pub first : Line
  pub rest : List Line
  pub settings : Settings
  pub next : ℕ
  pub lines : lines_with t ≡ first ∷ rest
  pub opening : line_opening 0 first.bytes ≡ O.Settings settings next
  pub fits : fitting settings ≡ true
