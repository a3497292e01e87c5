-- The torn recording told again from the mended one and its notes (2026-11).
use Rattle.std.specs.Prelude.{Bool, false, ◌||◌, List, [], ◌∷◌, ◌++◌, ℕ, suc, ◌-◌, drop, get_or, take, if◌then◌else◌, ◌==◌}
use Rattle.std.proofs.lemmas.List.Edits.{sets}
use Rattle.ground.specs.Finite.{same_bytes}
use Rattle.ground.specs.Types.{Bytes}
use Rattle.mending.specs.Lines.{Fate, Judged, Line, digit_place, line_text, lines_with, text_of}
use Rattle.mending.specs.Lines.{Fate as F}
use Rattle.mending.specs.Mending.{opening_of}
use Rattle.recording.specs.declared.opening.Opening.{Opening}
use Rattle.recording.specs.declared.opening.Opening.TheVariants as O
use Rattle.text.specs.Ascii.{ascii}
use Rattle.text.specs.Fields.{value_of}
use Rattle.text.specs.Text.{LINE-END, TAB, lines_of}

-- up to the first tab, and behind it
abbrev pub before : Bytes → Bytes
before [] = []
before (b ∷ l) = if b == TAB then [] else b ∷ before l

abbrev pub behind : Bytes → Bytes
behind [] = []
behind (b ∷ l) = if b == TAB then l else behind l

abbrev pub has_tab : Bytes → Bool
has_tab [] = false
has_tab (b ∷ l) = b == TAB || has_tab l

-- up to the last tab
abbrev pub before_last : Bytes → Bytes
before_last [] = []
before_last (b ∷ l) = if has_tab l then b ∷ before_last l else []

-- a note: its number, its field, and as old text what stands between the second tab and the last
pub record Note : Type 0 where
  pub number : ℕ
  pub field : Bytes
  pub old : Bytes

unfoldable pub note_of : Bytes → Note
note_of line = record { number = value_of 10 0 (before line); field = before (behind line); old = before_last (behind (behind line)) }

abbrev pub notes_read : List (List ℕ) → List Note
notes_read [] = []
notes_read (l ∷ ls) = note_of l ∷ notes_read ls

abbrev no_line : Line
no_line = record { bytes = []; end = [] }

module _ (size : ℕ) where
  -- a line with its old H4
  abbrev pub with_old : Line → Bytes → Line
  with_old l old = record { bytes = sets l.bytes (digit_place size l - 1) old; end = l.end }

  -- lines numbered from n: as many as stand before the next note's number, then the line that was dropped, or the one that was altered
  abbrev pub again_from : (n : ℕ) (notes : List Note) (ls : List Line) → Bytes
  again_from n [] ls = text_of ls
  again_from n (note ∷ notes) ls =
      text_of (take (note.number - n) ls)
      ++ (if same_bytes note.field (ascii "line")
      then note.old ++ (LINE-END ∷ again_from (suc note.number) notes (drop (note.number - n) ls))
      else line_text (with_old (get_or ls (note.number - n) no_line) note.old) ++ again_from (suc note.number) notes (drop (suc (note.number - n)) ls))

abbrev pub size_by : Opening → ℕ
size_by (O.Settings s next) = s.size
size_by O.Malformed = 0
size_by O.Unfinished = 0
size_by O.End = 0

-- by the mended recording and the notes alone
unfoldable pub told_again : Bytes → Bytes → Bytes
told_again mended notes = again_from (size_by (opening_of (lines_with mended))) 1 (notes_read (lines_of notes)) (lines_with mended)

-- What is not told: whether a dropped last line had its end. It gets one.
abbrev pub owed_by : Fate → Bytes → Bytes
owed_by F.Kept end = []
owed_by (F.Restored old new) end = []
owed_by F.Dropped [] = LINE-END ∷ []
owed_by F.Dropped (b ∷ end) = []

abbrev pub owed : List Judged → Bytes
owed [] = []
owed (j ∷ []) = owed_by j.fate j.line.end
owed (j ∷ k ∷ js) = owed (k ∷ js)
