-- A torn recording mended, for C: the crate's own answers. The lengths that are told are numbers of the caller's, and stay under a refusal.
use Rattle.std.specs.Prelude.{List, ℕ, length, if◌then◌else◌, ◌==◌}
use Rattle.mending.specs.Mending.{mend_answer, mended_of, notes_of, read_answer}
use Rattle.mending.specs.Told.{mended_left, notes_left, told}

abbrev pub lengths_answer_c : List ℕ → ℕ
lengths_answer_c recording = read_answer recording

unfoldable pub mended_length_c : List ℕ → ℕ → ℕ
mended_length_c recording given = if lengths_answer_c recording == 0 then length (mended_of recording) else given

unfoldable pub notes_length_c : List ℕ → ℕ → ℕ
notes_length_c recording given = if lengths_answer_c recording == 0 then told (length (notes_of recording)) else given

abbrev pub mend_answer_c : (recording mended notes : List ℕ) → ℕ
mend_answer_c recording mended notes = mend_answer recording (length mended) (length notes)

abbrev pub mended_c : (recording mended notes : List ℕ) → List ℕ
mended_c recording mended notes = mended_left recording mended notes

abbrev pub notes_c : (recording mended notes : List ℕ) → List ℕ
notes_c recording mended notes = notes_left recording mended notes
