-- The lengths that are told before a recording is mended (2026-11).
use Rattle.std.specs.Prelude.{ℕ, length, if◌then◌else◌, ◌==◌}
use Rattle.ground.specs.Plain.{◌≤?◌}
use Rattle.ground.specs.Types.{Bytes}
use Rattle.mending.specs.declared.measuring.Lengths.{Lengths}
use Rattle.mending.specs.Mending.{mend_answer, mended_of, notes_of, read_answer}

-- the largest number that a length can be
abbrev pub LARGEST : ℕ
LARGEST = 18446744073709551615

-- A recording of more bytes than any memory has could have notes of more: their length is then told as the largest number, which is no slice's.
abbrev pub told : ℕ → ℕ
told n = if n ≤? LARGEST then n else LARGEST

-- 13 and 4 come with no lengths
unfoldable pub lengths_of : Bytes → Lengths
lengths_of text =
    if read_answer text == 0
    then (record { mended = length (mended_of text); notes = told (length (notes_of text)); answer = 0 })
    else (record { mended = 0; notes = 0; answer = read_answer text })

-- what is left of the lent buffers: 'no lines are written' under a refusal

unfoldable pub mended_left : (text mended notes : Bytes) → Bytes
mended_left text mended notes = if mend_answer text (length mended) (length notes) == 0 then mended_of text else mended

unfoldable pub notes_left : (text mended notes : Bytes) → Bytes
notes_left text mended notes = if mend_answer text (length mended) (length notes) == 0 then notes_of text else notes
