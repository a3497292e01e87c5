-- Where a line of a recording ends (2026-05).
use Rattle.std.specs.Prelude.{Bool, ℕ, ◌+◌, length, take, if◌then◌else◌, ◌==◌}
use Rattle.ground.specs.Plain.{◌<?◌}
use Rattle.ground.specs.Types.{Bytes}
use Rattle.ground.specs.Finding.{index_of}
use Rattle.recording.specs.declared.line.Found.{Found}
use Rattle.recording.specs.declared.line.Found.TheVariants.{Nothing, Open, TooLong, Ends}
use Rattle.text.specs.Text.{LINE-END}

-- 'Lines hold at most 8,192 bytes.'
abbrev pub MOST : ℕ
MOST = 8192

abbrev pub has_end : Bytes → Bool
has_end rest = index_of LINE-END rest <? length rest

-- the first line of a text, without its end
abbrev pub first_line : Bytes → Bytes
first_line rest = take (index_of LINE-END rest) rest

-- of what is left of a text from a place on
unfoldable pub found_of : ℕ → Bytes → Found
found_of at rest =
    if length rest == 0 then Nothing
    else if has_end rest then Ends (at + index_of LINE-END rest)
    else if MOST <? length rest then TooLong
    else Open
