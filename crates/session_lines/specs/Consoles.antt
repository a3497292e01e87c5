-- Who answers lines, whoever that is, fed in parts cut anywhere: what holds of a session and of a listener alike.
-- kept_of: the line that has begun. keeping: with what is kept of it. left_by and said_by: what a line leaves, and what it is answered.
use Rattle.std.specs.Prelude.{[], ℕ, length, take, Result, Ok, Err, if◌then◌else◌}
use Rattle.ground.specs.Finding.{index_of}
use Rattle.ground.specs.Plain.{◌<?◌}
use Rattle.ground.specs.Types.{Bytes}
use Rattle.session_lines.specs.declared.console.Fed.{Fed}
use Rattle.session_lines.specs.declared.console.Refusal.{Refusal}
use Rattle.session_lines.specs.declared.console.Refusal.TheVariants.{Length}
use Rattle.session_lines.specs.declared.kept.Kept.{Kept}
use Rattle.session_lines.specs.Kept.{keep_all, line_in}
use Rattle.session_lines.specs.Session.{has_end, over, used_of}
use Rattle.text.specs.Text.{LINE-END}

-- 01's number for a refusal: 'output .. length wrong'
abbrev pub refusal_number : Refusal → ℕ
refusal_number Length = 9

-- a part of the input up to its first line end, kept behind what is kept already
abbrev pub kept_behind : Kept → Bytes → Kept
kept_behind kept input = keep_all kept (take (index_of LINE-END input) input)

module _ {C : Type 0} (room : ℕ) (kept_of : C → Kept) where
  module _ (said_by : C → Bytes → Bytes) where
    abbrev pub said_to_part : C → Bytes → Bytes
    said_to_part c input = if has_end input then said_by c (line_in (kept_behind (kept_of c) input)) else []

    abbrev pub said_at_end : C → Bytes
    said_at_end c = if 0 <? (kept_of c).count then said_by c (line_in (kept_of c)) else []

    unfoldable pub fed_bytes_by : C → (input out : Bytes) → Bytes
    fed_bytes_by c input out = if length out <? room then out else over (said_to_part c input) out

    unfoldable pub finished_bytes_by : C → (out : Bytes) → Bytes
    finished_bytes_by c out = if length out <? room then out else over (said_at_end c) out

  module _ (left_by : C → Bytes → C) (said_by : C → Bytes → Bytes) where
    -- the end of the input: the last line may lack its end
    abbrev pub left_at_end : C → C
    left_at_end c = if 0 <? (kept_of c).count then left_by c (line_in (kept_of c)) else c

    unfoldable pub finished_by : C → (out : Bytes) → Result (Fed C) Refusal
    finished_by c out =
        if length out <? room then Err Length else Ok (record { console = left_at_end c; used = 0; written = length (said_at_end said_by c) })

  module _ (keeping : C → Kept → C) (left_by : C → Bytes → C) (said_by : C → Bytes → Bytes) where
    abbrev pub left_by_part : C → Bytes → C
    left_by_part c input =
        if has_end input then left_by c (line_in (kept_behind (kept_of c) input)) else keeping c (kept_behind (kept_of c) input)

    -- 9 for a buffer without room, and then nothing is used
    unfoldable pub fed_by : C → (input out : Bytes) → Result (Fed C) Refusal
    fed_by c input out =
        if length out <? room then Err Length
        else Ok (record { console = left_by_part c input; used = used_of input; written = length (said_to_part said_by c input) })
