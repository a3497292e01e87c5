-- A line taken from the input, for any who read lines: a part of the input up to its first line end, behind what is kept already.
use Rattle.std.specs.Prelude.{Bool, true, false, ℕ, length, take, if◌then◌else◌}
use Rattle.ground.specs.Types.{Bytes}
use Rattle.ground.specs.Finding.{index_of}
use Rattle.session_lines.specs.declared.gathering.Gathered.{Gathered as Told}
use Rattle.session_lines.specs.declared.gathering.Gathered.TheVariants.{Ended, Open}
use Rattle.session_lines.specs.declared.kept.Kept.{Kept}
use Rattle.session_lines.specs.Kept.{keep_all}
use Rattle.session_lines.specs.Session.{has_end, used_of}
use Rattle.text.specs.Text.{LINE-END}

-- kept: the line with what this part of the input has of it. used: how much of the part that is. ended: whether the line's end has come.
pub record Gathered : Type 0 where
  pub kept : Kept
  pub used : ℕ
  pub ended : Bool

unfoldable pub gathered_of : (kept : Kept) (input : Bytes) → Gathered
gathered_of kept input = record { kept = keep_all kept (take (index_of LINE-END input) input); used = used_of input; ended = has_end input }

-- as the code has it: where no line ends the part is used whole, so that only the line is left to say
abbrev pub told : Gathered → Told
told g = if g.ended then Ended g.kept g.used else Open g.kept

-- and back, for who knows how long the part is
abbrev pub gathered_back : (input : Bytes) (told : Told) → Gathered
gathered_back input (Ended line used) = record { kept = line; used = used; ended = true }
gathered_back input (Open line) = record { kept = line; used = length input; ended = false }
