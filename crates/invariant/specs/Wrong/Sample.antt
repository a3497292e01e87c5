-- Small groups and ports, and H4 bytes as sent.
use Rattle.std.specs.Prelude.{ℕ, ◌+◌, ◌*◌, ◌/◌, ◌%◌, replicate, if◌then◌else◌, ◌==◌}
use Rattle.receiver.specs.Starting.{group_with}
use Rattle.rows.specs.declared.group.Group.{Group}
use Rattle.rows.specs.declared.step.Step.{Step}
use Rattle.phases.specs.Passing.{group_to}

-- n ports with P = 1 and a window W, begun, with an oldest epoch
abbrev pub sample_group : (ports W begun gathered oldest : ℕ) → Group
sample_group n W begun gathered oldest = group_to (group_with 0 n 1 W) begun gathered oldest 0 0

abbrev pub sample_step : (count next joined since later whole : ℕ) → Step
sample_step count next joined since later whole =
    record {
      spare = replicate 4 0;
      heard = 1;
      failed = 0;
      count = count;
      next = next;
      joined = joined;
      ever_since = since;
      joined_at = later;
      whole = whole;
      breaks = 0;
      odd = 0;
      bits = 0;
    }

-- the H4 byte of a frame with this tag, with a packet's nibble where MFI2 does not stand
abbrev pub sent_h4 : ℕ → ℕ
sent_h4 t = if t % 16 == 0 then t / 256 * 16 else if t % 16 == 1 then t / 16 % 16 * 16 + 1 else t % 16
