-- When an epoch is due, and when no port is readable any more (01, 'Report of an epoch', 'Beginning').
use Rattle.std.specs.Prelude.{Bool, not, ◌&&◌, ◌||◌, ℕ}
use Rattle.ground.specs.Types.{Bytes, Rows}
use Rattle.ground.specs.Counting.Words.{every}
use Rattle.rows.specs.declared.group.Group.{Group}
use Rattle.rows.specs.declared.step.Step.{Step}
use Rattle.rows.specs.Packets.{marks_at}
use Rattle.rows.specs.Step.{step_at}
use Rattle.step.specs.Arrival.{flag_of, readable}
use Rattle.store.specs.Marks.{first_mark}

-- of a port: it is not readable, or 'has brought its sixteen frames or joined at a later epoch'
unfoldable pub owes_nothing : (g : Group) (step : Step) (marks : Bytes) → Bool
owes_nothing g step marks = not (readable g step) || first_mark marks || flag_of step.joined && flag_of step.joined_at

-- 'It is due when every readable port has brought its sixteen frames or joined at a later epoch.'
unfoldable pub brought : (g : Group) (s : Rows) (ports : ℕ) → Bool
brought g s n = every n (λ i. owes_nothing g (step_at s i) (marks_at s i))

-- 'When no port is readable any more'
unfoldable pub silent : (g : Group) (s : Rows) (ports : ℕ) → Bool
silent g s n = every n (λ i. not (readable g (step_at s i)))
