-- How far each port lies behind the foremost: the same tags and the same arc by which receiving begins (01, 'Beginning').
use Rattle.std.specs.Prelude.{◌≡◌, true, List, ℕ, ◌+◌, ◌≤◌, ◌<◌, length, if◌then◌else◌}
use Rattle.ground.specs.Counting.Each.{each}
use Rattle.ground.specs.Types.{Rows}
use Rattle.packet.specs.Kinds.{distance_of, frames}
use Rattle.phases.specs.Beginning.{foremost, latest, ready}
use Rattle.phases.specs.Sizes.{ports_in}
use Rattle.receiver.specs.Shown.{shown_fit}
use Rattle.rows.specs.declared.group.Group.{Group}
use Rattle.rows.specs.declared.step.Step.{Step}
use Rattle.rows.specs.Group.{group_at}
use Rattle.rows.specs.Step.{step_at}
use Rattle.step.specs.Arrival.{in_step}

-- a port that is not in step has no tag
abbrev pub no_step : ℕ
no_step = 65535

unfoldable pub behind_by : (g : Group) (fore : ℕ) (step : Step) → ℕ
behind_by g fore step = if in_step g step then distance_of g.kind fore (latest g step) else no_step

-- of port i among n
unfoldable pub behind_in : (g : Group) (s : Rows) (n : ℕ) (i : ℕ) → ℕ
behind_in g s n i = behind_by g (foremost g s n) (step_at s i)

unfoldable pub behind_answer : (s : Rows) (out : ℕ) → ℕ
behind_answer s out = if shown_fit (ports_in (group_at s)) (length s) out then 0 else 9

unfoldable pub behind_out : (s : Rows) (out : List ℕ) → List ℕ
behind_out s out =
    if shown_fit (ports_in (group_at s)) (length s) (length out)
    then each (ports_in (group_at s)) (behind_in (group_at s) s (ports_in (group_at s))) out
    else out

-- every port is ready, one is in step, and none in step lies more than W - 16 behind
pub record Near (g : Group) (s : Rows) (n : ℕ) : Type 0 where
  pub all_ready : (i : ℕ) → i < n → ready g (step_at s i) ≡ true
  pub port : ℕ
  pub below : port < n
  pub stepped : in_step g (step_at s port) ≡ true
  pub near : (j : ℕ) → j < n → in_step g (step_at s j) ≡ true → behind_in g s n j + frames g.kind ≤ g.window
