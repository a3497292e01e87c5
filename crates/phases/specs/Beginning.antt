-- When receiving begins (01, 'Beginning'). That this is 01's sentence is proved in Theorems/Arc.
use Rattle.std.specs.Prelude.{◌≡◌, Bool, true, not, ◌&&◌, ◌||◌, ℕ, zero, suc, ◌+◌, ◌/◌, ◌≤◌, ◌<◌, if◌then◌else◌, ◌==◌}
use Rattle.ground.specs.Plain.{◌<?◌, ◌≤?◌}
use Rattle.ground.specs.Types.{Rows, Tag}
use Rattle.ground.specs.Counting.Words.{every}
use Rattle.packet.specs.Kinds.{distance_of, frames, tag_before, tags}
use Rattle.rows.specs.declared.group.Group.{Group}
use Rattle.rows.specs.declared.step.Step.{Step}
use Rattle.rows.specs.Step.{step_at}
use Rattle.step.specs.Arrival.{flag_of, in_step}

-- 'every port has had a frame and is in step or flagged failed'
unfoldable pub ready : Group → Step → Bool
ready g step = flag_of step.heard && (in_step g step || flag_of step.failed)

-- the latest tag of a port in step
unfoldable pub latest : Group → Step → Tag
latest g step = tag_before g.kind step.next

-- no port in step so far
unfoldable pub no_tag : Group → Tag
no_tag g = tags g.kind

-- the foremost of the latest tags: a tag takes the place of one that it follows within half a round
unfoldable pub further : (g : Group) (fore : Tag) (step : Step) → Tag
further g fore step =
    if in_step g step && (fore == no_tag g || distance_of g.kind (latest g step) fore <? tags g.kind / 2) then latest g step else fore

unfoldable pub foremost : (g : Group) (s : Rows) (ports : ℕ) → Tag
foremost g s zero = no_tag g
foremost g s (suc n) = further g (foremost g s n) (step_at s n)

-- 'the latest tags of those in step lie within an arc of W-15 tags': none more than W - 16 behind the foremost. Of VC-12 'Latest tags within W-31 begin', and 32 in place of 16: an epoch's frames.
unfoldable pub in_arc : (g : Group) (fore : Tag) (step : Step) → Bool
in_arc g fore step = not (in_step g step) || distance_of g.kind fore (latest g step) + frames g.kind ≤? g.window

unfoldable pub begins : (g : Group) (s : Rows) (ports : ℕ) → Bool
begins g s n =
    every n (λ i. ready g (step_at s i))
    && not (foremost g s n == no_tag g)
    && every n (λ i. in_arc g (foremost g s n) (step_at s i))

-- some port in step has the tag `fore`, and none in step lies more than W - 16 tags behind it
pub record Arc (g : Group) (s : Rows) (n fore : ℕ) : Type 0 where
  pub all_ready : (i : ℕ) → i < n → ready g (step_at s i) ≡ true
  pub port : ℕ
  pub below : port < n
  pub stepped : in_step g (step_at s port) ≡ true
  pub fore_is : latest g (step_at s port) ≡ fore
  pub behind : (j : ℕ) → j < n → in_step g (step_at s j) ≡ true → distance_of g.kind fore (latest g (step_at s j)) + frames g.kind ≤ g.window
