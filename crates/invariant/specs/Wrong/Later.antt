-- That a port 'joined at a later epoch' remembered as the tag joined at (R-15): the same tag comes round after 4,096 frames.
use Rattle.std.specs.Prelude.{◌≡◌, refl, Bool, true, false, not, ◌&&◌, ◌||◌, List, ℕ, zero, suc, replicate}
use Rattle.invariant.specs.Wrong.Sample.{sample_group, sample_step}
use Rattle.ground.specs.Plain.{◌<?◌}
use Rattle.phases.specs.Due.{owes_nothing}
use Rattle.phases.specs.Passing.{passed_group, passed_step}
use Rattle.rows.specs.declared.group.Group.{Group}
use Rattle.rows.specs.declared.step.Step.{Step}
use Rattle.step.specs.Arrival.{distance_in, flag_of, readable}
use Rattle.store.specs.Marks.{first_mark}
use Rattle.receiver.specs.Opened.{receiver_open}

-- the tag joined at lies in the window, after its first frame
wrong_later : Group → ℕ → Bool
wrong_later g tag = 0 <? distance_in g tag && distance_in g tag <? g.window

wrong_lets : Group → Step → ℕ → List ℕ → Bool
wrong_lets g s tag marks = not (readable g s) || first_mark marks || flag_of s.joined && wrong_later g tag

-- The oldest epoch is 0. A port has joined at tag 8, the start of epoch 1: both rules let epoch 0 pass without it.
start : Group
start = sample_group 1 32 1 1 0

joiner : ℕ → Step
joiner next = sample_step 32 next 1 0 1 0

-- n epochs are passed
passes : ℕ → Group
passes zero = start
passes (suc n) = passed_group (passes n)

steps : ℕ → ℕ → Step
steps next zero = joiner next
steps next (suc n) = passed_step (steps next n) true

-- 256 epochs later epoch 0 is the oldest again, and the port has brought none of its frames. By the wrong rule it is reported without them.
later_breaks :
    (wrong_lets start (joiner 9) 8 (replicate 16 0) ≡ true)
    × (owes_nothing start (joiner 9) (replicate 16 0) ≡ true)
    × ((passes 256).oldest ≡ 0)
    × (wrong_lets (passes 256) (steps 4088 256) 8 (replicate 16 0) ≡ true)
    × (owes_nothing (passes 256) (steps 4088 256) (replicate 16 0) ≡ false)
unfolding receiver_open wrong_later wrong_lets start joiner passes steps
later_breaks = (refl, refl, refl, refl, refl)
