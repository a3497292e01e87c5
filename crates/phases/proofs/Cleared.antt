-- A port cleared, and the ends of receiving: each call's result put together.
use mathlib.Core.Path.{◌≡◌, refl}
use mathlib.Core.Bool.{Bool, ◌&&◌}
use mathlib.Core.List.{List}
use Prim.Native.Nat.{ℕ}
use lib.ListN.{replicate}
use Rattle.phases.specs.Settling.{cleared_port, cleared_step}
use Rattle.rows.specs.declared.group.Group.{Group}
use Rattle.rows.specs.declared.step.Step.{Step}
use Rattle.rows.specs.Packets.{put_marks}
use Rattle.rows.specs.Step.{put_step, step_at}
use Rattle.step.specs.Arrival.{in_step}

pub cleared_is : (g : Group) (beginning : Bool) (i : ℕ) (s : List (List ℕ)) (step : Step) (stays : Bool) (cleared : Step) (t u : List (List ℕ))
    → step ≡ step_at s i
    → stays ≡ in_step g step
    → cleared ≡ cleared_step step (beginning && stays)
    → t ≡ put_step s i cleared
    → u ≡ put_marks t i (replicate 16 0)
    → u ≡ cleared_port g beginning i s
unfolding cleared_port
cleared_is g beginning i s step stays cleared t u e-step e-stays e-cleared e-t e-u = rw (e-u, e-t, e-cleared, e-stays, e-step) refl
