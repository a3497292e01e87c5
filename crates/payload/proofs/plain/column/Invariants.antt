-- The invariant: the first j bytes are in their places.
use Prim.Native.Nat.{◌≤◌, ◌-◌, ◌+◌, ◌/◌}
use lib.ListN.{get_or}
use Rattle.ground.specs.Drawn.{Drawing}
use Rattle.payload.specs.Inner.Area.{area}
use Rattle.payload.proofs.plain.column.Given as goal

abbrev pub invariant-loop-j : goal.invariant-loop-j
invariant-loop-j l = (l.j ≤ l.p) × Drawing (area l.x l.place 0 l.j l.r 1) (λ k. get_or l.store (l.start + (k - l.place) / l.x) 0) l.initial.out l.out

abbrev pub decreases-loop-j : goal.decreases-loop-j
decreases-loop-j l = l.p - l.j
