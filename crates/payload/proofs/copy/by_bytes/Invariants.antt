-- The invariant: the first j bytes are in place.
use Prim.Native.Nat.{◌+◌}
use lib.ListN.{get_or}
use Rattle.ground.specs.Drawn.{Filling}
use Rattle.payload.proofs.copy.by_bytes.Given as goal

abbrev pub invariant-loop-j : goal.invariant-loop-j
invariant-loop-j l = Filling l.place l.j (λ i. get_or l.from (l.at + i) 0) l.initial.to l.to
