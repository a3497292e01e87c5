-- The invariant: the bits from the highest down to the k-th are brought down.
use Rattle.packet.proofs.OneNumber.{Divided}
use Rattle.packet.proofs.vc12.left_of.Given as goal

abbrev pub invariant-loop-k : goal.invariant-loop-k
invariant-loop-k l = Divided l.number l.k l.left
