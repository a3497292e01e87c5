use Rattle.mending.specs.Laws.Noting.{Noting}
use lib.ListN.{length}
use Prim.Native.Nat.{◌-◌}
use Rattle.mending.proofs.notes.put_notes.Given as goal

abbrev pub invariant-loop-at : goal.invariant-loop-at
invariant-loop-at l = Noting l.ports l.size l.start l.text l.mended l.at l.to l.number l.written l.notes

abbrev pub decreases-loop-at : goal.decreases-loop-at
decreases-loop-at l = length l.text - l.at
