use Rattle.mending.specs.Laws.Counting.{Counting}
use lib.ListN.{length}
use Prim.Native.Nat.{◌-◌}
use Rattle.mending.proofs.measuring.lengths_from.Given as goal

abbrev pub invariant-loop-at : goal.invariant-loop-at
invariant-loop-at l =
    Counting l.counted l.ports l.size l.start l.text l.follows l.keys l.at l.mended l.notes l.number

abbrev pub decreases-loop-at : goal.decreases-loop-at
decreases-loop-at l =
    length l.text - l.at
