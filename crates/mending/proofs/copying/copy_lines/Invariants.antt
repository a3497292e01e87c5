use Rattle.mending.specs.Laws.Copies.{Copying}
use lib.ListN.{length}
use Prim.Native.Nat.{◌-◌}
use Rattle.mending.proofs.copying.copy_lines.Given as goal

abbrev pub invariant-loop-at : goal.invariant-loop-at
invariant-loop-at l = Copying l.counted l.ports l.size l.start l.text l.initial.mended l.follows l.keys l.at l.to l.mended

abbrev pub decreases-loop-at : goal.decreases-loop-at
decreases-loop-at l = length l.text - l.at
