-- After i turns the first i changes are read of the bytes (`Done`), and after 64 the whole list, so that nothing of the blank one is left.
use mathlib.Core.Path.{◌≡◌}
use Prim.Native.Nat.{◌≤◌, ◌-◌}
use lib.ListN.{length}
use Rattle.ground.specs.Counting.Each.{Done}
use Rattle.c_cards.specs.Changes.{change_from}
use Rattle.c_cards.proofs.changes.list_from.Given as goal

abbrev pub invariant-loop-i : goal.invariant-loop-i
invariant-loop-i l = (length l.initial.list ≡ 64) × (l.i ≤ 64) × Done l.i (change_from l.bytes) l.initial.list l.list

abbrev pub decreases-loop-i : goal.decreases-loop-i
decreases-loop-i l = 64 - l.i
