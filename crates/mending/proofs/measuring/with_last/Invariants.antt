use Rattle.mending.specs.Told.{told}
use Rattle.mending.specs.Laws.Sweeps.{length_end}
use Rattle.mending.specs.Laws.Counting.{count_in}
use lib.ListN.{length}
use Prim.Native.Nat.{◌+◌, ◌-◌, ◌≤◌}
use mathlib.Core.Path.{◌≡◌}
use Rattle.mending.proofs.measuring.with_last.Given as goal

abbrev pub invariant-loop-i : goal.invariant-loop-i
invariant-loop-i l = (l.i ≤ 64) × (length l.follows ≡ 64) × (length l.keys ≡ 64) × (l.notes ≡ told (l.before + length_end l.i (count_in l.follows l.keys 0)))

abbrev pub decreases-loop-i : goal.decreases-loop-i
decreases-loop-i l = 64 - l.i
