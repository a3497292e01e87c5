use Rattle.mending.specs.Laws.Sweeps.{sweep_end}
use Rattle.mending.specs.Laws.Copies.{sweep_in}
use lib.ListN.{length}
use Prim.Native.Nat.{◌-◌, ◌≤◌}
use mathlib.Core.Path.{◌≡◌}
use Rattle.mending.proofs.copying.finish.Given as goal

abbrev pub invariant-loop-i : goal.invariant-loop-i
invariant-loop-i l = (l.i ≤ 64) × (length l.follows ≡ 64) × (length l.keys ≡ 64) × (length l.mended ≡ length l.initial.mended) × (l.mended ≡ sweep_end l.i (sweep_in l.follows l.keys l.initial.mended))

abbrev pub decreases-loop-i : goal.decreases-loop-i
decreases-loop-i l = 64 - l.i
