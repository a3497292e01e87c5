-- After i turns the first i changes stand as five bytes each, behind the two of the head (`Filling`); five more are the next change (`five_more`).
use mathlib.Core.Path.{◌≡◌}
use Prim.Native.Nat.{◌*◌, ◌≤◌, ◌-◌}
use lib.ListN.{length}
use Rattle.ground.specs.Drawn.{Filling}
use Rattle.c_cards.specs.Changes.{list_byte}
use Rattle.c_cards.proofs.changes.put_list.Given as goal

abbrev pub invariant-loop-i : goal.invariant-loop-i
invariant-loop-i l = (length l.list ≡ 64) × (l.i ≤ 64) × Filling 2 (5 * l.i) (list_byte l.list) l.initial.out l.out

abbrev pub decreases-loop-i : goal.decreases-loop-i
decreases-loop-i l = 64 - l.i
