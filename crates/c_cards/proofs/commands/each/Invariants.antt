-- `each` meets its contract: every command of the list on the state, and its answer at its place.
-- Behind i commands the state and the answers are those of the first i (`bytes_at`, `list_at`); a turn adds the next one, and at the end it is all of them.
use mathlib.Core.Path.{◌≡◌}
use Prim.Native.Nat.{◌-◌, ◌≤◌}
use lib.ListN.{length}
use Rattle.c_cards.proofs.Ordering.{bytes_at, list_at}
use Rattle.c_cards.proofs.commands.each.Given as goal

abbrev pub invariant-loop-i : goal.invariant-loop-i
invariant-loop-i l = (l.i ≤ length l.commands) × (l.state ≡ bytes_at l.initial.state l.commands l.i) × (l.answers ≡ list_at l.initial.state l.commands l.initial.answers l.i)

abbrev pub decreases-loop-i : goal.decreases-loop-i
decreases-loop-i l = length l.commands - l.i
