-- The list has the changes of the first i slots in front and nothing behind them, and so many are counted.
use Rattle.std.proofs.Common.{◌≡◌}
use Rattle.spoken.proofs.Listing.{Listing}
use Rattle.spoken.proofs.comparing.changes_in.Given as goal

abbrev pub invariant-loop-i : goal.invariant-loop-i
invariant-loop-i l = record { listing : Listing l.old l.new l.i l.changes.list l.changes.count; wait : l.changes.wait ≡ l.fn.wait }
