-- RS-Ack turns at most once in an epoch, so its turns are no more than the epochs.
use Rattle.std.proofs.Common.{◌≤◌}
use Rattle.vectors.proofs.received.turns_in.Given as goal

abbrev pub invariant-loop-i : goal.invariant-loop-i
invariant-loop-i l = l.turns ≤ l.i
