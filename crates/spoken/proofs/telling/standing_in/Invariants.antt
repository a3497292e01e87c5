-- The first i places have their rows as changes of nothing.
use Rattle.ground.specs.Counting.Each.{Done}
use Rattle.spoken.specs.SpeakingRuns.{standing_at}
use Rattle.spoken.proofs.telling.standing_in.Given as goal

abbrev pub invariant-loop-i : goal.invariant-loop-i
invariant-loop-i l = Done l.i (standing_at l.rows) l.initial.list l.list
