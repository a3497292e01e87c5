-- The lines of the runs before the open one are put, and the open run has the changes since. The next change makes it longer or ends it.
use Rattle.spoken.proofs.InRuns.{Telling}
use Rattle.spoken.proofs.telling.put_runs.Given as goal

abbrev pub invariant-loop-next : goal.invariant-loop-next
invariant-loop-next g l = Telling g.T.Told.shown l.initial.run.first l.rest l.run l.next-index l.initial.out l.at l.out
