use Rattle.spoken.specs.Runs.{continues}
use Rattle.spoken.proofs.runs.Run.continues.Goals as goal

pub returns : goal.returns
unfolding continues
returns c = rw (c.row_continues.ensures, c.row_continues-2.ensures, c.from.ensures, c.from-2.ensures)
