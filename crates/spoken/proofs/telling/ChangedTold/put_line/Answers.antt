-- A run of one slot is told as that slot, a longer one as many.
use Rattle.std.proofs.Common.{refl, false}
use Rattle.spoken.proofs.InRuns.{line_run, run_many, run_one}
use Rattle.spoken.proofs.telling.ChangedTold.put_line.Goals as goal

pub put_change-requires : goal.put_change-requires
put_change-requires c = rw (line_run c.args.run false refl, run_one c.args.run c.if-run.true) at c.requires

pub returns-then-run : goal.returns-then-run
returns-then-run c = rw (line_run c.args.run false refl, run_one c.args.run c.if-run.true) c.put_change.ensures

pub put_many-requires : goal.put_many-requires
put_many-requires c = rw (line_run c.args.run false refl, run_many c.args.run c.if-run.false) at c.requires

pub returns : goal.returns
returns c = rw (line_run c.args.run false refl, run_many c.args.run c.if-run.false) c.put_many.ensures
