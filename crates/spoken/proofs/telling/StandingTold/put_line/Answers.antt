-- A run of one slot is told as that slot, a longer one as many.
use Rattle.std.proofs.Common.{refl, true}
use Rattle.spoken.proofs.InRuns.{line_shown, shown_many, shown_one}
use Rattle.spoken.proofs.telling.StandingTold.put_line.Goals as goal

pub put_one_shown-requires : goal.put_one_shown-requires
put_one_shown-requires c = rw (line_shown c.args.run true refl, shown_one c.args.run c.if-run.true) at c.requires

pub returns-then-run : goal.returns-then-run
returns-then-run c = rw (line_shown c.args.run true refl, shown_one c.args.run c.if-run.true) c.put_one_shown.ensures

pub put_many_shown-requires : goal.put_many_shown-requires
put_many_shown-requires c = rw (line_shown c.args.run true refl, shown_many c.args.run c.if-run.false) at c.requires

pub returns : goal.returns
returns c = rw (line_shown c.args.run true refl, shown_many c.args.run c.if-run.false) c.put_many_shown.ensures
