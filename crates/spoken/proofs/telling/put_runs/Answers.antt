use Rattle.spoken.proofs.InRuns.{last_room, line_room, telling_all, telling_longer, telling_next, telling_none}
use Rattle.spoken.proofs.telling.put_runs.Goals as goal
use Rattle.spoken.proofs.telling.put_runs.Goals.{then-continues, else-continues}

pub loop-next-init : goal.loop-next-init
loop-next-init g c = rw c.single-run.ensures (telling_none g.T.Told.shown c.in-Some.first.now c.in-Some.rest.now c.args.out.now)

pub put_line-at-requires : goal.put_line-at-requires
put_line-at-requires g c =
    line_room g.T.Told.shown c.single-run.result.first c.in-Some.rest.now c.loop-next.invariant c.loop-next-test.true c.continues.result c.continues.ensures c.if-continues.false
    (rw c.single-run.ensures (rw c.in-Some.ensures.cases.0 at c.requires))

pub loop-next-preserved : goal.loop-next-preserved
loop-next-preserved g c =
    elim c.if-continues.branch [
      | then-continues w ↦ rw (w.out-is, w.run-is, w.at-is)
          (telling_longer g.T.Told.shown c.single-run.result.first c.in-Some.rest.now c.loop-next.invariant c.loop-next-test.true c.continues.result c.continues.ensures w.if-continues.true)
      | else-continues w ↦ rw (w.out-is, w.run-is, w.at-is, w.single-run-else-continues.ensures)
          (telling_next g.T.Told.shown c.single-run.result.first c.in-Some.rest.now c.loop-next.invariant c.loop-next-test.true c.continues.result c.continues.ensures w.if-continues.false w.put_line-at.ensures)
    ]

pub put_line-requires : goal.put_line-requires
put_line-requires g c =
    last_room g.T.Told.shown c.single-run.result.first c.in-Some.rest.now c.loop-next.invariant c.loop-next-test.false (rw c.single-run.ensures (rw c.in-Some.ensures.cases.0 at c.requires))

pub returns : goal.returns
returns g c =
    rw c.in-Some.ensures.cases.0 (rw c.single-run.ensures at (telling_all g.T.Told.shown c.single-run.result.first c.in-Some.rest.now c.loop-next.invariant c.loop-next-test.false c.put_line.ensures))
