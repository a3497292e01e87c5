use Rattle.replay_lines.proofs.Printing.{mark_doubtful, mark_held, mark_sure}
use Rattle.replay_lines.proofs.output.put_mark.Goals as goal

pub returns-then-mark-eq1 : goal.returns-then-mark-eq1
returns-then-mark-eq1 c = rw (mark_held c.args.mark c.if-mark-eq1.true) c.put.ensures

pub returns-then-mark-eq2 : goal.returns-then-mark-eq2
returns-then-mark-eq2 c =
    rw (mark_doubtful c.args.mark c.if-mark-eq1.false c.if-mark-eq2.true) c.put-then-mark-eq2.ensures

pub returns : goal.returns
returns c =
    rw (mark_sure c.args.mark c.if-mark-eq1.false c.if-mark-eq2.false) c.put-2.ensures
