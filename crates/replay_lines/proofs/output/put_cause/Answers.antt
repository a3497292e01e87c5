use Rattle.replay_lines.proofs.Printing.{cause_eos, cause_gid, cause_lacking, cause_numbers, cause_refused, cause_repeated, cause_unseen}
use Rattle.replay_lines.proofs.output.put_cause.Goals as goal

pub returns-then-cause-eq1 : goal.returns-then-cause-eq1
returns-then-cause-eq1 c = rw (cause_refused c.args.cause c.if-cause-eq1.true) c.put.ensures

pub returns-then-cause-eq2 : goal.returns-then-cause-eq2
returns-then-cause-eq2 c = rw (cause_lacking c.args.cause c.if-cause-eq2.true) c.put-then-cause-eq2.ensures

pub returns-then-cause-eq3 : goal.returns-then-cause-eq3
returns-then-cause-eq3 c = rw (cause_repeated c.args.cause c.if-cause-eq3.true) c.put-then-cause-eq3.ensures

pub returns-then-cause-eq4 : goal.returns-then-cause-eq4
returns-then-cause-eq4 c = rw (cause_gid c.args.cause c.if-cause-eq4.true) c.put-then-cause-eq4.ensures

pub returns-then-cause-eq5 : goal.returns-then-cause-eq5
returns-then-cause-eq5 c = rw (cause_eos c.args.cause c.if-cause-eq5.true) c.put-then-cause-eq5.ensures

pub returns-then-cause-eq6 : goal.returns-then-cause-eq6
returns-then-cause-eq6 c = rw (cause_unseen c.args.cause c.if-cause-eq6.true) c.put-then-cause-eq6.ensures

pub returns : goal.returns
returns c = rw (cause_numbers c.args.cause c.if-cause-eq1.false c.if-cause-eq2.false c.if-cause-eq3.false c.if-cause-eq4.false c.if-cause-eq5.false c.if-cause-eq6.false) c.put-2.ensures
