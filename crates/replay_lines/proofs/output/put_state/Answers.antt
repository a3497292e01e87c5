use Rattle.replay_lines.proofs.Printing.{state_fail, state_idle, state_ok}
use Rattle.replay_lines.proofs.output.put_state.Goals as goal

pub returns-then-state-eq0 : goal.returns-then-state-eq0
returns-then-state-eq0 c = rw (state_idle c.args.state c.if-state-eq0.true) c.put.ensures

pub returns-then-state-eq1 : goal.returns-then-state-eq1
returns-then-state-eq1 c =
    rw (state_fail c.args.state c.if-state-eq0.false c.if-state-eq1.true) c.put-then-state-eq1.ensures

pub returns : goal.returns
returns c =
    rw (state_ok c.args.state c.if-state-eq0.false c.if-state-eq1.false) c.put-2.ensures
