use Rattle.std.proofs.Common.{eq-eqb, ne_eqb}
use Rattle.replay_lines.proofs.changes.number_of.Goals as goal

pub returns-then-member-eq0 : goal.returns-then-member-eq0
returns-then-member-eq0 c = rw (eq-eqb c.args.member.state 0 c.if-member-eq0.true) c.idle_number.ensures

pub returns : goal.returns
returns c = rw (ne_eqb c.args.member.state 0 c.if-member-eq0.false)
