use Rattle.replay_lines.specs.Turn.{is_lent}
use Rattle.replay_lines.proofs.turns.is_lent.Goals as goal

pub returns : goal.returns
unfolding is_lent
returns c = rw (c.rows_for-n.ensures, c.store_of-m.ensures, c.output_of-o.ensures)
