use Rattle.replay_lines.proofs.turns.open_as.Goals as goal

pub returns : goal.returns
returns c = (rw c.next_line-line.ensures, rw c.rows_for-n.ensures at c.start.ensures)
