use Rattle.replay_lines.specs.Turn.{framed_turn}
use Rattle.replay_lines.proofs.turns.framed.Goals as goal

pub returns : goal.returns
unfolding framed_turn
returns c = rw c.next_line-line.ensures
