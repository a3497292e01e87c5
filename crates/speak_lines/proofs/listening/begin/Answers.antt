use Rattle.speak_lines.specs.Listening.{beginning}
use Rattle.speak_lines.proofs.listening.begin.Goals as goal

pub returns : goal.returns
unfolding beginning
returns c = rw (c.board_of.ensures, c.empty-table.ensures, c.nothing.ensures)
