use Rattle.session_lines.specs.Session.{beginning}
use Rattle.session_lines.proofs.session.begin.Goals as goal

pub returns : goal.returns
unfolding beginning
returns c = rw (c.empty.ensures, c.nothing.ensures)
