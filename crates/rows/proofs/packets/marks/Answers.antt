use Rattle.rows.specs.Packets.{marks_at}
use Rattle.rows.proofs.packets.marks.Goals as goal

pub returns : goal.returns
unfolding marks_at
returns c = cc
