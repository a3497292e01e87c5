use Rattle.rows.specs.Packets.{put_marks}
use Rattle.rows.proofs.packets.put_marks.Goals as goal

pub returns : goal.returns
unfolding put_marks
returns c = cc
