use Rattle.c_face.proofs.Answers.{reading_put}
use Rattle.c_face.proofs.packets.put_reading.Goals as goal

pub returns-in-Ok : goal.returns-in-Ok
returns-in-Ok c = reading_put _ _ _ _ c.in-Ok.is c.put_values.ensures
