use Rattle.c_face.specs.Keeping.{sender_of}
use Rattle.c_face.proofs.keeping.sender_of.Goals as goal

pub returns : goal.returns
unfolding sender_of
returns c = cc
