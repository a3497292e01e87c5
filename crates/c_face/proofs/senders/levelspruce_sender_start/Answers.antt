use Rattle.c_face.proofs.senders.levelspruce_sender_start.Goals as goal

pub returns : goal.returns
returns c = c.start_by.ensures
