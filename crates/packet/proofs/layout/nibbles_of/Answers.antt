use Rattle.packet.proofs.Answers.{sealed_nibbles}
use Rattle.packet.proofs.layout.nibbles_of.Goals as goal

pub data_of-nibbles-requires : goal.data_of-nibbles-requires
data_of-nibbles-requires c = c.requires.1

pub returns : goal.returns
returns c = sealed_nibbles c.requires.0 _ _ _ c.data_of-nibbles.ensures c.crc-sum.ensures
