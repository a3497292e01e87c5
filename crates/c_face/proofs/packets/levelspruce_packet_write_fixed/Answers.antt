use mathlib.Core.Path.{◌∙◌, ap}
use Rattle.packet.specs.Writing.{writing_number}
use Rattle.c_face.proofs.packets.levelspruce_packet_write_fixed.Goals as goal

pub returns : goal.returns
returns c = (c.number_told.ensures ∙ ap writing_number c.write_fixed.ensures.0, c.write_fixed.ensures.1)
