-- `read_nibbles` meets its contract: sixteen nibbles are read as the eight bytes that they make (`by_bytes`).
use Rattle.std.proofs.Common.{◌∙◌}
use Rattle.packet.proofs.Eight.{by_bytes}
use Rattle.packet.proofs.reader.read_nibbles.Goals as goal

pub returns : goal.returns
returns c =
    c.read_bytes.ensures
    ∙ by_bytes _ c.args.nibbles _ _ _ _ _ _ _ _
    c.byte_of.ensures
    c.byte_of-2.ensures
    c.byte_of-3.ensures
    c.byte_of-4.ensures
    c.byte_of-5.ensures
    c.byte_of-6.ensures
    c.byte_of-7.ensures
    c.byte_of-8.ensures
