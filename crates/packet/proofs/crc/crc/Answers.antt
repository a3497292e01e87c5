-- `crc` meets its contract: the shares of the seven bytes that the data nibbles make, joined (`seven`).
use Rattle.std.proofs.Common.{◌∙◌}
use Rattle.packet.specs.ByTable.{crc_with}
use Rattle.packet.specs.Shares.{byte_at, share_in}
use Rattle.packet.proofs.Joining.{seven}
use Rattle.packet.proofs.crc.crc.Goals as goal

pub returns : goal.returns
unfolding crc_with
returns c =
    c.join.ensures
    ∙ seven (share_in c.args.table.now) (byte_at c.args.nibbles) _ _ _ _ _ _ _
    c.byte_of.ensures
    c.byte_of-2.ensures
    c.byte_of-3.ensures
    c.byte_of-4.ensures
    c.byte_of-5.ensures
    c.byte_of-6.ensures
    c.byte_of-7.ensures
