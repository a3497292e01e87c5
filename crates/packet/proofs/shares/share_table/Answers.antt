use Rattle.std.proofs.Common.{refl}
use Rattle.packet.specs.Crc.{crc_of, divisor, nibble_bits}
use Rattle.packet.specs.Shares.{share_of}
use Rattle.packet.specs.Shares.{shares_of}
use Rattle.packet.proofs.shares.share_table.Goals as goal

-- all 1,792 entries, computed
pub returns : goal.returns
unfolding shares_of share_of crc_of divisor nibble_bits
returns c = refl
