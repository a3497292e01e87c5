-- `put` meets its contract: a port's two packets into its two rows.
use Rattle.rows.specs.Packets.{put_packets}
use Rattle.rows.proofs.packets.put.Goals as goal

pub returns : goal.returns
unfolding put_packets
returns c = cc
