-- Both rows are read by `row_in`, which gives the definition's row for any place; so only the two places have to be shown to fit.
use Rattle.rows.specs.Packets.{packets_at}
use Rattle.rows.proofs.packets.get.Goals as goal

pub returns : goal.returns
unfolding packets_at
returns c = cc
