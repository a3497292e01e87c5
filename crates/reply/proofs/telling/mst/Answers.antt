use Rattle.std.proofs.Common.{◌∙◌, arith}
use Rattle.packet.specs.Theorems.Tags.{mst_eight, mst_fits}
use Rattle.reply.specs.Telling.{mst_of}
use Rattle.reply.proofs.telling.mst.Goals as goal

pub mst_from-requires : goal.mst_from-requires
mst_from-requires c = rw c.mst_first.ensures (omega (arith, mst_fits c.args.kind c.args.epoch, mst_eight c.args.kind))

pub returns : goal.returns
unfolding mst_of
returns c = c.mst_from.ensures ∙ rw (c.mst_first.ensures, c.of.ensures.0, c.of.ensures.1)
