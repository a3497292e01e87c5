use Rattle.payload.proofs.Blocks.{block_turned}
use Rattle.payload.proofs.block.lay_sixteen.Goals as goal

pub returns : goal.returns
returns c =
    block_turned 16 8 c.args.x c.args.place c.args.j c.args.r c.args.q c.turned-t.result c.args.out.now _ c.turned-t.ensures c.write.ensures
