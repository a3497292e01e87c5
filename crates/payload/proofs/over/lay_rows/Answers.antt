use Rattle.payload.proofs.Blocks.{some_turned}
use Rattle.payload.proofs.over.lay_rows.Goals as goal

pub returns : goal.returns
returns c =
    some_turned c.args.x 16 8 c.args.p 0 0 c.args.r c.args.q c.turned-t.result c.args.members.now _ c.requires.0 c.turned-t.ensures c.write.ensures
