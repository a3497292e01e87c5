use Rattle.mending.specs.Laws.Noting.{restored_put}
use Rattle.mending.proofs.notes.put_restored.Goals as goal

pub returns : goal.returns
returns c =
    restored_put c.args.number c.args.high c.args.old c.args.new c.args.notes.now c.args.start c.requires c.put_decimal-second.ensures c.put-third.ensures c.put.ensures
