use Rattle.payload.proofs.Parts.{part_copied}
use Rattle.payload.proofs.copy.run.Goals as goal

pub returns : goal.returns
returns c =
    part_copied c.args.at c.args.from.now c.args.place c.args.n c.args.to.now _ c.requires.0 c.requires.1 c.copy_from_slice.ensures.after
