-- `put` meets its contract: a text that fits is copied to its place.
use Rattle.std.proofs.Common.{arith}
use Rattle.text.proofs.Writing.{put_part}
use Rattle.text.proofs.output.put.Goals as goal

pub returns : goal.returns
returns c =
    put_part c.args.text.now c.args.out.now c.args.at _ _ (omega arith) (omega arith) c.copy_from_slice.ensures.after
