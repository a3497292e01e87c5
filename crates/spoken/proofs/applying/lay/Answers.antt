use Rattle.std.proofs.Common.{◌≡◌, arith, length}
use Rattle.spoken.proofs.applying.lay.Goals as goal

pub returns : goal.returns
returns c = let e : c.loop-change.change-index ≡ length c.args.changes.now = omega arith in rw e at c.loop-change.invariant
