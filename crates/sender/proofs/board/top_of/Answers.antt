use Rattle.std.proofs.Common.{◌≡◌, ◌∙◌, add-one, arith}
use Rattle.std.specs.Prelude.{length}
use Rattle.sender.proofs.Firsts.{above_top}
use Rattle.sender.proofs.board.top_of.Goals as goal

pub loop-slot-preserved : goal.loop-slot-preserved
loop-slot-preserved c = c.higher_of-top.ensures ∙ rw (c.loop-slot.invariant, add-one)

pub returns : goal.returns
returns c =
    let e : c.loop-slot.slot-index ≡ length c.args.slots.now = omega arith in
    λ q. above_top c.args.slots.now q _ (rw e at c.loop-slot.invariant)
