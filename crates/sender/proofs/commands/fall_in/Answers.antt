use Rattle.std.proofs.Common.{arith}
use Rattle.std.proofs.lemmas.List.{get_or_default}
use Rattle.std.proofs.lemmas.List.Edits.{map_over_more}
use Rattle.sender.specs.declared.table.Slot.{Slot}
use Rattle.sender.specs.Commands.{fallen}
use Rattle.sender.proofs.commands.fall_in.Goals as goal

pub loop-slot-preserved : goal.loop-slot-preserved
loop-slot-preserved c =
    rw c.fall.ensures (map_over_more (λ (s : Slot). fallen c.args.number s) c.args.slots.now c.loop-slot.slot-items c.loop-slot.slot-index _ (omega arith) c.loop-slot.invariant (get_or_default c.loop-slot.slot-items c.loop-slot.slot-index _ _ (omega arith)))
