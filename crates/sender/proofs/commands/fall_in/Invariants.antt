-- The first of the slots have closed the gap that a number left.
use Rattle.std.proofs.Common.{◌≡◌, ◌++◌, map, take, drop}
use Rattle.sender.specs.declared.table.Slot.{Slot}
use Rattle.sender.specs.Commands.{fallen}
use Rattle.sender.proofs.commands.fall_in.Given as goal

abbrev pub invariant-loop-slot : goal.invariant-loop-slot
invariant-loop-slot l = l.slot-items ≡ map (λ (s : Slot). fallen l.number s) (take l.slot-index l.initial.slot-items) ++ drop l.slot-index l.initial.slot-items
