-- The invariant: the number that the first entries spell.
use Rattle.std.proofs.Common.{◌≡◌, ◌*◌}
use Rattle.ground.specs.Bits.{number as spelt}
use Rattle.ground.specs.Table.{tabulate}
use Rattle.packet.proofs.OneNumber.{entry_bit}
use Rattle.packet.proofs.vc12.number_in.Given as goal

abbrev pub invariant-loop-entry : goal.invariant-loop-entry
invariant-loop-entry l = l.number ≡ spelt (tabulate (l.entry-index * 2) (entry_bit l.fn.row))
