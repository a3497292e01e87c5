-- The invariant: the number that the first bytes spell.
use Rattle.std.proofs.Common.{◌≡◌, get_or}
use Rattle.ground.specs.Bits.{odd}
use Rattle.ground.specs.Bits.{number as spelt}
use Rattle.ground.specs.Table.{tabulate}
use Rattle.packet.proofs.vc12.number_of.Given as goal

abbrev pub invariant-loop-frame : goal.invariant-loop-frame
invariant-loop-frame l = l.number ≡ spelt (tabulate l.frame-index (λ i. odd (get_or l.frames i 0)))
