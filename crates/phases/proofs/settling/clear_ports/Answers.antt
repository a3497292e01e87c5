use lib.ListN.{length}
use mathlib.Core.Path.{◌≡◌, refl, ap, ◌∙◌}
use native.Mathlib.Numerals.{add-one}
use native.Mathlib.Omega.{arith}
use Rattle.phases.specs.Settling.{cleared_ports}
use Rattle.phases.specs.Laws.Lengths.{length_cleared}
use Rattle.phases.proofs.settling.clear_ports.Goals as goal

pub loop-i-init : goal.loop-i-init
unfolding cleared_ports
loop-i-init c = refl

pub loop-i-preserved : goal.loop-i-preserved
unfolding cleared_ports
loop-i-preserved c = rw (add-one, ← c.loop-i.invariant) c.clear_port.ensures

pub shape_of-state : goal.shape_of-state
shape_of-state c = ap length c.loop-i.invariant ∙ length_cleared _ _ _ _

pub returns : goal.returns
returns c = let e : c.loop-i.i ≡ c.args.ports = omega arith in rw e at c.loop-i.invariant
