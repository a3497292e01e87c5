use lib.ListN.{length}
use mathlib.Core.Path.{◌≡◌, refl, ap, ◌∙◌}
use native.Mathlib.Numerals.{add-one}
use native.Mathlib.Omega.{arith}
use Rattle.phases.specs.ByTable.{passed_ports_with}
use Rattle.phases.specs.Theorems.ByTable.{length_passed_ports_with}
use Rattle.phases.proofs.passing.pass_ports.Goals as goal

pub loop-i-init : goal.loop-i-init
unfolding passed_ports_with
loop-i-init c = refl

pub loop-i-preserved : goal.loop-i-preserved
unfolding passed_ports_with
loop-i-preserved c = rw (add-one, ← c.loop-i.invariant) c.pass_port.ensures

pub shape_of-state : goal.shape_of-state
shape_of-state c = ap length c.loop-i.invariant ∙ length_passed_ports_with _ _ _ _ _

pub returns : goal.returns
returns c = let e : c.loop-i.i ≡ c.args.ports = omega arith in rw e at c.loop-i.invariant
