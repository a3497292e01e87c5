use mathlib.Core.Path.{◌≡◌, refl, ap, ◌∙◌}
use native.Mathlib.Numerals.{add-one}
use native.Mathlib.Omega.{arith}
use lib.ListN.{length}
use Rattle.receiver.specs.Starting.{fresh_ports}
use Rattle.receiver.specs.Laws.Lengths.{length_fresh_ports}
use Rattle.receiver.proofs.starting.put_ports.Goals as goal

pub loop-port-init : goal.loop-port-init
unfolding fresh_ports
loop-port-init c = refl

pub loop-port-preserved : goal.loop-port-preserved
unfolding fresh_ports
loop-port-preserved c = rw (add-one, ← c.loop-port.invariant) c.put_port.ensures

pub shape_of-state : goal.shape_of-state
shape_of-state c = ap length c.loop-port.invariant ∙ length_fresh_ports _ _ _ _ _

pub returns : goal.returns
returns c = let e : c.loop-port.port ≡ c.args.ports = omega arith in rw e at c.loop-port.invariant
