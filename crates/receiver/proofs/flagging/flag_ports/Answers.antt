use mathlib.Core.Path.{◌≡◌, refl, ap, ◌∙◌}
use native.Mathlib.Numerals.{add-one}
use native.Mathlib.Omega.{arith}
use lib.ListN.{length}
use Rattle.receiver.specs.Laws.Anew.{flagged_ports, length_flagged_ports}
use Rattle.receiver.proofs.flagging.flag_ports.Goals as goal

pub loop-port-init : goal.loop-port-init
unfolding flagged_ports
loop-port-init c = refl

pub loop-port-preserved : goal.loop-port-preserved
unfolding flagged_ports
loop-port-preserved c = rw (add-one, ← c.loop-port.invariant) c.flag_port.ensures

pub shape_of-state : goal.shape_of-state
shape_of-state c = ap length c.loop-port.invariant ∙ length_flagged_ports _ _ _

pub returns : goal.returns
returns c = let e : c.loop-port.port ≡ c.args.ports = omega arith in rw e at c.loop-port.invariant
