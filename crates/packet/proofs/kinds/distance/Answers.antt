use Rattle.std.proofs.Common.{sym, arith, eq-eqb, ne_eqb}
use Rattle.ground.specs.Circle.{after_only}
use Rattle.packet.specs.Kinds.{distance_of, tags}
use Rattle.packet.proofs.kinds.distance.Goals as goal

pub returns-then-kind-eq-VC12 : goal.returns-then-kind-eq-VC12
unfolding distance_of tags
returns-then-kind-eq-VC12 c = rw (eq-eqb _ 1 c.if-kind-eq-VC12.true) (sym (after_only 1024 _ _ _ (omega arith) (omega arith)))

pub returns : goal.returns
unfolding distance_of tags
returns c = rw (ne_eqb _ 1 c.if-kind-eq-VC12.false) (sym (after_only 4096 _ _ _ (omega arith) (omega arith)))
