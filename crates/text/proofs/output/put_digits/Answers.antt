use Rattle.std.proofs.Common.{arith, length-set}
use Rattle.text.proofs.Writing.{digits_done, digits_turn, number_ended}
use Rattle.text.proofs.output.put_digits.Goals as goal

pub loop-place-init : goal.loop-place-init
loop-place-init c = (c.told-bytes, omega arith, omega arith, number_ended c.args.n c.args.bytes.now c.told-bytes)

pub loop-place-preserved : goal.loop-place-preserved
loop-place-preserved c =
    let v = c.loop-place.invariant in
    let t = digits_turn c.loop-place.bytes c.loop-place.place c.loop-place.rest _ v.1 c.loop-place.auto.place v.0 v.2 c.if-rest-eq0.false v.3 in
    (simp length-set v.0, t.0, t.1, t.2)

pub returns-then-rest-eq0 : goal.returns-then-rest-eq0
returns-then-rest-eq0 c =
    let v = c.loop-place.invariant in
    digits_done c.loop-place.bytes c.loop-place.place c.loop-place.rest _ v.1 c.loop-place.auto.place v.0 c.if-rest-eq0.true v.3
