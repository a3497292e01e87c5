-- A fresh port: step, member, packets and marks are put one after the other, in the definition's order, each with the definition's fresh value.
use mathlib.Core.Path.{refl}
use Rattle.receiver.specs.Starting.{fresh_port}
use Rattle.receiver.proofs.starting.put_port.Goals as goal

pub returns : goal.returns
unfolding fresh_port
returns c =
    rw (c.put_marks.ensures, c.put-3.ensures, c.put-2.ensures, c.put.ensures, c.fresh_member-member.ensures, c.time_of-2.ensures, c.time_of.ensures, c.fresh_step.ensures) refl
