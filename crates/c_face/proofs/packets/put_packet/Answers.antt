use mathlib.Core.Path.{◌∙◌, ap, sym}
use native.Mathlib.Omega.{arith}
use Rattle.c_face.proofs.Answers.{Bytes, bytes_said, write_unfit}
use Rattle.packet.specs.Writing.{writing_number}
use Rattle.c_face.proofs.packets.put_packet.Goals as goal

fit : (c : goal.Else-not-are_bytes)
    → Bytes c.args.epoch c.args.word c.args.gid c.args.mst c.args.rs_ack c.args.sq
fit c = bytes_said _ _ _ _ _ _ (sym c.are_bytes.ensures ∙ c.if-not-are_bytes.false)

pub returns-then-not-are_bytes : goal.returns-then-not-are_bytes
returns-then-not-are_bytes c = write_unfit _ _ _ _ _ _ _ _ _ _ (sym c.are_bytes.ensures ∙ c.if-not-are_bytes.true) c.write_refusal.ensures

pub overflow_cast-fields : goal.overflow_cast-fields
overflow_cast-fields c = let b = fit c in omega arith

pub overflow_cast-fields-2 : goal.overflow_cast-fields-2
overflow_cast-fields-2 c = let b = fit c in omega arith

pub overflow_cast-fields-3 : goal.overflow_cast-fields-3
overflow_cast-fields-3 c = let b = fit c in omega arith

pub overflow_cast-fields-4 : goal.overflow_cast-fields-4
overflow_cast-fields-4 c = let b = fit c in omega arith

pub overflow_cast-fields-5 : goal.overflow_cast-fields-5
overflow_cast-fields-5 c = let b = fit c in omega arith

pub overflow_cast-fields-6 : goal.overflow_cast-fields-6
overflow_cast-fields-6 c = let b = fit c in omega arith

pub returns : goal.returns
returns c = (c.number_told.ensures ∙ ap writing_number c.write_by.ensures.0, c.write_by.ensures.1)
