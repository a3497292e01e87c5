-- `write_fixed` meets its contract: 9, 8, and under 0 the sixteen H4 bytes. Each exit cites one law of Answers over plain numbers, in the order of the tests.
use Rattle.std.proofs.Common.{◌∙◌, ap₂, arith}
use Rattle.packet.specs.Fixed.{fixed_nibbles}
use Rattle.packet.proofs.Answers.{fixed_done, fixed_epoch, fixed_length, fixed_sq}
use Rattle.packet.proofs.fixed.write_fixed.Goals as goal

pub returns-then-h4-ne16 : goal.returns-then-h4-ne16
returns-then-h4-ne16 c = fixed_length _ _ _ c.if-h4-ne16.true

pub returns-in_default : goal.returns-in_default
returns-in_default c = let e = c.in_default.ensures in fixed_epoch _ _ _ c.if-h4-ne16.false (omega arith)

pub returns-in_default-try_from : goal.returns-in_default-try_from
returns-in_default-try_from c = let e = c.in-Ok.ensures in let q = c.in_default-try_from.ensures in fixed_sq _ _ _ c.if-h4-ne16.false e.0 (omega arith)

pub returns : goal.returns
returns c =
    let e = c.in-Ok.ensures in
    let q = c.in-Ok-try_from.ensures in
    fixed_done _ _ _ c.if-h4-ne16.false e.0 q.0 _ _ _ (c.fixed_nibbles.ensures ∙ ap₂ fixed_nibbles e.1 q.1) c.h4_of.ensures c.copy_from_slice.ensures.after
