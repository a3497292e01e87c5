use mathlib.Core.Path.{refl}
use Prim.Native.Nat.{◌%◌}
use native.Mathlib.Nat.{mod-lt}
use native.Mathlib.Omega.{arith}
use lib.Pow.{pow_pos}
use borrow.Author.Tests.{eq-eqb, ne_eqb}
use Rattle.store.specs.Marks.{marked_byte}
use Rattle.store.specs.Laws.Bytes.{marked_fits}
use Rattle.store.proofs.marks.marked_byte.Goals as goal

pub nonzero_div-byte : goal.nonzero_div-byte
nonzero_div-byte c = omega (arith, c.power-bit.ensures, pow_pos (c.args.i % 8))

pub returns-then-byte-bit-eq1 : goal.returns-then-byte-bit-eq1
unfolding marked_byte
returns-then-byte-bit-eq1 c = rw (← c.power-bit.ensures, eq-eqb _ 1 c.if-byte-bit-eq1.true) refl

pub overflow_add-result : goal.overflow_add-result
overflow_add-result c =
    let e = c.power-bit.ensures in
    let m = marked_fits c.args.byte (c.args.i % 8) (omega arith) (mod-lt _ (omega arith)) (rw e at (ne_eqb _ 1 c.if-byte-bit-eq1.false)) in
    omega arith

pub returns : goal.returns
unfolding marked_byte
returns c = rw (← c.power-bit.ensures, ne_eqb _ 1 c.if-byte-bit-eq1.false) refl
