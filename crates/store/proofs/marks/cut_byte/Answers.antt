use mathlib.Core.Path.{refl}
use Prim.Native.Nat.{◌%◌}
use native.Mathlib.Omega.{arith}
use lib.Pow.{pow_pos}
use borrow.Author.Tests.{lt-ltb, le-ltb}
use Rattle.store.specs.Marks.{cut_byte}
use Rattle.store.proofs.marks.cut_byte.Goals as goal

pub returns-then-k-i : goal.returns-then-k-i
unfolding cut_byte
returns-then-k-i c = rw (lt-ltb _ _ c.if-k-i.true) refl

pub returns-then-i-k : goal.returns-then-i-k
unfolding cut_byte
returns-then-i-k c = rw (le-ltb _ _ c.if-k-i.false, lt-ltb _ _ c.if-i-k.true) refl

pub nonzero_rem-result : goal.nonzero_rem-result
nonzero_rem-result c = omega (arith, c.power.ensures, pow_pos (c.args.i % 8))

pub returns : goal.returns
unfolding cut_byte
returns c = rw (le-ltb _ _ c.if-k-i.false, le-ltb _ _ c.if-i-k.false, c.power.ensures) refl
