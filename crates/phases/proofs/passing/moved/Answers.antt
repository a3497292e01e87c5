use mathlib.Core.Path.{refl}
use Prim.Native.Nat.{◌+◌, ◌<◌}
use native.Mathlib.Nat.{mod-lt}
use native.Mathlib.Omega.{arith}
use borrow.Author.Tests.{eq-eqb, ne_eqb}
use Rattle.store.specs.Frames.{ring_of}
use Rattle.phases.proofs.passing.moved.Goals as goal

pub returns-then-window-eq0 : goal.returns-then-window-eq0
unfolding ring_of
returns-then-window-eq0 c = rw (eq-eqb _ 0 c.if-window-eq0.true) refl

pub overflow_cast-result-4 : goal.overflow_cast-result-4
overflow_cast-result-4 c = let h : 0 < c.args.window = omega arith in omega (arith, mod-lt (c.args.origin + c.args.by) h)

pub returns : goal.returns
unfolding ring_of
returns c = rw (ne_eqb _ 0 c.if-window-eq0.false) refl
