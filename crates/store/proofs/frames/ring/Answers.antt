use mathlib.Core.Path.{refl}
use native.Mathlib.Omega.{arith}
use borrow.Author.Tests.{eq-eqb}
use Rattle.store.specs.Frames.{ring_of}
use Rattle.store.proofs.Rings.{ring_first, ring_second, ring_over}
use Rattle.store.proofs.frames.ring.Goals as goal

pub returns-then-window-eq0 : goal.returns-then-window-eq0
unfolding ring_of
returns-then-window-eq0 c = rw (eq-eqb _ 0 c.if-window-eq0.true) refl

pub returns-then-sum-window : goal.returns-then-sum-window
returns-then-sum-window c = let a = c.args in ring_first a.origin a.at a.window c.if-window-eq0.false c.if-sum-window.true

pub returns-then-over-window : goal.returns-then-over-window
returns-then-over-window c =
    ring_second c.args.origin c.args.at c.args.window c.if-window-eq0.false (omega arith) c.if-over-window.true

pub returns : goal.returns
returns c =
    ring_over c.args.origin c.args.at c.args.window c.if-window-eq0.false (omega arith)
