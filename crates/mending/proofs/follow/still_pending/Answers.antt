use borrow.Author.Tests.{eq-eqb, ne_eqb}
use native.Mathlib.Omega.{arith}
use Rattle.mending.proofs.follow.still_pending.Goals as goal

pub returns-then-o-f : goal.returns-then-o-f
returns-then-o-f c = search (eq-eqb, ne_eqb, arith)

pub returns-then-f : goal.returns-then-f
returns-then-f c = search (eq-eqb, ne_eqb, arith)

pub returns-then-f-2 : goal.returns-then-f-2
returns-then-f-2 c = search (eq-eqb, ne_eqb, arith)

pub returns : goal.returns
returns c = search (eq-eqb, ne_eqb, arith)
