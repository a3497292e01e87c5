use Rattle.mending.specs.Told.{LARGEST}
use borrow.Author.Tests.{le-leb, lt-leb}
use Prim.Native.Nat.{◌+◌}
use mathlib.Core.Path.{refl}
use native.Mathlib.Omega.{arith}
use Rattle.mending.proofs.measuring.more.Goals as goal

pub returns-then-n-m : goal.returns-then-n-m
returns-then-n-m c = rw (lt-leb (c.args.n + c.args.m) LARGEST (omega arith)) refl

pub returns : goal.returns
returns c = rw (le-leb (c.args.n + c.args.m) LARGEST (omega arith)) refl
