use Prim.Native.Nat.{◌%◌}
use native.Mathlib.Nat.{mod-lt}
use native.Mathlib.Omega.{arith}
use Rattle.store.specs.Laws.Bytes.{power_is}
use Rattle.store.proofs.marks.power.Goals as goal

pub returns : goal.returns
returns c = power_is (c.args.i % 8) (mod-lt c.args.i (omega arith))
