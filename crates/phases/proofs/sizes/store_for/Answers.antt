-- The product is the definition's as it stands; what is shown is that it fits, from the greatest that its three factors can be (`mul-le-mul`).
use native.Mathlib.Nat.{mul-le-mul}
use native.Mathlib.Omega.{arith}
use Prim.Native.Nat.{◌≤◌, ◌+◌}
use mathlib.Core.Path.{refl}
use Rattle.phases.specs.Sizes.{store_for}
use Rattle.phases.proofs.sizes.store_for.Goals as goal

pub overflow_mul-result : goal.overflow_mul-result
overflow_mul-result c =
    let hp : c.args.ports ≤ 255 = omega arith in
    let hw : c.args.group.window ≤ 65535 = omega arith in
    omega (arith, mul-le-mul hp hw)

pub overflow_mul-result-2 : goal.overflow_mul-result-2
overflow_mul-result-2 c =
    let hp : c.args.ports ≤ 255 = omega arith in
    let hw : c.args.group.window ≤ 65535 = omega arith in
    let hq : c.args.group.payload + 1 ≤ 65536 = omega arith in
    omega (arith, mul-le-mul (mul-le-mul hp hw) hq)

pub returns : goal.returns
unfolding store_for
returns c = refl
