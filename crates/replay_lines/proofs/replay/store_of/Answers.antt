use Rattle.std.proofs.Common.{◌+◌, ◌≤◌, mul-le-mul, arith}
use Rattle.replay_lines.proofs.replay.store_of.Goals as goal

pub overflow_mul-result : goal.overflow_mul-result
overflow_mul-result c =
    let hp : c.args.ports ≤ 255 = omega arith in
    let hw : c.args.window ≤ 65535 = omega arith in
    omega (arith, mul-le-mul hp hw)

pub overflow_mul-result-2 : goal.overflow_mul-result-2
overflow_mul-result-2 c =
    let hp : c.args.ports ≤ 255 = omega arith in
    let hw : c.args.window ≤ 65535 = omega arith in
    let hq : c.args.size + 1 ≤ 65536 = omega arith in
    omega (arith, mul-le-mul (mul-le-mul hp hw) hq)
