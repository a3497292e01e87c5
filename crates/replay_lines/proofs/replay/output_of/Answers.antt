use Rattle.std.proofs.Common.{◌≤◌, mul-le-mul, arith}
use Rattle.replay_lines.proofs.replay.output_of.Goals as goal

pub overflow_mul-result : goal.overflow_mul-result
overflow_mul-result c =
    let hp : c.args.ports ≤ 255 = omega arith in
    let hf : c.epoch_frames-frames.result ≤ 255 = omega arith in
    omega (arith, mul-le-mul hp hf)

pub overflow_mul-result-2 : goal.overflow_mul-result-2
overflow_mul-result-2 c =
    let hp : c.args.ports ≤ 255 = omega arith in
    let hf : c.epoch_frames-frames.result ≤ 255 = omega arith in
    let hs : c.args.size ≤ 65535 = omega arith in
    omega (arith, mul-le-mul (mul-le-mul hp hf) hs)

pub returns : goal.returns
returns c = rw c.epoch_frames-frames.ensures
