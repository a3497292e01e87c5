use Rattle.std.proofs.Common.{arith, ◌*◌, ◌+◌, length}
use Rattle.std.proofs.lemmas.Grind.{common_steps}
use Rattle.text.proofs.Bytes.{get_or_bytes, length_bytes}
use Rattle.text.proofs.Reading.{digit_at}
use Rattle.text.proofs.hex.fill.Goals as goal

pub byte_of-requires : goal.byte_of-requires
byte_of-requires c = (digit_at 16 c.args.digits.now (2 * c.loop-i.i) c.requires.1 (omega arith), digit_at 16 c.args.digits.now (2 * c.loop-i.i + 1) c.requires.1 (omega arith))

pub loop-i-preserved : goal.loop-i-preserved
loop-i-preserved c =
    let n = length_bytes (length c.args.out.now) c.args.digits.now c.requires.0 in
    let b = get_or_bytes c.args.digits.now c.loop-i.i (omega arith) in
    grind (arith, common_steps)

pub returns : goal.returns
returns c =
    let n = length_bytes (length c.args.out.now) c.args.digits.now c.requires.0 in
    grind (arith, common_steps)
