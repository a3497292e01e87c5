use Rattle.text.proofs.Reading.{digits_turn}
use Rattle.text.proofs.fields.are_digits.Goals as goal

pub loop-byte-preserved : goal.loop-byte-preserved
loop-byte-preserved c =
    digits_turn c.args.base c.args.digits.now c.loop-byte.byte-index c.loop-byte-test.true c.loop-byte.good c.loop-byte.invariant c.is_digit-good.result c.is_digit-good.ensures
