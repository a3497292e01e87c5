use Rattle.std.proofs.Common.{arith, get_or, refl}
use Rattle.text.specs.Fields.{digit_of}
use Rattle.text.proofs.Reading.{digit_at, product_fits, value_below, value_fits, value_turn}
use Rattle.text.proofs.fields.value_of.Goals as goal

pub digit_of-requires : goal.digit_of-requires
digit_of-requires c = omega (arith, digit_at c.args.base c.args.digits.now c.loop-byte.byte-index c.requires.0 c.loop-byte-test.true)

pub overflow_mul-value : goal.overflow_mul-value
overflow_mul-value c =
    rw c.from.ensures (record { fits = product_fits c.args.base c.loop-byte.byte-index c.loop-byte.value 0 _ 4294967296 c.loop-byte.invariant.1 c.requires.1 c.loop-byte-test.true c.requires.2 })

pub overflow_add-value : goal.overflow_add-value
overflow_add-value c =
    let k = digit_at c.args.base c.args.digits.now c.loop-byte.byte-index c.requires.0 c.loop-byte-test.true in
    rw (c.from.ensures, c.from-in-loop-byte.ensures, c.digit_of.ensures) (record { fits = value_fits c.args.base c.loop-byte.byte-index c.loop-byte.value _ _ 4294967296 c.loop-byte.invariant.1 k c.loop-byte-test.true c.requires.2 })

pub loop-byte-preserved : goal.loop-byte-preserved
loop-byte-preserved c =
    let k = digit_at c.args.base c.args.digits.now c.loop-byte.byte-index c.requires.0 c.loop-byte-test.true in
    let d = digit_of (get_or c.args.digits.now c.loop-byte.byte-index 0) in
    rw (c.from.ensures, c.from-in-loop-byte.ensures, c.digit_of.ensures) (value_turn c.args.base c.args.digits.now c.loop-byte.byte-index c.loop-byte-test.true c.loop-byte.value c.loop-byte.invariant.0 d refl, value_below c.args.base c.loop-byte.byte-index c.loop-byte.value d _ 4294967296 c.loop-byte.invariant.1 k c.loop-byte-test.true c.requires.2)
