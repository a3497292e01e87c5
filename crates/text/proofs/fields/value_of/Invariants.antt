-- `value_of` meets its contract: the digits by value, and no sum or product on the way passes 32 bits.
-- The value of the first i digits is below base^i; so with one digit more it is below base^(i+1), and the digits are few enough for that to fit.
use Rattle.std.proofs.Common.{◌≡◌, ◌^◌, ◌<◌, take}
use Rattle.text.specs.Fields.{value_of}
use Rattle.text.proofs.fields.value_of.Given as goal

abbrev pub invariant-loop-byte : goal.invariant-loop-byte
invariant-loop-byte l = (l.value ≡ value_of l.base 0 (take l.byte-index l.digits)) × (l.value < l.base ^ l.byte-index)
