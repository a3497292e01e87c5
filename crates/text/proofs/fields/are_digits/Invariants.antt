-- `are_digits` meets its contract: the bytes so far are digits.
use Rattle.std.proofs.Common.{◌≡◌, take}
use Rattle.text.specs.Fields.{are_digits}
use Rattle.text.proofs.fields.are_digits.Given as goal

abbrev pub invariant-loop-byte : goal.invariant-loop-byte
invariant-loop-byte l = l.good ≡ are_digits l.base (take l.byte-index l.digits)
