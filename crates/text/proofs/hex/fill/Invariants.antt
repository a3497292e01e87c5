-- `fill` meets its contract: the bytes so far are those of the digits.
use Rattle.std.proofs.Common.{◌≡◌, take}
use Rattle.text.specs.Fields.{bytes_of}
use Rattle.text.proofs.hex.fill.Given as goal

abbrev pub invariant-loop-i : goal.invariant-loop-i
invariant-loop-i l = take l.i l.out ≡ take l.i (bytes_of l.digits)
