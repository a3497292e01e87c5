-- Behind each byte what is kept is the definition's for the bytes so far.
use Rattle.std.proofs.Common.{◌≡◌, take}
use Rattle.session_lines.specs.Kept.{keep_all}
use Rattle.session_lines.proofs.kept.Kept.extend.Given as goal

abbrev pub invariant-loop-byte : goal.invariant-loop-byte
invariant-loop-byte l = l.self ≡ keep_all l.initial.self (take l.byte-index l.bytes)
