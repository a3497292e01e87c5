-- The lowest port to which the clause applies: as long as the search goes on, it applies to none below i.
-- So the first found is the lowest (`blamed_first`), and at the end there is nobody (`blamed_none`).
use Rattle.std.specs.Prelude.{◌≡◌, false}
use Rattle.ground.specs.Counting.Words.{some}
use Rattle.judge.specs.Cause.{applies}
use Rattle.judge.specs.Named.{cause_number}
use Rattle.judge.proofs.seen.Ports.blamed_by.Given as goal

abbrev pub invariant-loop-i : goal.invariant-loop-i
invariant-loop-i l = some l.i (applies l.self l.top (cause_number l.cause)) ≡ false
