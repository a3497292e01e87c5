-- What the lowest port with a whole and good packet says: as long as the search goes on, no port below has one.
-- So the first found is the lowest (`heard_first`), and at the end there is none (`heard_none`).
use Rattle.std.proofs.Common.{◌≡◌, false}
use Rattle.ground.specs.Counting.Words.{some}
use Rattle.receiver.specs.Heard.{good_at}
use Rattle.receiver.proofs.hearing.heard_of.Given as goal

abbrev pub invariant-loop-port : goal.invariant-loop-port
invariant-loop-port l = some l.port (good_at l.group l.state) ≡ false
