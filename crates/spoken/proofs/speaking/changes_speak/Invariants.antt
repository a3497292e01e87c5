-- Each change so far can be spoken.
use Rattle.std.proofs.Common.{◌≡◌, true}
use Rattle.spoken.specs.Speaking.{changes_speak}
use Rattle.spoken.proofs.speaking.changes_speak.Given as goal

abbrev pub invariant-loop-k : goal.invariant-loop-k
invariant-loop-k l = changes_speak l.changes l.k ≡ true
