-- Each change so far fits.
use Rattle.std.proofs.Common.{◌≡◌, true}
use Rattle.spoken.specs.Applying.{changes_fit}
use Rattle.spoken.proofs.applying.changes_fit.Given as goal

abbrev pub invariant-loop-k : goal.invariant-loop-k
invariant-loop-k l = changes_fit l.rows l.count l.changes l.k ≡ true
