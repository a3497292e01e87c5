-- The changes so far are laid on the rows.
use Rattle.std.proofs.Common.{◌≡◌}
use Rattle.spoken.specs.Applying.{laid_to}
use Rattle.spoken.proofs.applying.lay.Given as goal

abbrev pub invariant-loop-change : goal.invariant-loop-change
invariant-loop-change l = l.rows ≡ laid_to l.initial.rows l.changes l.change-index
