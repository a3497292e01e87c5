use mathlib.Core.Path.{refl, sym, ◌∙◌}
use Rattle.mending.proofs.opening.opened_with.Goals as goal

pub returns-then-is_fitting : goal.returns-then-is_fitting
returns-then-is_fitting c = rw (sym c.is_fitting.ensures ∙ c.if-is_fitting.true) refl

pub returns : goal.returns
returns c = rw (sym c.is_fitting.ensures ∙ c.if-is_fitting.false) c.refused.ensures
