use Rattle.mending.specs.Laws.Starts.{few_ports, fits_by, fits_not}
use mathlib.Core.Path.{sym, ◌∙◌}
use Rattle.mending.proofs.opening.is_fitting.Goals as goal

pub times_fit-requires : goal.times_fit-requires
times_fit-requires c = few_ports c.args.settings (sym c.is_startable.ensures ∙ c.if-is_startable.true)

pub returns-then-is_startable : goal.returns-then-is_startable
returns-then-is_startable c = c.times_fit.ensures ∙ fits_by c.args.settings (sym c.is_startable.ensures ∙ c.if-is_startable.true)

pub returns : goal.returns
returns c = fits_not c.args.settings (sym c.is_startable.ensures ∙ c.if-is_startable.false)
