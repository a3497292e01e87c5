use mathlib.Core.Path.{◌∙◌}
use native.Mathlib.Omega.{arith}
use Rattle.step.specs.Theorems.ByTable.{own_ruling_with_lem}
use Rattle.receiver.proofs.report.ruling_of.Goals as goal

pub returns : goal.returns
returns c =
    c.ruling_of.ensures ∙ own_ruling_with_lem c.requires _ _ c.args.nibbles (omega (arith, c.well_formed.1.1.1.0))
