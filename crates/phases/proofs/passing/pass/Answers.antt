use mathlib.Core.Path.{◌∙◌}
use Rattle.phases.specs.Theorems.ByTable.{passed_with_lem}
use Rattle.phases.proofs.passing.pass.Goals as goal

pub returns : goal.returns
returns c = c.pass_with.ensures ∙ passed_with_lem c.share_table-table.ensures _ _ _ _
