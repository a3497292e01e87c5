use mathlib.Core.Path.{refl, ◌∙◌}
use Rattle.phases.specs.Theorems.ByTable.{passed_with_lem}
use Rattle.receiver.specs.Report.{reported_of}
use Rattle.receiver.proofs.states.pass.Goals as goal

pub returns : goal.returns
unfolding reported_of
returns c = c.work_out_states.ensures ∙ rw (c.get.ensures, c.pass_with.ensures, passed_with_lem c.requires _ _ _ _) refl
