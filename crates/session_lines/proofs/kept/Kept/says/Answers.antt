use Rattle.std.proofs.Common.{◌∙◌}
use Rattle.std.proofs.Math.Seq.{take-length}
use Rattle.session_lines.proofs.kept.Kept.says.Goals as goal

pub returns : goal.returns
returns c = c.same.ensures ∙ rw (take-length, c.as_slice-line.ensures)
