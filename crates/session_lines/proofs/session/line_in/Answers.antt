use Rattle.std.proofs.Common.{◌∙◌}
use Rattle.std.proofs.Math.Seq.{take-length}
use Rattle.session_lines.proofs.session.line_in.Goals as goal

pub returns : goal.returns
returns c = c.read_line.ensures ∙ rw (take-length, c.as_slice-text.ensures)
