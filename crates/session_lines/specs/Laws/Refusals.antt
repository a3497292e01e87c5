-- A refusal is told apart from a call that is done.
use Rattle.std.specs.Prelude.{◌<◌}
use Rattle.std.proofs.Common.{arith}
use Rattle.session_lines.specs.Consoles.{refusal_number}
use Rattle.session_lines.specs.declared.console.Refusal.{Refusal}
use Rattle.session_lines.specs.declared.console.Refusal.TheVariants.{Length}

pub refusal_above : (refusal : Refusal) → 0 < refusal_number refusal
refusal_above Length = omega arith
