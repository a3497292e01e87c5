use mathlib.Core.Path.{refl}
use Rattle.judge.specs.Tally.{eos_alone_by}
use Rattle.judge.proofs.verdict.is_eos_last.Goals as goal

pub returns : goal.returns
unfolding eos_alone_by
returns c = rw (c.is_eos.ensures, c.is_active.ensures) refl
