use mathlib.Core.Path.{refl}
use Rattle.judge.specs.Cause.{blamed_of}
use Rattle.receiver.specs.Cause.{cause_in}
use Rattle.receiver.proofs.blaming.cause_of.Goals as goal

pub returns : goal.returns
unfolding cause_in blamed_of
returns c = rw (c.blamed-port.ensures, c.cause-cause.ensures, c.seen_all-seen.ensures) refl
