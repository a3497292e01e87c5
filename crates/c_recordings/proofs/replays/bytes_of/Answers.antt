-- The seventeen bytes are the definition's, one by one: each is a number below 256, so that nothing is lost where it becomes a byte.
use mathlib.Core.Path.{refl}
use Rattle.c_recordings.specs.Replays.{bytes_of}
use Rattle.c_recordings.proofs.replays.bytes_of.Goals as goal

pub returns : goal.returns
unfolding bytes_of
returns c = rw c.phase_code.ensures refl
