-- Two numbers of four bytes make the line's number, highest byte first; each is below 2 to the 32nd, so the sum fits in 64 bits.
use mathlib.Core.Path.{refl}
use Rattle.c_recordings.specs.Replays.{line_in}
use Rattle.c_recordings.proofs.replays.line_in.Goals as goal

pub returns : goal.returns
unfolding line_in
returns c = rw (c.four-high.ensures.0, c.four-low.ensures.0) refl
