-- Every field is read at its place in the seventeen bytes, by a function that gives the definition's value; any bytes are a replay.
use mathlib.Core.Path.{refl}
use Rattle.c_recordings.specs.Replays.{replay_of}
use Rattle.c_recordings.proofs.replays.replay_of.Goals as goal

pub returns : goal.returns
unfolding replay_of
returns c =
    rw (c.phase_of-phase.ensures, c.line_in-line.ensures, c.two-left.ensures, c.two-size.ensures, c.two-window.ensures) refl
