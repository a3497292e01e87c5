use Rattle.c_recordings.proofs.Replaying.{begin_done, begin_refused}
use Rattle.c_recordings.proofs.replays.levelspruce_replay_begin.Goals as goal

pub returns-then-state-ne-REPLAY_BYTES : goal.returns-then-state-ne-REPLAY_BYTES
returns-then-state-ne-REPLAY_BYTES c = begin_refused c.args.state.now c.if-state-ne-REPLAY_BYTES.true

pub returns : goal.returns
returns c = begin_done c.args.state.now c.begin-replay.result _ c.if-state-ne-REPLAY_BYTES.false c.begin-replay.ensures c.put_replay.ensures
