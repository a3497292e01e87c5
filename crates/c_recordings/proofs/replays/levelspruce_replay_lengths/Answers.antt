use Rattle.c_recordings.proofs.Replaying.{lengths_done, lengths_refused}
use Rattle.c_recordings.proofs.replays.levelspruce_replay_lengths.Goals as goal

pub returns-then-told-ne0 : goal.returns-then-told-ne0
returns-then-told-ne0 c =
    lengths_refused c.args.recording.now c.replay_lengths-told.result c.replay_lengths-told.ensures c.args.store_length.now c.args.out_length.now c.if-told-ne0.true

pub returns : goal.returns
returns c =
    lengths_done c.args.recording.now c.replay_lengths-told.result c.replay_lengths-told.ensures c.args.store_length.now c.args.out_length.now c.if-told-ne0.false
