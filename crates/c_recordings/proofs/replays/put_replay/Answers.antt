use Rattle.c_recordings.proofs.Replaying.{put_all}
use Rattle.c_recordings.proofs.replays.put_replay.Goals as goal

pub returns : goal.returns
returns c =
    put_all c.args.replay _ c.args.state.now _ c.requires c.bytes_of-bytes.ensures c.put_bytes.ensures
