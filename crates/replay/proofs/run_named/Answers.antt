use Rattle.replay_lines.specs.Deeds.Carried.{same}
use Rattle.replay.proofs.run_named.Goals as goal

pub returns-in-Err : goal.returns-in-Err
returns-in-Err c = same
