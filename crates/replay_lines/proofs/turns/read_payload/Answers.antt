use Rattle.replay_lines.proofs.Deciding.{bytes_past}
use Rattle.replay_lines.proofs.turns.read_payload.Goals as goal

pub returns-else-place-text : goal.returns-else-place-text
returns-else-place-text c = bytes_past c.args.place c.args.text.now c.args.payload.now c.if-place-text.false
