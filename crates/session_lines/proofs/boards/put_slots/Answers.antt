use Rattle.std.proofs.Common.{add-one, arith}
use Rattle.text.specs.Laws.Putting.{put_then}
use Rattle.session_lines.proofs.Lengths.{slot_room}
use Rattle.session_lines.proofs.boards.put_slots.Goals as goal

-- the room required holds 64 of the longest lines
pub put_slot-at-requires : goal.put_slot-at-requires
put_slot-at-requires c = slot_room c.args.rows c.loop-i.i c.requires.1 c.loop-i.invariant (omega arith) _ _

pub loop-i-preserved : goal.loop-i-preserved
loop-i-preserved c = rw add-one (put_then c.loop-i.invariant c.put_slot-at.ensures)
