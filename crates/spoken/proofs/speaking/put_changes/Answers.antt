use Rattle.std.proofs.Common.{◌≡◌, add-one, arith, length}
use Rattle.text.specs.Laws.Putting.{put_then}
use Rattle.spoken.proofs.Saying.{change_room}
use Rattle.spoken.proofs.speaking.put_changes.Goals as goal

-- the room required holds 64 of the longest lines
pub put_change-at-requires : goal.put_change-at-requires
put_change-at-requires c =
    change_room c.args.changes.now c.loop-change.change-index c.requires.room c.loop-change.invariant (let m = c.requires.many in omega arith) (λ j h. c.requires.slots j (omega arith))

pub loop-change-preserved : goal.loop-change-preserved
loop-change-preserved c = rw add-one (put_then c.loop-change.invariant c.put_change-at.ensures)

pub returns : goal.returns
returns c = let e : c.loop-change.change-index ≡ length c.args.changes.now = omega arith in rw e at c.loop-change.invariant
