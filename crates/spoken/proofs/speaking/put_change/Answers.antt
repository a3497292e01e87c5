-- `put_change` meets its contract: slot, old row and new row, one behind the other.
-- The whole line has room, so each of its three parts has it at its place (`one_of_three` and on); three texts put in turn are their sum put at once (`put_then`).
use lib.ListN.{length}
use Rattle.text.specs.Laws.Putting.{put_then}
use Rattle.spoken.specs.Speaking.{change_text, now_text, slot_text, was_text}
use Rattle.spoken.proofs.Saying.{one_of_three, three_of_three, two_of_three}
use Rattle.spoken.proofs.speaking.put_change.Goals as goal

pub put_slot-second-requires : goal.put_slot-second-requires
unfolding change_text
put_slot-second-requires c =
    one_of_three (slot_text c.args.change.slot) (was_text c.args.change.old) (now_text c.args.change.new) c.args.at (length c.args.out.now) c.requires

pub put_row-third-requires : goal.put_row-third-requires
unfolding change_text was_text
put_row-third-requires c =
    two_of_three (was_text c.args.change.old) (now_text c.args.change.new) c.requires c.put_slot-second.ensures

pub put_row-requires : goal.put_row-requires
unfolding change_text was_text now_text
put_row-requires c =
    three_of_three (now_text c.args.change.new) c.requires c.put_slot-second.ensures c.put_row-third.ensures

pub returns : goal.returns
unfolding change_text was_text now_text
returns c =
    put_then (put_then c.put_slot-second.ensures c.put_row-third.ensures) c.put_row.ensures
