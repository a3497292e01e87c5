-- The slot and then its row are put one behind the other, and together are the line (`put_then`); room for both is room for each (`shorter`).
use lib.ListN.{length}
use Rattle.text.specs.Text.{LINE-END}
use Rattle.text.specs.Laws.Putting.{put_then, room, shorter}
use Rattle.spoken.specs.Speaking.{row_text, slot_text}
use Rattle.spoken.specs.SpeakingRuns.{one_shown}
use Rattle.spoken.proofs.telling.put_one_shown.Goals as goal

pub put_slot-next-requires : goal.put_slot-next-requires
unfolding one_shown
put_slot-next-requires c =
    shorter (slot_text c.args.change.slot) (row_text c.args.change.new LINE-END) c.args.at (length c.args.out.now) c.requires

pub put_row-requires : goal.put_row-requires
unfolding one_shown
put_row-requires c =
    room c.put_slot-next.ensures (row_text c.args.change.new LINE-END) c.requires

pub returns : goal.returns
unfolding one_shown
returns c =
    put_then c.put_slot-next.ensures c.put_row.ensures
