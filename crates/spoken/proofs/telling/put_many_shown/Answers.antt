use lib.ListN.{length}
use Rattle.text.specs.Text.{LINE-END}
use Rattle.text.specs.Laws.Putting.{put_then, room, shorter}
use Rattle.spoken.specs.SpeakingRuns.{many_shown, rows_text, slots_text}
use Rattle.spoken.proofs.telling.put_many_shown.Goals as goal

pub put_slots-next-requires : goal.put_slots-next-requires
unfolding many_shown
put_slots-next-requires c =
    shorter (slots_text c.args.run.first.slot c.args.run.last.slot) (rows_text c.args.run.first.new c.args.run.last.new LINE-END) c.args.at (length c.args.out.now) c.requires

pub put_rows-requires : goal.put_rows-requires
unfolding many_shown
put_rows-requires c =
    room c.put_slots-next.ensures (rows_text c.args.run.first.new c.args.run.last.new LINE-END) c.requires

pub returns : goal.returns
unfolding many_shown
returns c =
    put_then c.put_slots-next.ensures c.put_rows.ensures
