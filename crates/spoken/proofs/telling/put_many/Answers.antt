-- `put_many` meets its contract: the slots, what they were and what they are, one text behind the other (`put_then`), for each of which there is room.
use lib.ListN.{length}
use Rattle.text.specs.Laws.Putting.{put_then}
use Rattle.spoken.specs.SpeakingRuns.{are_text, many_text, slots_text, were_text}
use Rattle.spoken.proofs.Saying.{one_of_three, three_of_three, two_of_three}
use Rattle.spoken.proofs.telling.put_many.Goals as goal

pub put_slots-second-requires : goal.put_slots-second-requires
unfolding many_text
put_slots-second-requires c =
    one_of_three (slots_text c.args.run.first.slot c.args.run.last.slot) (were_text c.args.run.first.old c.args.run.last.old) (are_text c.args.run.first.new c.args.run.last.new) c.args.at (length c.args.out.now) c.requires

pub put_labelled-third-requires : goal.put_labelled-third-requires
unfolding many_text were_text
put_labelled-third-requires c =
    two_of_three (were_text c.args.run.first.old c.args.run.last.old) (are_text c.args.run.first.new c.args.run.last.new) c.requires c.put_slots-second.ensures

pub put_labelled-requires : goal.put_labelled-requires
unfolding many_text were_text are_text
put_labelled-requires c =
    three_of_three (are_text c.args.run.first.new c.args.run.last.new) c.requires c.put_slots-second.ensures c.put_labelled-third.ensures

pub returns : goal.returns
unfolding many_text were_text are_text
returns c =
    put_then (put_then c.put_slots-second.ensures c.put_labelled-third.ensures) c.put_labelled.ensures
