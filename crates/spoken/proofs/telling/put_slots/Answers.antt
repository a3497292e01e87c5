use Rattle.text.specs.Ascii.{ascii}
use Rattle.text.specs.Output.{ended}
use Rattle.text.specs.Text.{TAB}
use Rattle.spoken.specs.SpeakingRuns.{numbers_text, slots_text}
use Rattle.spoken.proofs.InRuns.{said_room, said_then}
use Rattle.spoken.proofs.telling.put_slots.Goals as goal

pub put_numbers-requires : goal.put_numbers-requires
unfolding slots_text
put_numbers-requires c =
    said_room (ended (ascii "slots") TAB) (numbers_text c.args.from c.args.to TAB) c.args.out.now c.args.at c.requires c.put-next.ensures

pub returns : goal.returns
unfolding slots_text
returns c =
    said_then (ended (ascii "slots") TAB) (numbers_text c.args.from c.args.to TAB) c.requires c.put-next.ensures c.put_numbers.ensures
