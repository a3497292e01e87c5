use Rattle.text.specs.Ascii.{ascii}
use Rattle.text.specs.Output.{decimal_text, ended}
use Rattle.text.specs.Text.{TAB}
use Rattle.spoken.specs.Speaking.{slot_text}
use Rattle.spoken.proofs.Saying.{both_put}
use Rattle.spoken.proofs.speaking.put_slot.Goals as goal

pub returns : goal.returns
unfolding slot_text
returns c =
    both_put (ended (ascii "slot") TAB) (ended (decimal_text c.args.slot) TAB) c.requires c.put-next.ensures c.put_number.ensures
