-- `put_row` meets its contract: label, word and number, one behind the other.
-- The three have room together, so each was put whole and not left out (`three_put`).
use Rattle.text.specs.Output.{decimal_text, ended, word_text}
use Rattle.text.specs.Text.{TAB}
use Rattle.spoken.specs.Speaking.{row_text}
use Rattle.spoken.proofs.Saying.{three_put}
use Rattle.spoken.proofs.speaking.put_row.Goals as goal

pub returns : goal.returns
unfolding row_text
returns c =
    three_put c.args.label.now (ended (word_text c.args.row.word) TAB) (ended (decimal_text c.args.row.number) c.args.mark) c.requires c.put-second.ensures c.put_word-third.ensures c.put_number.ensures
