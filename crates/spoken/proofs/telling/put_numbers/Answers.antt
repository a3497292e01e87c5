-- `put_numbers` meets its contract: one number where both are alike, else the first, `to` and the last, one text behind the other.
use Rattle.text.specs.Ascii.{ascii}
use Rattle.text.specs.Output.{decimal_text, ended}
use Rattle.text.specs.Text.{TAB}
use Rattle.text.specs.Laws.Putting.{is_put}
use Rattle.spoken.proofs.InRuns.{numbers_alike, numbers_to}
use Rattle.spoken.proofs.Saying.{three_put}
use Rattle.spoken.proofs.telling.put_numbers.Goals as goal

pub returns-then-first-last : goal.returns-then-first-last
returns-then-first-last c =
    let e = numbers_alike c.args.first c.args.last c.args.mark c.if-first-last.true in
    rw e (is_put (rw e at c.requires) c.put_number.ensures)

pub returns : goal.returns
returns c =
    let e = numbers_to c.args.first c.args.last c.args.mark c.if-first-last.false in
    rw e (three_put (ended (decimal_text c.args.first) TAB) (ended (ascii "to") TAB) (ended (decimal_text c.args.last) c.args.mark) (rw e at c.requires) c.put_number-second.ensures c.put-third.ensures c.put_number-2.ensures)
