use lib.ListN.{length}
use Rattle.text.specs.Laws.Putting.{is_put, put_then, room, shorter}
use Rattle.text.specs.Output.{decimal_text, ended}
use Rattle.text.specs.Text.{LINE-END, TAB}
use Rattle.session_lines.specs.Output.{ANSWER, answer_text}
use Rattle.session_lines.proofs.output.put_answer.Goals as goal

pub returns : goal.returns
unfolding answer_text
returns c =
    let b = ended (decimal_text c.args.number) LINE-END in
    let p = is_put (shorter (ended ANSWER TAB) b 0 (length c.args.out.now) c.requires) c.put-next.ensures in
    put_then p (is_put (room p b c.requires) c.put_number.ensures)
