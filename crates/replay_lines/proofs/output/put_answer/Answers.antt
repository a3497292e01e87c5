use Rattle.std.proofs.Common.{◌++◌, length}
use Rattle.text.specs.Ascii.{ascii}
use Rattle.text.specs.Laws.Putting.{is_put, shorter}
use Rattle.text.specs.Output.{decimal_text, ended, number_text}
use Rattle.text.specs.Text.{LINE-END, TAB}
use Rattle.replay_lines.specs.Output.{answer_text}
use Rattle.replay_lines.proofs.Printing.{put_more}
use Rattle.replay_lines.proofs.output.put_answer.Goals as goal

pub returns : goal.returns
unfolding answer_text
returns c =
    let a = ended (ascii "answer") TAB in
    let b = ended (decimal_text c.args.number) TAB in
    let d = ended (ascii "line") TAB in
    let e = ended (number_text c.args.line) LINE-END in
    let n = length c.args.said.now in
    let two = shorter (a ++ b ++ d) e 0 n c.requires in
    let one = shorter (a ++ b) d 0 n two in
    let p = is_put (shorter a b 0 n one) c.put-second.ensures in
    let q = put_more b p one c.put_number-third.ensures in
    let r = put_more d q two c.put-fourth.ensures in
    put_more e r c.requires c.put_decimal.ensures
