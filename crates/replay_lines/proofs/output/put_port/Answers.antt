use Rattle.std.proofs.Common.{◌++◌, length}
use Rattle.text.specs.Ascii.{ascii}
use Rattle.text.specs.Laws.Putting.{is_put, shorter}
use Rattle.text.specs.Output.{decimal_text, ended}
use Rattle.text.specs.Text.{LINE-END, TAB}
use Rattle.replay_lines.specs.Output.{port_text, state_text}
use Rattle.replay_lines.proofs.Printing.{put_more}
use Rattle.replay_lines.proofs.output.put_port.Goals as goal

pub returns : goal.returns
unfolding port_text
returns c =
    let a = ended (ascii "port") TAB in
    let b = ended (decimal_text c.args.port) TAB in
    let d = ended (state_text c.args.state) TAB in
    let e = ended (decimal_text c.args.number) LINE-END in
    let n = length c.args.said.now in
    let two = shorter (a ++ b ++ d) e c.args.at n c.requires in
    let one = shorter (a ++ b) d c.args.at n two in
    let p = is_put (shorter a b c.args.at n one) c.put-second.ensures in
    let q = put_more b p one c.put_number-third.ensures in
    let r = put_more d q two c.put_state-fourth.ensures in
    put_more e r c.requires c.put_number.ensures
