use Rattle.std.proofs.Common.{◌++◌, length}
use Rattle.text.specs.Ascii.{ascii}
use Rattle.text.specs.Laws.Putting.{is_put, put_then, room, shorter}
use Rattle.text.specs.Output.{ended}
use Rattle.text.specs.Text.{TAB}
use Rattle.replay_lines.specs.Output.{blamed_text, cause_text, why_text}
use Rattle.replay_lines.proofs.Printing.{put_more}
use Rattle.replay_lines.proofs.output.put_why.Goals as goal

pub put_blamed-requires : goal.put_blamed-requires
unfolding why_text
put_blamed-requires c =
    let a = ended (ascii "cause") TAB in
    let b = cause_text c.args.cause in
    let d = blamed_text c.args.port in
    let n = length c.args.said.now in
    let two = shorter (a ++ b) d c.args.at n c.requires in
    let p = is_put (shorter a b c.args.at n two) c.put-second.ensures in
    let q = put_more b p two c.put_cause-third.ensures in
    room q d c.requires

pub returns : goal.returns
unfolding why_text
returns c =
    let a = ended (ascii "cause") TAB in
    let b = cause_text c.args.cause in
    let d = blamed_text c.args.port in
    let n = length c.args.said.now in
    let two = shorter (a ++ b) d c.args.at n c.requires in
    let p = is_put (shorter a b c.args.at n two) c.put-second.ensures in
    let q = put_more b p two c.put_cause-third.ensures in
    put_then q c.put_blamed.ensures
