use Rattle.std.proofs.Common.{length}
use Rattle.text.specs.Ascii.{ascii}
use Rattle.text.specs.Laws.Putting.{is_put, shorter}
use Rattle.text.specs.Output.{decimal_text, ended}
use Rattle.text.specs.Text.{LINE-END}
use Rattle.replay_lines.proofs.Printing.{blamed_none, blamed_some, put_more}
use Rattle.replay_lines.proofs.output.put_blamed.Goals as goal

pub returns-then-port-eq255 : goal.returns-then-port-eq255
returns-then-port-eq255 c =
    let e = blamed_none c.args.port c.if-port-eq255.true in
    rw e (is_put (rw e at c.requires) c.put.ensures)

pub returns : goal.returns
returns c =
    let e = blamed_some c.args.port c.if-port-eq255.false in
    let a = ascii "\tport\t" in
    let b = ended (decimal_text c.args.port) LINE-END in
    let r = rw e at c.requires in
    rw e (put_more b (is_put (shorter a b c.args.at (length c.args.said.now) r) c.put-next.ensures) r c.put_number.ensures)
