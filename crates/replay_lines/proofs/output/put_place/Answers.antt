use Rattle.std.proofs.Common.{length}
use Rattle.text.specs.Laws.Putting.{is_put, put_then, room, shorter}
use Rattle.text.specs.Output.{ended, number_text}
use Rattle.text.specs.Text.{TAB}
use Rattle.replay_lines.specs.Output.{why_text}
use Rattle.replay_lines.proofs.Printing.{place_sure, place_why}
use Rattle.replay_lines.proofs.output.put_place.Goals as goal

pub put_why-requires : goal.put_why-requires
put_why-requires c =
    let e = place_why c.args.mark c.args.line c.args.cause c.args.port c.if-mark.true in
    let a = ended (number_text c.args.line) TAB in
    let b = why_text c.args.cause c.args.port in
    let r = rw e at c.requires in
    let p = is_put (shorter a b c.args.at (length c.args.said.now) r) c.put_decimal-next.ensures in
    room p b r

pub returns-then-mark : goal.returns-then-mark
returns-then-mark c =
    let e = place_why c.args.mark c.args.line c.args.cause c.args.port c.if-mark.true in
    let a = ended (number_text c.args.line) TAB in
    let b = why_text c.args.cause c.args.port in
    let r = rw e at c.requires in
    let p = is_put (shorter a b c.args.at (length c.args.said.now) r) c.put_decimal-next.ensures in
    rw e (put_then p c.put_why.ensures)

pub returns : goal.returns
returns c =
    let e = place_sure c.args.mark c.args.line c.args.cause c.args.port c.if-mark.false in
    rw e (is_put (rw e at c.requires) c.put_decimal.ensures)
