-- A size that is accepted is told with the count (`done_size`); for any other line there is no text, and the output stays (`done_none`).
use Rattle.speak_lines.proofs.Printing.{done_none, done_size}
use Rattle.speak_lines.proofs.lines.put_done.Goals as goal

pub returns-then-not-is_size : goal.returns-then-not-is_size
returns-then-not-is_size c =
    done_none c.args.line c.args.count c.args.out.now c.is_size.result c.is_size.ensures (c.if-not-is_size.true)

pub returns : goal.returns
returns c =
    done_size c.args.line c.args.count c.args.out.now c.is_size.result c.is_size.ensures (c.if-not-is_size.false) c.requires c.put-next.ensures c.put_number.ensures
