-- `put_refused` meets its contract: seven texts one behind the other, which are together shorter than the room.
use Rattle.speak_lines.proofs.Printing.{refused_stands}
use Rattle.speak_lines.proofs.lines.put_refused.Goals as goal

pub returns : goal.returns
returns c =
    refused_stands c.args.line c.args.number c.args.place c.args.out.now c.requires c.put-second.ensures c.put_number-third.ensures c.put-fourth.ensures c.put_decimal-fifth.ensures
    (rw c.name_of.ensures at c.put-sixth.ensures) c.put_numbered-seventh.ensures (rw c.why.ensures at c.put.ensures)
