-- One case for each line: its own call of the sender, replied by number and table; the board is 0 and a malformed line 13, and both leave the table.
use Rattle.std.proofs.Common.{arith}
use Rattle.std.proofs.lemmas.Grind.{common_steps}
use Rattle.sender.specs.Calls.Call.{AddSlot, RemoveSlot, Lapse}
use Rattle.sender.specs.Theorems.Told.{report_done}
use Rattle.session_lines.specs.Replies.{reply_of}
use Rattle.session_lines.proofs.Replying.{replied_as, size_as}
use Rattle.session_lines.proofs.replies.reply_to.Goals as goal

pub returns-in-Size : goal.returns-in-Size
unfolding reply_of
returns-in-Size c = rw c.in-Size.is (size_as c.args.table _ c.start.ensures.told c.replied.ensures)

pub returns-in-Add : goal.returns-in-Add
unfolding reply_of
returns-in-Add c = rw c.in-Add.is (replied_as c.args.table (AddSlot c.in-Add.slot) c.add.ensures.told c.replied-in-Add.ensures)

pub returns-in-Remove : goal.returns-in-Remove
unfolding reply_of
returns-in-Remove c = rw c.in-Remove.is (replied_as c.args.table (RemoveSlot c.in-Remove.slot) c.remove.ensures.told c.replied-in-Remove.ensures)

pub returns-in-Report : goal.returns-in-Report
unfolding reply_of
returns-in-Report c = grind (arith, common_steps, report_done)

pub returns-in-Lapse : goal.returns-in-Lapse
unfolding reply_of
returns-in-Lapse c = rw c.in-Lapse.is (replied_as c.args.table Lapse c.lapse.ensures.told c.replied-in-Lapse.ensures)

pub returns-in-Board : goal.returns-in-Board
unfolding reply_of
returns-in-Board c = rw c.in-Board.is

pub returns-in-Malformed : goal.returns-in-Malformed
unfolding reply_of
returns-in-Malformed c = rw c.in-Malformed.is
