use Rattle.std.proofs.Common.{◌∙◌, sym, rules}
use Rattle.sender.specs.Commands.{add_of}
use Rattle.sender.proofs.Answers.{asked_refused, add_no, add_done}
use Rattle.sender.specs.Calls.Call.{AddSlot}
use Rattle.sender.specs.Theorems.Told.{table_left}
use Rattle.sender.proofs.commands.add.Goals as goal

pub returns-in_err-at-clause-told : goal.returns-in_err-at-clause-told
unfolding add_of
returns-in_err-at-clause-told c = search (rules, asked_refused)

pub returns-then-is_member-clause-told : goal.returns-then-is_member-clause-told
returns-then-is_member-clause-told c = add_no _ _ c.in_ok-at.ensures.value (sym c.is_member.ensures ∙ c.if-is_member.true)

pub returns-clause-told : goal.returns-clause-told
returns-clause-told c = add_done _ _ c.in_ok-at.ensures.value (sym c.is_member.ensures ∙ c.if-is_member.false) c.added_to.ensures

pub returns-in_err-at-clause-left : goal.returns-in_err-at-clause-left
returns-in_err-at-clause-left c = table_left c.args.table (AddSlot c.args.slot) (returns-in_err-at-clause-told c)

pub returns-then-is_member-clause-left : goal.returns-then-is_member-clause-left
returns-then-is_member-clause-left c = table_left c.args.table (AddSlot c.args.slot) (returns-then-is_member-clause-told c)

pub returns-clause-left : goal.returns-clause-left
returns-clause-left c = table_left c.args.table (AddSlot c.args.slot) (returns-clause-told c)
