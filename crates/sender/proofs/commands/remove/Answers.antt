use Rattle.std.proofs.Common.{◌∙◌, sym, rules}
use Rattle.sender.specs.Commands.{remove_of}
use Rattle.sender.proofs.Answers.{asked_refused, remove_no, remove_done}
use Rattle.sender.specs.Calls.Call.{RemoveSlot}
use Rattle.sender.specs.Theorems.Told.{table_left}
use Rattle.sender.proofs.commands.remove.Goals as goal

pub returns-in_err-at-clause-told : goal.returns-in_err-at-clause-told
unfolding remove_of
returns-in_err-at-clause-told c = search (rules, asked_refused)

pub returns-then-not-is_member-clause-told : goal.returns-then-not-is_member-clause-told
returns-then-not-is_member-clause-told c = remove_no _ _ c.in_ok-at.ensures.value (sym c.is_member.ensures ∙ c.if-not-is_member.true)

pub returns-clause-told : goal.returns-clause-told
returns-clause-told c = remove_done _ _ c.in_ok-at.ensures.value (sym c.is_member.ensures ∙ c.if-not-is_member.false) c.removed_from.ensures

pub returns-in_err-at-clause-left : goal.returns-in_err-at-clause-left
returns-in_err-at-clause-left c = table_left c.args.table (RemoveSlot c.args.slot) (returns-in_err-at-clause-told c)

pub returns-then-not-is_member-clause-left : goal.returns-then-not-is_member-clause-left
returns-then-not-is_member-clause-left c = table_left c.args.table (RemoveSlot c.args.slot) (returns-then-not-is_member-clause-told c)

pub returns-clause-left : goal.returns-clause-left
returns-clause-left c = table_left c.args.table (RemoveSlot c.args.slot) (returns-clause-told c)
