use Rattle.spoken.specs.Theorems.NothingLost.{changes_left, compared_known}
use Rattle.spoken.specs.Changes.{no_changes}
use Rattle.spoken.proofs.Listing.{compared_done, compared_refused, comparable_is, comparable_not}
use Rattle.spoken.proofs.comparing.changes_between.Goals as goal

pub returns-then-old-new-clause-told : goal.returns-then-old-new-clause-told
returns-then-old-new-clause-told c = compared_refused c.args.old c.args.new (comparable_not c.args.old c.args.new c.then-old-new.either)

pub returns-clause-told : goal.returns-clause-told
returns-clause-told c =
    compared_done c.args.old c.args.new _ _ (comparable_is c.args.old c.args.new c.if-old-new.false c.if-old-gt64.false) c.wait_change-wait.ensures (rw c.from.ensures at c.changes_in.ensures)

pub returns-then-old-new-clause-left : goal.returns-then-old-new-clause-left
returns-then-old-new-clause-left c = changes_left no_changes (returns-then-old-new-clause-told c) (compared_known c.args.old c.args.new)

pub returns-clause-left : goal.returns-clause-left
returns-clause-left c = changes_left no_changes (returns-clause-told c) (compared_known c.args.old c.args.new)
