-- `outcome_of` meets its contract: a kind of command a case, each the card's own call.
use Rattle.orders.specs.Orders.{outcome_by}
use Rattle.orders.proofs.commands.outcome_of.Goals as goal

pub returns-in-Add : goal.returns-in-Add
unfolding outcome_by
returns-in-Add c = rw c.in-Add.is c.add.ensures.told

pub returns-in-Remove : goal.returns-in-Remove
unfolding outcome_by
returns-in-Remove c = rw c.in-Remove.is c.remove.ensures.told

pub returns-in-Claim : goal.returns-in-Claim
unfolding outcome_by
returns-in-Claim c = rw c.in-Claim.is c.claim.ensures.told

pub returns-in-Release : goal.returns-in-Release
unfolding outcome_by
returns-in-Release c = rw c.in-Release.is c.release.ensures.told
