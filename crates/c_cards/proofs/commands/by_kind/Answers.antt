-- Each of the four kinds is the definition's case, with the contract of its own call; any other number is 8 and leaves the state.
use mathlib.Core.Path.{refl}
use native.Mathlib.Omega.{arith}
use Rattle.c_cards.specs.Orders.{kind_answer_on, kind_state_on}
use Prim.Native.Nat.{◌<◌}
use borrow.Author.Tests.{lt-ltb}
use Rattle.c_cards.proofs.commands.by_kind.Goals as goal

pub returns-in-0 : goal.returns-in-0
unfolding kind_answer_on kind_state_on
returns-in-0 c = rw c.in-0.is c.levelspruce_card_add.ensures

pub returns-in-1 : goal.returns-in-1
unfolding kind_answer_on kind_state_on
returns-in-1 c = rw c.in-1.is c.levelspruce_card_remove.ensures

pub returns-in-2 : goal.returns-in-2
unfolding kind_answer_on kind_state_on
returns-in-2 c = rw c.in-2.is c.levelspruce_card_claim.ensures

pub returns-in-3 : goal.returns-in-3
unfolding kind_answer_on kind_state_on
returns-in-3 c = rw c.in-3.is c.levelspruce_card_release.ensures

pub returns-in_default : goal.returns-in_default
unfolding kind_answer_on kind_state_on
returns-in_default c = let more : 3 < c.args.kind = omega arith in rw (lt-ltb 3 _ more) (refl, refl)
