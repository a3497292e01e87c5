-- The call meets its contract: 9, 1, and then what the card answers.
-- Refused, the state is as given (`call_shut`). Otherwise the state is a card's (`opened`), and of what it is afterwards the owner row and the group's part are written (`call_kept`).
use Rattle.c_cards.proofs.TwoGroups.{opened, call_shut, call_kept}
use Rattle.cards.specs.Calls.Call.{Release}
use mathlib.Core.Bool.{true}
use mathlib.Core.Path.{refl}
use Rattle.c_cards.proofs.card_calls.levelspruce_card_release.Goals as goal

pub returns-then-first-ne0 : goal.returns-then-first-ne0
returns-then-first-ne0 c =
    call_shut c.args.state.now c.args.group _ c.refusal-first.ensures c.if-first-ne0.true true (Release c.args.slot)

pub own_card-card-requires : goal.own_card-card-requires
own_card-card-requires c =
    (opened c.args.state.now c.args.group _ c.refusal-first.ensures c.if-first-ne0.false).sized

pub keep-requires : goal.keep-requires
keep-requires c =
    (opened c.args.state.now c.args.group _ c.refusal-first.ensures c.if-first-ne0.false).sized

pub returns : goal.returns
returns c =
    call_kept c.args.state.now c.args.group (opened c.args.state.now c.args.group _ c.refusal-first.ensures c.if-first-ne0.false) _ c.own_card-card.ensures true (Release c.args.slot) _ _ _ refl c.release.ensures.told c.keep.ensures
