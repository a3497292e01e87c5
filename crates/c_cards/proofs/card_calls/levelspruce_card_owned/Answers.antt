-- The call meets its contract: 9, 1, 9, and then which slots the group owns.
-- Refused by its state or its length nothing is written. Otherwise the state is a card's (`opened`), and what is put is the definition's bytes (`shown_done`).
use Rattle.c_cards.proofs.TwoGroups.{opened, shown_shut, shown_room, shown_done, owned_own, owned_not}
use mathlib.Core.Path.{◌∙◌, sym}
use Rattle.c_cards.proofs.card_calls.levelspruce_card_owned.Goals as goal

pub returns-then-first-ne0 : goal.returns-then-first-ne0
returns-then-first-ne0 c =
    shown_shut c.args.state.now c.args.group _ c.refusal-first.ensures c.if-first-ne0.true 64 _ _

pub returns-then-owned-ne64 : goal.returns-then-owned-ne64
returns-then-owned-ne64 c =
    shown_room c.args.state.now c.args.group (opened c.args.state.now c.args.group _ c.refusal-first.ensures c.if-first-ne0.false) 64 _ _ c.if-owned-ne64.true

pub own_card-card-requires : goal.own_card-card-requires
own_card-card-requires c =
    (opened c.args.state.now c.args.group _ c.refusal-first.ensures c.if-first-ne0.false).sized

pub returns-in-Ok : goal.returns-in-Ok
returns-in-Ok c =
    let o = opened c.args.state.now c.args.group _ c.refusal-first.ensures c.if-first-ne0.false in
    shown_done c.args.state.now c.args.group o 64 _ _ _ c.if-owned-ne64.false (c.put_owned.ensures ∙ owned_own c.args.state.now c.args.group o _ c.own_card-card.ensures (sym c.in-Ok.is ∙ c.owned.ensures.told))

pub returns-in-Err : goal.returns-in-Err
returns-in-Err c =
    let o = opened c.args.state.now c.args.group _ c.refusal-first.ensures c.if-first-ne0.false in
    absurd (owned_not c.args.state.now c.args.group o _ c.own_card-card.ensures (sym c.in-Err.is ∙ c.owned.ensures.told))
