-- The call meets its contract: 9, 1, 9, and then the ranks of the group's epoch.
-- Refused by its state or its length nothing is written. Otherwise the state is a card's (`opened`), and what is put is the definition's bytes (`shown_done`).
use Rattle.c_cards.proofs.TwoGroups.{opened, shown_shut, shown_room, shown_done, ranks_own, ranks_not}
use mathlib.Core.Path.{◌∙◌, sym}
use Rattle.c_cards.proofs.card_calls.levelspruce_card_ranks.Goals as goal

pub returns-then-first-ne0 : goal.returns-then-first-ne0
returns-then-first-ne0 c =
    shown_shut c.args.state.now c.args.group _ c.refusal-first.ensures c.if-first-ne0.true 68 _ _

pub returns-then-ranks-ne-RANKS_BYTES : goal.returns-then-ranks-ne-RANKS_BYTES
returns-then-ranks-ne-RANKS_BYTES c =
    shown_room c.args.state.now c.args.group (opened c.args.state.now c.args.group _ c.refusal-first.ensures c.if-first-ne0.false) 68 _ _ c.if-ranks-ne-RANKS_BYTES.true

pub own_card-card-requires : goal.own_card-card-requires
own_card-card-requires c =
    (opened c.args.state.now c.args.group _ c.refusal-first.ensures c.if-first-ne0.false).sized

pub returns-in-Ok : goal.returns-in-Ok
returns-in-Ok c =
    let o = opened c.args.state.now c.args.group _ c.refusal-first.ensures c.if-first-ne0.false in
    shown_done c.args.state.now c.args.group o 68 _ _ _ c.if-ranks-ne-RANKS_BYTES.false (c.put_ranks.ensures ∙ ranks_own c.args.state.now c.args.group o _ c.own_card-card.ensures (sym c.in-Ok.is ∙ c.ranks.ensures.told))

pub returns-in-Err : goal.returns-in-Err
returns-in-Err c =
    let o = opened c.args.state.now c.args.group _ c.refusal-first.ensures c.if-first-ne0.false in
    absurd (ranks_not c.args.state.now c.args.group o _ c.own_card-card.ensures (sym c.in-Err.is ∙ c.ranks.ensures.told))
