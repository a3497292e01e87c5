-- The call meets its contract: 9, 1, and then what the card answers and writes.
-- The state is only read: behind the refusals it is a card's (`opened`), and the packet by the slot's owner and the group's own part is the one of that card (`packet_by`).
use native.Mathlib.Omega.{arith}
use Rattle.c_cards.proofs.TwoGroups.{first_at, opened, packet_by, packet_shut, read_part, second_at}
use Rattle.c_cards.proofs.card_calls.levelspruce_card_packet.Goals as goal

pub returns-then-first-ne0 : goal.returns-then-first-ne0
returns-then-first-ne0 c =
    packet_shut c.args.state.now c.args.group _ c.refusal-first.ensures c.if-first-ne0.true c.args.slot c.args.h4.now

pub owner_at-owner-requires : goal.owner_at-owner-requires
owner_at-owner-requires c =
    (opened c.args.state.now c.args.group _ c.refusal-first.ensures c.if-first-ne0.false).sized

pub slice_bounds-packet_in-count : goal.slice_bounds-packet_in-count
slice_bounds-packet_in-count c =
    let sized = (opened c.args.state.now c.args.group _ c.refusal-first.ensures c.if-first-ne0.false).sized in
    omega arith

pub slice_bounds-packet_in-end : goal.slice_bounds-packet_in-end
slice_bounds-packet_in-end c =
    let sized = (opened c.args.state.now c.args.group _ c.refusal-first.ensures c.if-first-ne0.false).sized in
    omega arith

pub packet_in-requires : goal.packet_in-requires
packet_in-requires c =
    let sized = (opened c.args.state.now c.args.group _ c.refusal-first.ensures c.if-first-ne0.false).sized in
    omega arith

pub returns-then-group-eq0 : goal.returns-then-group-eq0
returns-then-group-eq0 c =
    let o = opened c.args.state.now c.args.group _ c.refusal-first.ensures c.if-first-ne0.false in
    let part = read_part c.args.group 64 c.args.state.now (first_at _ c.if-group-eq0.true) o.sized (omega arith) in
    packet_by c.args.state.now c.args.group o c.args.slot c.args.h4.now _ _ _ _ c.owner_at-owner.ensures part c.packet_in.ensures.0 c.packet_in.ensures.1

pub slice_bounds-packet_in-count-2 : goal.slice_bounds-packet_in-count-2
slice_bounds-packet_in-count-2 c =
    let sized = (opened c.args.state.now c.args.group _ c.refusal-first.ensures c.if-first-ne0.false).sized in
    omega arith

pub slice_bounds-packet_in-end-2 : goal.slice_bounds-packet_in-end-2
slice_bounds-packet_in-end-2 c =
    let sized = (opened c.args.state.now c.args.group _ c.refusal-first.ensures c.if-first-ne0.false).sized in
    omega arith

pub packet_in-requires-2 : goal.packet_in-requires-2
packet_in-requires-2 c =
    let sized = (opened c.args.state.now c.args.group _ c.refusal-first.ensures c.if-first-ne0.false).sized in
    omega arith

pub returns : goal.returns
returns c =
    let o = opened c.args.state.now c.args.group _ c.refusal-first.ensures c.if-first-ne0.false in
    let part = read_part c.args.group 461 c.args.state.now (second_at _ c.if-group-eq0.false) o.sized (omega arith) in
    packet_by c.args.state.now c.args.group o c.args.slot c.args.h4.now _ _ _ _ c.owner_at-owner.ensures part c.packet_in-2.ensures.0 c.packet_in-2.ensures.1
