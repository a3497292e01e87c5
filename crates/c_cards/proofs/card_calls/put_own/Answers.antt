-- The owner row over the first 64 bytes, then the group's part over its own: the definition's two fillings in the same order (`own_whole`).
use borrow.Author.Tests.{eq-eqb, ne_eqb}
use Rattle.cards.specs.Parts.{sender_of}
use Rattle.c_cards.proofs.TwoGroups.{own_whole}
use lib.ListN.{length}
use mathlib.Core.Path.{◌≡◌}
use native.Mathlib.Omega.{arith}
use Rattle.c_cards.proofs.card_calls.put_own.Goals as goal

pub put_bytes-requires : goal.put_bytes-requires
put_bytes-requires c =
    let l : length c.args.card.now.owners ≡ 64 = omega arith in rw l (omega arith)

pub returns-then-group-eq0 : goal.returns-then-group-eq0
unfolding sender_of
returns-then-group-eq0 c =
    let l : length c.args.card.now.owners ≡ 64 = omega arith in
    let own : c.args.card.now.first ≡ sender_of c.args.card.now c.args.group = rw (eq-eqb _ 0 c.if-group-eq0.true) in
    own_whole c.args.group c.args.card.now _ c.args.state.now _ _ l c.put_bytes.ensures own c.put_part.ensures

pub returns : goal.returns
unfolding sender_of
returns c =
    let l : length c.args.card.now.owners ≡ 64 = omega arith in
    let own : c.args.card.now.second ≡ sender_of c.args.card.now c.args.group = rw (ne_eqb _ 0 c.if-group-eq0.false) in
    own_whole c.args.group c.args.card.now _ c.args.state.now _ _ l c.put_bytes.ensures own c.put_part-2.ensures
