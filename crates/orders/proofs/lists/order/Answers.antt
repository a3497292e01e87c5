use Rattle.std.specs.Prelude.{Ok, Result}
use Rattle.std.specs.Result.{result_unwrap_or}
use Rattle.std.proofs.Common.{◌≡◌, ◌∙◌, ap, arith, eq-eqb, length}
use Rattle.cards.specs.declared.card.Card.{Card}
use Rattle.cards.specs.declared.refusals.Refusal.{Refusal}
use Rattle.orders.specs.Orders.{Ordered}
use Rattle.orders.specs.Theorems.Told.{nothing_lost}
use Rattle.orders.proofs.Turned.{card_all, card_at, list_all, list_at}
use Rattle.orders.proofs.lists.order.Goals as goal

pub returns-clause-told : goal.returns-clause-told
returns-clause-told c =
    let card = c.args.card in
    let cs = c.args.commands.now in
    let ys = c.args.answers.now in
    let all : c.loop-i.i ≡ length cs = omega arith in
    let left : c.loop-i.left ≡ card_at card cs (length cs) = rw all at c.loop-i.invariant.card in
    let list : c.loop-i.answers ≡ list_at card cs ys (length cs) = rw all at c.loop-i.invariant.list in
    rw (eq-eqb (length cs) (length ys) c.if-commands-answers.false) (ap Ok (left ∙ card_all card cs), list ∙ list_all card cs ys c.if-commands-answers.false)

pub returns-clause-left : goal.returns-clause-left
returns-clause-left c =
    ap (λ (r : Result Card Refusal). result_unwrap_or r c.args.card) (returns-clause-told c).0
    ∙ ap (λ (r : Ordered). r.card) (nothing_lost c.args.card c.args.commands.now (length c.args.answers.now))
