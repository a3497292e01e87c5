-- Isolation carries over from the single calls (02, 2026-06): the answers to a group's commands and its view depend on its own commands and on the bits of its claims, and on nothing else.
use Rattle.std.specs.Prelude.{◌≡◌, refl, Bool, true, false, List, [], ◌∷◌, ℕ, ◌<◌, eqb}
use Rattle.std.proofs.Common.{◌∙◌, sym, ap, eqb-true}
use Rattle.cards.specs.declared.card.Card.{Card}
use Rattle.cards.specs.Answers.{answer_number}
use Rattle.cards.specs.Calls.{outcome_of}
use Rattle.cards.specs.Theorems.Apart as single
use Rattle.cards.specs.Views.{Asked, Reply, asked_by, bits_of, replies_to, view_of}
use Rattle.cards.specs.Views.Asked.{Do}
use Rattle.cards.specs.Views.Reply.{Answered, Wrote, Showed, Ranked, Owns}
use Rattle.orders.specs.Singles.{Same, answers_to, commands_of, singles_of}
use Rattle.orders.specs.declared.commands.Command.{Command}
use Rattle.orders.specs.Orders.{call_by, orders_of, outcome_by}
use Rattle.orders.specs.Theorems.OneByOne.{card_single}

-- the calls of g's commands, and the numbers of its replies
asks_of : List Command → List Asked
asks_of [] = []
asks_of (c ∷ cs) = Do (call_by c.kind c.slot) ∷ asks_of cs

number_in : Reply → ℕ
number_in (Answered a) = answer_number a
number_in (Wrote a bytes) = answer_number a
number_in (Showed o) = answer_number o.answer
number_in (Ranked o) = answer_number o.answer
number_in (Owns o) = answer_number o.answer

numbers_in : List Reply → List ℕ
numbers_in [] = []
numbers_in (r ∷ rs) = number_in r ∷ numbers_in rs

asked_is : (g : ℕ) (cs : List Command) → asked_by g (singles_of cs) ≡ asks_of (commands_of g cs)
unfolding asks_of
asked_is g [] = refl
asked_is g (c ∷ cs) = go (eqb c.group g) refl (asked_is g cs)
  where
    go : (b : Bool) → eqb c.group g ≡ b → asked_by g (singles_of cs) ≡ asks_of (commands_of g cs) → asked_by g (singles_of (c ∷ cs)) ≡ asks_of (commands_of g (c ∷ cs))
    go true e rest = rw (e, rest) refl
    go false e rest = rw (e, rest) refl

numbers_are : (g : ℕ) (card : Card) (cs : List Command) → answers_to g cs (orders_of card cs).numbers ≡ numbers_in (replies_to g card (singles_of cs))
unfolding numbers_in number_in outcome_by
numbers_are g card [] = refl
numbers_are g card (c ∷ cs) = go (eqb c.group g) refl (numbers_are g (outcome_by card c).card cs)
  where
    go : (b : Bool) → eqb c.group g ≡ b → answers_to g cs (orders_of (outcome_by card c).card cs).numbers ≡ numbers_in (replies_to g (outcome_by card c).card (singles_of cs))
        → answers_to g (c ∷ cs) (orders_of card (c ∷ cs)).numbers ≡ numbers_in (replies_to g card (singles_of (c ∷ cs)))
    go true e rest =
        let same : answer_number (outcome_of card c.group (call_by c.kind c.slot)).answer ≡ answer_number (outcome_of card g (call_by c.kind c.slot)).answer =
        ap (λ (h : ℕ). answer_number (outcome_of card h (call_by c.kind c.slot)).answer) (eqb-true c.group g e) in
        rw (e, rest, same) refl
    go false e rest = rw (e, rest) refl

pub apart : (g : ℕ) → g < 2 → (card other : Card) (cs ds : List Command) → view_of g card ≡ view_of g other → commands_of g cs ≡ commands_of g ds
    → bits_of g card (singles_of cs) ≡ bits_of g other (singles_of ds) → Same g card other cs ds
apart g hg card other cs ds views commands bits =
    let same = single.apart g hg card other (singles_of cs) (singles_of ds) views (asked_is g cs ∙ ap asks_of commands ∙ sym (asked_is g ds)) bits in
    record {
      answers = numbers_are g card cs ∙ ap numbers_in same.replies ∙ sym (numbers_are g other ds);
      view = ap (view_of g) (card_single card cs) ∙ same.view ∙ sym (ap (view_of g) (card_single other ds));
    }
