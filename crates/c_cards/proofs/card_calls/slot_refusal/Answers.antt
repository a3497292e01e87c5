-- Three exits are the three cases of the definition, in its order: 1 for a slot beyond the count, 0 for the group's own, 14 for any other.
use mathlib.Core.Path.{◌∙◌, refl, sym}
use borrow.Author.Tests.{eq-eqb, le-ltb, lt-ltb, ne_eqb}
use Rattle.sender.specs.Table.{slot_count}
use Rattle.c_cards.proofs.card_calls.slot_refusal.Goals as goal

pub returns-then-size-slot : goal.returns-then-size-slot
unfolding slot_count
returns-then-size-slot c =
    rw (le-ltb c.args.slot _ (rw c.size_byte-size.ensures at c.if-size-slot.true)) refl

pub returns-then-owner-mark : goal.returns-then-owner-mark
unfolding slot_count
returns-then-owner-mark c =
    rw (lt-ltb c.args.slot _ (rw c.size_byte-size.ensures at c.if-size-slot.false), eq-eqb c.args.owner _ (c.if-owner-mark.true ∙ c.mark_of-mark.ensures)) refl

pub returns-else-owner-mark : goal.returns-else-owner-mark
unfolding slot_count
returns-else-owner-mark c =
    rw (lt-ltb c.args.slot _ (rw c.size_byte-size.ensures at c.if-size-slot.false), ne_eqb c.args.owner _ (λ z. c.if-owner-mark.false (z ∙ sym c.mark_of-mark.ensures))) refl
