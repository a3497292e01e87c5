use mathlib.Core.Path.{refl}
use borrow.Author.Tests.{eq-eqb, ne_eqb, lt-ltb, le-ltb}
use Rattle.c_cards.specs.Cards.{refusal_of}
use Rattle.c_cards.proofs.card_calls.refusal.Goals as goal

pub returns-then-length-ne-CARD_BYTES : goal.returns-then-length-ne-CARD_BYTES
unfolding refusal_of
returns-then-length-ne-CARD_BYTES c = rw (ne_eqb _ 858 c.if-length-ne-CARD_BYTES.true) refl

pub returns-then-group-lt2 : goal.returns-then-group-lt2
unfolding refusal_of
returns-then-group-lt2 c = rw (eq-eqb _ 858 c.if-length-ne-CARD_BYTES.false, lt-ltb _ 2 c.if-group-lt2.true) refl

pub returns-else-group-lt2 : goal.returns-else-group-lt2
unfolding refusal_of
returns-else-group-lt2 c = rw (eq-eqb _ 858 c.if-length-ne-CARD_BYTES.false, le-ltb _ 2 c.if-group-lt2.false) refl
