use mathlib.Core.Path.{refl}
use Rattle.c_cards.proofs.card_calls.are_epochs.Goals as goal

pub returns : goal.returns
returns c = rw (c.is_epoch-first.ensures, c.is_epoch-second.ensures) refl
