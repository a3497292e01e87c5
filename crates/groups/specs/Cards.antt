-- A card from one start on: its calls one after the other without end, each with the group that makes it. Any list of calls is a beginning of some such history.
use Rattle.std.specs.Prelude.{ℕ}
use Rattle.ground.specs.Table.{tabulate}
use Rattle.cards.specs.Views.{Made, card_from}
use Rattle.cards.specs.declared.card.Card.{Card}

pub record CardHistory : Type 0 where
  pub kind : ℕ
  pub slots : ℕ
  -- the number of each group's first epoch
  pub first : ℕ → ℕ
  pub made : ℕ → Made

-- the card after the first n calls
unfoldable pub card_at : CardHistory → ℕ → Card
card_at h n = card_from h.kind h.slots (h.first 0) (h.first 1) (tabulate n h.made)
