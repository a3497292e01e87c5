-- All that this crate and those below it define, opened under one name for examples that are computed. A new definition is named here, and nowhere else.
use Rattle.std.specs.Prelude.{ℕ}
use Rattle.cards.specs.Opened.{circuits_open}
use Rattle.orders.specs.Orders.{outcome_by}

unfoldable pub orders_open : ℕ
unfolding circuits_open outcome_by
orders_open = 0
