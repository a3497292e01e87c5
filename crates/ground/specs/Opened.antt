-- All that this crate and those below it define, opened under one name for examples that are computed. A new definition is named here, and nowhere else.
use Rattle.std.specs.Prelude.{ℕ}
use Rattle.ground.specs.Circle.{after}
use Rattle.ground.specs.Finding.{index_after, index_of}

unfoldable pub ground_open : ℕ
unfolding after index_after index_of
ground_open = 0
