-- What the tests that a start meets say of its sizes.
use mathlib.Core.Path.{◌≡◌}
use mathlib.Core.Bool.{true}
use mathlib.Core.List.{List}
use Prim.Native.Nat.{ℕ}
use Rattle.receiver.specs.Laws.Sizes.{Sizes, right_sized, start_sizes_of}
use Rattle.receiver.specs.Starting.{start_right}

pub right_sizes : (kind count P W : ℕ) (hold restore : List ℕ) → start_right kind count P W hold restore ≡ true → Sizes kind count P W
right_sizes kind count P W hold restore e = start_sizes_of kind count P W (right_sized kind count P W hold restore e)
