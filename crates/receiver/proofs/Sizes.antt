-- What the tests of ranges and lengths say.
use mathlib.Core.Path.{◌≡◌}
use mathlib.Core.Bool.{true, ◌&&◌}
use Prim.Native.Nat.{ℕ, ◌≤◌}
use native.Mathlib.Omega.{arith}
use lib.Dec.{eqb, leb}
use borrow.Author.Tests.{eqb-true}
use Rattle.ground.specs.Truth.{and_right}
use Rattle.packet.specs.Laws.Epochs.{half_fits}
use Rattle.phases.specs.Sizes.{store_for}
use Rattle.receiver.specs.Laws.Sizes.{Sizes}
use Rattle.receiver.specs.Lengths.{fetch_fits, output_for, rows_fit}
use Rattle.rows.specs.declared.group.Group.{Group}

pub window_most : (kind count P W : ℕ) → Sizes kind count P W → W ≤ 2048
window_most kind count P W z = let narrow = z.narrow in let half = half_fits kind in omega arith

pub record_length : (g : Group) (n rows store out report : ℕ) → fetch_fits g n rows store out report ≡ true → report ≡ 8
unfolding fetch_fits
record_length g n rows store out report t =
    eqb-true report 8 (and_right (rows_fit n rows && eqb store (store_for g n) && leb (output_for g n) out) (eqb report 8) t)
