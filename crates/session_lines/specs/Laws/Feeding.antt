-- How much of a part of the input is used.
use Rattle.std.specs.Prelude.{◌≡◌, Bool, cond, List, ℕ, ◌+◌, ◌≤◌, ◌<◌}
use Rattle.std.proofs.Math.Path.{refl}
use Rattle.std.proofs.Common.{arith, ltb-false, ltb-true}
use Rattle.std.proofs.Math.Bool.{true, false}
use Rattle.std.proofs.Math.Dec.{ltb}
use Rattle.std.proofs.Math.ListN.{length}
use Rattle.ground.specs.Finding.{index_of}
use Rattle.session_lines.specs.Session.{has_end, used_of}
use Rattle.text.specs.Laws.Parted.{index_le}
use Rattle.text.specs.Text.{LINE-END}

pub used_le : (input : List ℕ) → used_of input ≤ length input
unfolding used_of
used_le input = go (ltb (index_of LINE-END input) (length input)) refl
  where
    go : (b : Bool) → ltb (index_of LINE-END input) (length input) ≡ b → cond b (index_of LINE-END input + 1) (index_of LINE-END input) ≤ length input
    go true e = let h = ltb-true (index_of LINE-END input) (length input) e in omega arith
    go false e = index_le LINE-END input

-- a part with a byte in it is not left as it was
pub used_some : (input : List ℕ) → 0 < length input → 0 < used_of input
unfolding used_of
used_some input h = go (ltb (index_of LINE-END input) (length input)) refl
  where
    go : (b : Bool) → ltb (index_of LINE-END input) (length input) ≡ b → 0 < cond b (index_of LINE-END input + 1) (index_of LINE-END input)
    go true e = omega arith
    go false e = let k = ltb-false (index_of LINE-END input) (length input) e in omega arith

-- where no line ends in a part it is used whole
pub used_all : (input : List ℕ) → has_end input ≡ false → used_of input ≡ length input
unfolding used_of
used_all input h =
    let a = ltb-false (index_of LINE-END input) (length input) h in
    let b = index_le LINE-END input in
    rw h (omega arith)
