-- Whether the sum stays within the length is asked of a difference, since the sum may not fit.
use mathlib.Core.Path.{◌≡◌, sym}
use Prim.Native.Nat.{ℕ, ◌+◌, ◌-◌, ◌≤◌}
use native.Mathlib.Omega.{arith}
use lib.Dec.{leb}
use borrow.Author.Tests.{lt-leb, le-leb, leb-true}
use Rattle.ground.specs.Truth.{same_test}
use Rattle.payload.proofs.answer.ends_within.Goals as goal

moved : (place n len : ℕ) → n ≤ len → leb place (len - n) ≡ leb (place + n) len
moved place n len h =
    same_test (leb place (len - n)) (leb (place + n) len)
    (λ e. let l = leb-true place (len - n) e in le-leb (place + n) len (omega arith))
    (λ e. let l = leb-true (place + n) len e in le-leb place (len - n) (omega arith))

pub returns-then-n-len : goal.returns-then-n-len
returns-then-n-len c = let a = c.args in moved a.place a.n a.len (omega arith)

pub returns-else-n-len : goal.returns-else-n-len
returns-else-n-len c = let a = c.args in sym (lt-leb (a.place + a.n) a.len (omega arith))
