-- Loops that make a list of ports anew.
use mathlib.Core.Path.{◌≡◌, refl}
use Prim.Native.Nat.{ℕ}
use lib.ListN.{replicate}
use Rattle.ground.specs.Counting.Each.{each}

module _ {A : Type 0} where
  pub each_both : (n m : ℕ) (f : ℕ → A) (a b : A) → n ≡ m → a ≡ b → each n f (replicate 64 a) ≡ each m f (replicate 64 b)
  each_both n m f a b e h = rw (e, h) refl
