-- A place in a ring of W, less than a round off or more.
use mathlib.Core.Path.{◌≡◌, sym, ◌∙◌}
use Prim.Native.Nat.{ℕ, ◌+◌, ◌-◌, ◌%◌, ◌≤◌, ◌<◌}
use native.Mathlib.Nat.{mod-eq_of_lt, mod-eq-sub-mod}
use borrow.Author.Tests.{ne_eqb}
use Rattle.store.specs.Frames.{ring_of}

module _ (origin d W : ℕ) (w : W ≡ 0 → ⊥) where
  pub ring_first : origin + d < W → origin + d ≡ ring_of origin d W
  unfolding ring_of
  ring_first h = rw (ne_eqb W 0 w) (sym (mod-eq_of_lt h))

  pub ring_over : W ≤ origin + d → (origin + d - W) % W ≡ ring_of origin d W
  unfolding ring_of
  ring_over h = rw (ne_eqb W 0 w) (sym (mod-eq-sub-mod h))

  pub ring_second : W ≤ origin + d → origin + d - W < W → origin + d - W ≡ ring_of origin d W
  ring_second h b = sym (mod-eq_of_lt b) ∙ ring_over h
