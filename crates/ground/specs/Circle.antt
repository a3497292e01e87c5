-- Places on a circle of m places, counted from 0, and how far one lies after another.
use Rattle.std.specs.Prelude.{◌≡◌, ℕ, ◌+◌, ◌-◌, ◌*◌, ◌/◌, ◌%◌, ◌≤◌, ◌<◌}
use Rattle.std.proofs.Common.{◌∙◌, sym, ap, mod-lt, mod-eq_of_lt, div-add-mod', arith}
use Rattle.std.proofs.Math.Nat.{mod-mod, mod-add-mod, add-mod-mod, add-mod_right, add-mul-mod_self_right}

-- how many places a lies after b, going on from b
unfoldable pub after : (m a b : ℕ) → ℕ
after m a b = (a + (m - b % m)) % m

pub after_lt : (m a b : ℕ) → 0 < m → after m a b < m
unfolding after
after_lt m a b h = mod-lt (a + (m - b % m)) h

-- going on from b by that many places leads to a
pub after_leads : (m a b : ℕ) → 0 < m → (b + after m a b) % m ≡ a % m
unfolding after
after_leads m a b h =
    add-mod-mod b (a + (m - b % m)) m
    ∙ ap (λ (n : ℕ). n % m) e
    ∙ add-mul-mod_self_right (a + m) (b / m) m
    ∙ add-mod_right a m
  where
    e : b + (a + (m - b % m)) ≡ a + m + b / m * m
    e = omega (arith, div-add-mod' b m, mod-lt b h)

-- and it is the only number below m that does
pub after_only : (m a b d : ℕ) → d < m → (b + d) % m ≡ a % m → after m a b ≡ d
unfolding after
after_only m a b d h e =
    sym (mod-add-mod a m (m - b % m))
    ∙ ap (λ (n : ℕ). (n + (m - b % m)) % m) (sym e)
    ∙ mod-add-mod (b + d) m (m - b % m)
    ∙ ap (λ (n : ℕ). n % m) whole
    ∙ add-mul-mod_self_right (d + m) (b / m) m
    ∙ add-mod_right d m
    ∙ mod-eq_of_lt h
  where
    m>0 : 0 < m
    m>0 = omega arith

    whole : b + d + (m - b % m) ≡ d + m + b / m * m
    whole = omega (arith, div-add-mod' b m, mod-lt b m>0)

-- places count modulo m
pub after_mod : (m a b : ℕ) → 0 < m → after m (a % m) (b % m) ≡ after m a b
after_mod m a b h =
    after_only m (a % m) (b % m) (after m a b) (after_lt m a b h)
    (mod-add-mod b m (after m a b) ∙ after_leads m a b h ∙ sym (mod-mod a m))

-- of two positions in an endless count, less than a round apart, the places' distance is the positions'
pub after_of : (m x y : ℕ) → y ≤ x → x < y + m → after m (x % m) (y % m) ≡ x - y
after_of m x y low high =
    after_mod m x y (omega arith) ∙ after_only m x y (x - y) (omega arith) (ap (λ (n : ℕ). n % m) (omega arith))
