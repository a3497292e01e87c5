-- Going on and back on a circle of m places, and which of two places lies nearer behind a third.
use Rattle.std.specs.Prelude.{◌≡◌, ◌≢◌, ℕ, ◌+◌, ◌-◌, ◌*◌, ◌/◌, ◌%◌, ◌≤◌, ◌<◌}
use Rattle.std.proofs.Common.{◌∙◌, sym, ap, ⊎_elim, mod-lt, div-add-mod', arith}
use Rattle.std.proofs.Math.Nat.{mod-mod, mod-add-mod, add-mod_right, add-mul-mod_self_right}
use Rattle.ground.specs.Circle.{after, after_lt, after_leads, after_only}
use Rattle.ground.specs.Truth.{eq_or_ne}

-- Numbers at one place are at one place k places further on, and k places back.

same_on : (m a b k : ℕ) → a % m ≡ b % m → (a + k) % m ≡ (b + k) % m
same_on m a b k e = sym (mod-add-mod a m k) ∙ ap (λ (n : ℕ). (n + k) % m) e ∙ mod-add-mod b m k

same_back : (m a b k : ℕ) → 0 < m → (a + k) % m ≡ (b + k) % m → a % m ≡ b % m
same_back m a b k h e = sym (round a) ∙ same_on m (a + k) (b + k) (m - k % m) e ∙ round b
  where
    whole : (n : ℕ) → n + k + (m - k % m) ≡ n + m + k / m * m
    whole n = omega (arith, div-add-mod' k m, mod-lt k h)

    round : (n : ℕ) → (n + k + (m - k % m)) % m ≡ n % m
    round n = ap (λ (j : ℕ). j % m) (whole n) ∙ add-mul-mod_self_right (n + m) (k / m) m ∙ add-mod_right n m

-- places count modulo m
pub after_from : (m a b : ℕ) → after m a (b % m) ≡ after m a b
unfolding after
after_from m a b = rw (mod-mod b m)

-- k places on from a lie k further after b
pub after_on : (m a b k : ℕ) → after m a b + k < m → after m ((a + k) % m) b ≡ after m a b + k
after_on m a b k h =
    after_only m ((a + k) % m) b (after m a b + k) h
    (ap (λ (n : ℕ). n % m) assoc ∙ same_on m (b + after m a b) a k (after_leads m a b (omega arith)) ∙ sym (mod-mod (a + k) m))
  where
    assoc : b + (after m a b + k) ≡ b + after m a b + k
    assoc = omega arith

-- and a lies k nearer after k places on from b
pub after_nearer : (m a b k : ℕ) → 0 < m → k ≤ after m a b → after m a ((b + k) % m) + k ≡ after m a b
after_nearer m a b k h l =
    let d : ℕ = after m a b in
    let below = after_lt m a b h in
    let sum : b + k + (d - k) ≡ b + d = omega arith in
    let e : after m a ((b + k) % m) ≡ d - k =
    after_only m a ((b + k) % m) (d - k) (omega arith) (mod-add-mod (b + k) m (d - k) ∙ ap (λ (n : ℕ). n % m) sum ∙ after_leads m a b h) in
    omega arith

-- no distance: one place
pub after_none : (m a b : ℕ) → 0 < m → after m a b ≡ 0 → b % m ≡ a % m
after_none m a b h z =
    let e : b ≡ b + after m a b = omega arith in
    ap (λ (n : ℕ). n % m) e ∙ after_leads m a b h

pub none_after : (m a b : ℕ) → 0 < m → b % m ≡ a % m → after m a b ≡ 0
none_after m a b h e = let z : b + 0 ≡ b = omega arith in after_only m a b 0 h (ap (λ (n : ℕ). n % m) z ∙ e)

-- forth and back is a round
round_back : (m a b : ℕ) → 0 < m → after m a b ≢ 0 → after m b a ≡ m - after m a b
round_back m a b h some =
    let d : ℕ = after m a b in
    let below = after_lt m a b h in
    let sum : b + d + (m - d) ≡ b + m = omega arith in
    after_only m b a (m - d) (omega arith)
    (same_on m a (b + d) (m - d) (sym (after_leads m a b h)) ∙ ap (λ (n : ℕ). n % m) sum ∙ add-mod_right b m)

-- so two distances, forth and back, of at most half a round each and not both a half, are none
pub forth_and_back : (m a b w : ℕ) → 0 < m → w + w ≤ m → after m a b < w → after m b a < w → after m a b ≡ 0
forth_and_back m a b w h half forth back =
    ⊎_elim (λ (z : after m a b ≡ 0). z) (λ (n : after m a b ≢ 0). let r = round_back m a b h n in absurd (omega arith)) (eq_or_ne (after m a b) 0)

-- Of two places behind a third: how far the one that is nearer to it lies after the other, and how far the other lies after that one, round the circle.

meet_there : (m far a t : ℕ) → 0 < m → (a + after m far a) % m ≡ (t + after m far t) % m
meet_there m far a t h = after_leads m far a h ∙ sym (after_leads m far t h)

pub nearer_behind : (m far a t : ℕ) → 0 < m → after m far t ≤ after m far a → after m t a ≡ after m far a - after m far t
nearer_behind m far a t h l =
    let da : ℕ = after m far a in
    let dt : ℕ = after m far t in
    let below = after_lt m far a h in
    let sum : a + (da - dt) + dt ≡ a + da = omega arith in
    after_only m t a (da - dt) (omega arith) (same_back m (a + (da - dt)) t dt h (ap (λ (n : ℕ). n % m) sum ∙ meet_there m far a t h))

pub farther_behind : (m far a t : ℕ) → 0 < m → after m far a < after m far t → after m t a ≡ m - (after m far t - after m far a)
farther_behind m far a t h l =
    let da : ℕ = after m far a in
    let dt : ℕ = after m far t in
    let below = after_lt m far t h in
    let sum : a + (m - (dt - da)) + dt ≡ a + da + m = omega arith in
    after_only m t a (m - (dt - da)) (omega arith)
    (same_back m (a + (m - (dt - da))) t dt h (ap (λ (n : ℕ). n % m) sum ∙ add-mod_right (a + da) m ∙ meet_there m far a t h))

-- an arc from the place before b to a, and r places on: r - 1 more after b
pub arc_on : (m a b r : ℕ) → 1 ≤ r → after m a ((b + (m - 1)) % m) + r < m → after m ((a + r) % m) b + 1 ≡ after m a ((b + (m - 1)) % m) + r
arc_on m a b r l h =
    let c : ℕ = (b + (m - 1)) % m in
    let sum : b + (m - 1) + 1 ≡ b + m = omega arith in
    let next : (c + 1) % m ≡ b % m = mod-add-mod (b + (m - 1)) m 1 ∙ ap (λ (n : ℕ). n % m) sum ∙ add-mod_right b m in
    let on : after m ((a + r) % m) c ≡ after m a c + r = after_on m a c r h in
    let near = after_nearer m ((a + r) % m) c 1 (omega arith) (omega arith) in
    let same : after m ((a + r) % m) ((c + 1) % m) ≡ after m ((a + r) % m) b = ap (λ (n : ℕ). after m ((a + r) % m) n) next ∙ after_from m ((a + r) % m) b in
    omega arith
