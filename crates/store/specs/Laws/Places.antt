-- Where frames stand in the store.
use Rattle.std.specs.Prelude.{◌≡◌, refl, ◌⊎◌, Bool, true, false, cond, ℕ, ◌+◌, ◌*◌, ◌/◌, ◌%◌, ◌≤◌, ◌<◌, eqb}
use Rattle.std.proofs.Common.{sym, ap, ◌∙◌, inl, inr, ⊎_elim, mod-lt, mul-le-mul, arith, ne_eqb}
use Rattle.std.proofs.Math.Nat.{mod-le, mod-add-mod}
use Rattle.std.proofs.Math.Arith.{digits_lt, digits_div, digits_mod}
use Rattle.ground.specs.Circle.{after_only}
use Rattle.ground.specs.Truth.{le_or_lt}
use Rattle.rows.specs.declared.group.Group.{Group}
use Rattle.store.specs.Frames.{place_in, ring_of}

pub ring_le : (origin d W : ℕ) → ring_of origin d W ≤ origin + d
unfolding ring_of
ring_le origin d W = go (eqb W 0)
  where
    go : (b : Bool) → cond b 0 ((origin + d) % W) ≤ origin + d
    go true = omega arith
    go false = mod-le (origin + d) W

-- the products of a place stay within the machine's words
pub row_fits : (port W r : ℕ) → port ≤ 255 → W ≤ 65535 → r ≤ 131070 → port * W + r ≤ 16842495
row_fits port W r hp hw hr = omega (arith, mul-le-mul hp hw)

pub product_fits : (a P : ℕ) → a ≤ 16842495 → P ≤ 65535 → a * (P + 1) + P ≤ 1103789883855
product_fits a P ha hp = let q : P + 1 ≤ 65536 = omega arith in omega (arith, mul-le-mul ha q)

pub place_fits : (g : Group) (port d : ℕ) → port ≤ 255 → g.window ≤ 65535 → g.origin ≤ 65535 → d ≤ 65535 → g.payload ≤ 65535
    → place_in g port d + g.payload ≤ 1103789883855
unfolding place_in
place_fits g port d hp hw ho hd hl =
    let r = ring_le g.origin d g.window in
    product_fits _ g.payload (row_fits port g.window (ring_of g.origin d g.window) hp hw (omega arith)) hl

pub ring_is : (origin d W : ℕ) → 0 < W → ring_of origin d W ≡ (origin + d) % W
unfolding ring_of
ring_is origin d W h = rw (ne_eqb W 0 (λ (e : W ≡ 0). omega arith))

pub ring_lt : (origin d W : ℕ) → 0 < W → ring_of origin d W < W
ring_lt origin d W h = rw (ring_is origin d W h) (mod-lt (origin + d) h)

-- less than a round apart, two distances have one place only where they are one
ring_apart : (origin d e W : ℕ) → d < W → e < W → ring_of origin d W ≡ ring_of origin e W → d ≡ e
ring_apart origin d e W hd he q =
    let w : 0 < W = omega arith in
    let r : (origin + e) % W ≡ (origin + d) % W = sym (ring_is origin e W w) ∙ sym q ∙ ring_is origin d W w in
    sym (after_only W (origin + d) origin d hd refl) ∙ after_only W (origin + d) origin e he r

-- the origin moved
ring_moved : (origin d L W : ℕ) → ring_of ((origin + L) % W) d W ≡ ring_of origin (d + L) W
unfolding ring_of
ring_moved origin d L W =
    let e : origin + L + d ≡ origin + (d + L) = omega arith in
    ap (λ (n : ℕ). cond (eqb W 0) 0 n) (mod-add-mod (origin + L) W d ∙ ap (λ (n : ℕ). n % W) e)

-- the whole frame of one of n ports lies in a store of n W (P + 1) bytes
pub place_within : (g : Group) (n i d : ℕ) → 0 < g.window → i < n → place_in g i d + g.payload < n * g.window * (g.payload + 1)
unfolding place_in
place_within g n i d w h =
    digits_lt {q = i * g.window + ring_of g.origin d g.window} {m = n * g.window} {r = g.payload} {c = g.payload + 1}
    (digits_lt {q = i} {m = n} {r = ring_of g.origin d g.window} {c = g.window} h (ring_lt g.origin d g.window w)) (omega arith)

-- pieces of P + 1 bytes
pieces : (a b P : ℕ) → a < b → a * (P + 1) + P < b * (P + 1)
pieces a b P h = digits_lt {q = a} {m = b} {r = P} {c = P + 1} h (omega arith)

-- two frames within the window, of other ports or other distances, have no byte in common
pub place_apart : (g : Group) (i j d e : ℕ) → d < g.window → e < g.window → (i ≡ j → d ≡ e → ⊥)
    → (place_in g i d + g.payload < place_in g j e) ⊎ (place_in g j e + g.payload < place_in g i d)
unfolding place_in
place_apart g i j d e hd he no_one =
    ⊎_elim
    (λ (q : b ≤ a).
    ⊎_elim (λ (m : a ≤ b). absurd (differ (omega arith))) (λ (m : b < a). inr (pieces b a g.payload m)) (le_or_lt a b))
    (λ (q : a < b). inl (pieces a b g.payload q)) (le_or_lt b a)
  where
    W : ℕ
    W = g.window

    w : 0 < W
    w = omega arith

    r : ℕ → ℕ
    r x = ring_of g.origin x W

    a : ℕ
    a = i * W + r d

    b : ℕ
    b = j * W + r e

    differ : a ≡ b → ⊥
    differ q =
        let same : i ≡ j = sym (digits_div i (ring_lt g.origin d W w)) ∙ ap (λ (n : ℕ). n / W) q ∙ digits_div j (ring_lt g.origin e W w) in
        let turn : r d ≡ r e = sym (digits_mod i (ring_lt g.origin d W w)) ∙ ap (λ (n : ℕ). n % W) q ∙ digits_mod j (ring_lt g.origin e W w) in
        no_one same (ring_apart g.origin d e W hd he turn)

-- places are by P, W and the origin alone
pub place_same : (g h : Group) (i d : ℕ) → h.payload ≡ g.payload → h.window ≡ g.window → h.origin ≡ g.origin → place_in h i d ≡ place_in g i d
unfolding place_in
place_same g h i d p w o = rw (p, w, o)

-- as the window's first frame is L frames later, each frame stays where it was and is L frames nearer
pub place_moved : (g h : Group) (L i d : ℕ) → h.payload ≡ g.payload → h.window ≡ g.window → h.origin ≡ (g.origin + L) % g.window
    → place_in h i d ≡ place_in g i (d + L)
unfolding place_in
place_moved g h L i d p w o = rw (p, w, o, ring_moved g.origin d L g.window)
