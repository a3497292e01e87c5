-- A shuffle is a block of two rows turned, and a shuffle of a turned block is the block of twice the rows turned.
use mathlib.Core.Path.{◌≡◌, sym, ap, ◌∙◌}
use mathlib.Core.List.{List}
use Prim.Native.Nat.{ℕ, ◌+◌, ◌-◌, ◌*◌, ◌/◌, ◌%◌, ◌^◌, ◌<◌}
use native.Mathlib.Nat.{mod-lt, div-add-mod', div-div-eq-div-mul, mul-div_cancel_left, mul_comm}
use native.Mathlib.Omega.{arith}
use lib.Arith.{digits_div, digits_lt, digits_mod, mod-mul}
use lib.ListN.{length, get_or, set}
use lib.Pow.{pow-add, pow_pos}
use Rattle.ground.specs.Drawn.{Filling, filling_more}
use Rattle.ground.specs.Table.{tabulate, tabulate_ext, tabulate_self, get_or_tabulate}
use Rattle.payload.specs.Inner.Block.{turned}

-- two bytes more of a shuffle
pub two_more : (half : ℕ) (q : List ℕ) (i : ℕ) {d out : List ℕ} → Filling 0 (2 * i) (λ k. get_or q (k % 2 * half + k / 2) 0) d out
    → Filling 0 (2 * (i + 1)) (λ k. get_or q (k % 2 * half + k / 2) 0) d (set (set out (2 * i) (get_or q i 0)) (2 * i + 1) (get_or q (half + i) 0))
two_more half q i {d} {out} h =
    let low : 2 * i % 2 ≡ 0 = omega arith in
    let high : (2 * i + 1) % 2 ≡ 1 = omega arith in
    let even : 2 * i % 2 * half + 2 * i / 2 ≡ i = rw low (omega arith) in
    let odd : (2 * i + 1) % 2 * half + (2 * i + 1) / 2 ≡ half + i = rw high (omega arith) in
    let next : 2 * i + 1 + 1 ≡ 2 * (i + 1) = omega arith in
    let first : 0 + 2 * i ≡ 2 * i = omega arith in
    let second : 0 + (2 * i + 1) ≡ 2 * i + 1 = omega arith in
    rw (even, odd, next, first, second) at (filling_more (filling_more h))

-- what is looked up twice, where the places are known by a simpler sum
pub then : (n : ℕ) (q : List ℕ) (s g h : ℕ → ℕ) → ((k : ℕ) → k < n → s k < n) → ((k : ℕ) → k < n → g (s k) ≡ h k)
    → tabulate n (λ k. get_or (tabulate n (λ i. get_or q (g i) 0)) (s k) 0) ≡ tabulate n (λ k. get_or q (h k) 0)
then n q s g h inside e =
    tabulate_ext n (λ k. get_or (tabulate n (λ i. get_or q (g i) 0)) (s k) 0) (λ k. get_or q (h k) 0)
    (λ k b. get_or_tabulate n (λ i. get_or q (g i) 0) (s k) 0 (inside k b) ∙ ap (λ (i : ℕ). get_or q i 0) (e k b))

-- a shuffle of h rows turned is twice the rows turned
pub twice : (h w : ℕ) (q : List ℕ) → 0 < h → turned 2 (h * w) (turned h (w * 2) q) ≡ turned (h * 2) w q
twice h w q pos =
    rw size
    (tabulate_ext (h * 2 * w) (λ k. get_or (tabulate (h * (w * 2)) (λ i. get_or q (i % h * (w * 2) + i / h) 0)) (k % 2 * (h * w) + k / 2) 0)
    (λ k. get_or q (k % (h * 2) * w + k / (h * 2)) 0) same)
  where
    size : 2 * (h * w) ≡ h * 2 * w
    size = omega arith

    same : (k : ℕ) → k < h * 2 * w → get_or (tabulate (h * (w * 2)) (λ i. get_or q (i % h * (w * 2) + i / h) 0)) (k % 2 * (h * w) + k / 2) 0
        ≡ get_or q (k % (h * 2) * w + k / (h * 2)) 0
    same k b =
        let i : ℕ = k / 2 in
        let half : i < h * w = omega arith in
        let bit : k % 2 < 2 = omega arith in
        let inside : k % 2 * (h * w) + i < h * (w * 2) = omega (arith, digits_lt bit half) in
        let r = mod-lt i pos in
        let at : k % 2 * (h * w) + i ≡ (k % 2 * w + i / h) * h + i % h = omega (arith, div-add-mod' i h) in
        let row : (k % 2 * (h * w) + i) % h ≡ i % h = ap (λ (n : ℕ). n % h) at ∙ digits_mod (k % 2 * w + i / h) r in
        let line : (k % 2 * (h * w) + i) / h ≡ k % 2 * w + i / h = ap (λ (n : ℕ). n / h) at ∙ digits_div (k % 2 * w + i / h) r in
        let low : k % (h * 2) ≡ i % h * 2 + k % 2 = mod-mul k pos (omega arith) in
        let high : k / (h * 2) ≡ i / h = ap (λ (n : ℕ). k / n) (mul_comm h 2) ∙ sym (div-div-eq-div-mul k 2 h) in
        get_or_tabulate (h * (w * 2)) (λ n. get_or q (n % h * (w * 2) + n / h) 0) (k % 2 * (h * w) + i) 0 inside
        ∙ rw (row, line, low, high) (let e : i % h * (w * 2) + (k % 2 * w + i / h) ≡ (i % h * 2 + k % 2) * w + i / h = omega arith in ap (λ (n : ℕ). get_or q n 0) e)

-- no shuffle
pub none : (N : ℕ) (q : List ℕ) → length q ≡ N → q ≡ turned 1 (N / 1) q
none N q long =
    sym (let one : 1 * (N / 1) ≡ length q = omega arith in
    rw one (tabulate_ext (length q) (λ k. get_or q (k % 1 * (N / 1) + k / 1) 0) (λ k. get_or q k 0) same ∙ tabulate_self q 0))
  where
    same : (k : ℕ) → k < length q → get_or q (k % 1 * (N / 1) + k / 1) 0 ≡ get_or q k 0
    same k b =
        let z : k % 1 ≡ 0 = omega arith in
        let e : k % 1 * (N / 1) + k / 1 ≡ k = rw z (omega arith) in
        ap (λ (n : ℕ). get_or q n 0) e

-- a power of two that divides N, and the powers below it
pub halves : (N shuffles k : ℕ) → N % 2 ^ shuffles ≡ 0 → k < shuffles → N ≡ 2 ^ k * (N / 2 ^ (k + 1) * 2)
halves N shuffles k whole more =
    let rest : ℕ = 2 ^ (shuffles - (k + 1)) in
    let sum : k + 1 + (shuffles - (k + 1)) ≡ shuffles = omega arith in
    let parts : 2 ^ shuffles ≡ 2 ^ (k + 1) * rest = ap (λ (n : ℕ). 2 ^ n) (sym sum) ∙ pow-add 2 (k + 1) (shuffles - (k + 1)) in
    let all : N ≡ 2 ^ (k + 1) * (rest * (N / 2 ^ shuffles)) = omega (arith, div-add-mod' N (2 ^ shuffles), ap (λ (n : ℕ). N / 2 ^ shuffles * n) parts) in
    let one : N / 2 ^ (k + 1) ≡ rest * (N / 2 ^ shuffles) = ap (λ (n : ℕ). n / 2 ^ (k + 1)) all ∙ mul-div_cancel_left (rest * (N / 2 ^ shuffles)) (pow_pos (k + 1)) in
    all ∙ ap (λ (n : ℕ). 2 ^ (k + 1) * n) (sym one) ∙ ap (λ (n : ℕ). n * (N / 2 ^ (k + 1))) (pow-add 2 k 1) ∙ omega arith

-- one shuffle more
pub once_more : (N shuffles k : ℕ) (q : List ℕ) → N % 2 ^ shuffles ≡ 0 → k < shuffles → turned 2 (N / 2) (turned (2 ^ k) (N / 2 ^ k) q) ≡ turned (2 ^ (k + 1)) (N / 2 ^ (k + 1)) q
once_more N shuffles k q whole more =
    let w : ℕ = N / 2 ^ (k + 1) in
    let all = halves N shuffles k whole more in
    let pos : 0 < 2 ^ k = pow_pos k in
    let one : N / 2 ≡ 2 ^ k * w = omega arith in
    let two : N / 2 ^ k ≡ w * 2 = ap (λ (n : ℕ). n / 2 ^ k) all ∙ mul-div_cancel_left (w * 2) pos in
    rw (one, two) (twice (2 ^ k) w q pos ∙ ap (λ (h : ℕ). turned h w q) (sym (pow-add 2 k 1)))
