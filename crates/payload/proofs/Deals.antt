-- Bytes dealt in turn, number by number.
use mathlib.Core.Path.{◌≡◌, sym, ap, ◌∙◌}
use mathlib.Core.Logic.{⊎_elim}
use mathlib.Core.List.{List}
use Prim.Native.Nat.{ℕ, ◌+◌, ◌*◌, ◌/◌, ◌%◌, ◌≤◌, ◌<◌}
use native.Mathlib.Nat.{not-suc-le-zero}
use native.Mathlib.Omega.{arith}
use lib.ListN.{length, get_or, set, length-set}
use lib.Seq.{get_or-set_same, get_or-set_other}
use Rattle.ground.specs.Table.{tabulate_is}
use Rattle.ground.specs.Truth.{le_or_lt}
use Rattle.payload.specs.Inner.Block.{turned}
use Rattle.payload.specs.Inner.Deal.{Pairs, Split, Dealt}

pub pairs_none : (q w : List ℕ) → Pairs 0 q w
pairs_none q w = record { low = λ i b. absurd (not-suc-le-zero b); high = λ i b. absurd (not-suc-le-zero b) }

-- one pair more
pub pair_more : (i v : ℕ) (q w : List ℕ) → i < length w → (v % 256 ≡ get_or q (2 * i) 0) × (v / 256 ≡ get_or q (2 * i + 1) 0) → Pairs i q w → Pairs (i + 1) q (set w i v)
pair_more i v q w inside new h =
    record {
      low = λ k b. ⊎_elim (λ (u : i ≤ k). let e : k ≡ i = omega arith in rw e (ap (λ (n : ℕ). n % 256) (get_or-set_same w i v 0 inside) ∙ new.0)) (λ (u : k < i). ap (λ (n : ℕ). n % 256) (get_or-set_other w i k v 0 (λ e. omega arith)) ∙ h.low k u) (le_or_lt i k);
      high = λ k b. ⊎_elim (λ (u : i ≤ k). let e : k ≡ i = omega arith in rw e (ap (λ (n : ℕ). n / 256) (get_or-set_same w i v 0 inside) ∙ new.1)) (λ (u : k < i). ap (λ (n : ℕ). n / 256) (get_or-set_other w i k v 0 (λ e. omega arith)) ∙ h.high k u) (le_or_lt i k);
    }

pub split_none : (n : ℕ) (w s : List ℕ) → length s ≡ 128 → Split n 0 w s
split_none n w s e = record { len = e; low = λ k b. absurd (not-suc-le-zero b); high = λ k b. absurd (not-suc-le-zero b) }

-- one number more
pub split_more : (n i a b : ℕ) (w s : List ℕ) → n ≤ 64 → i < n → a ≡ get_or w i 0 % 256 → b ≡ get_or w i 0 / 256 → Split n i w s → Split n (i + 1) w (set (set s i a) (n + i) b)
split_more n i a b w s few inside ea eb h =
    record {
      len = length-set (set s i a) (n + i) b ∙ length-set s i a ∙ h.len;
      low = λ k u. get_or-set_other (set s i a) (n + i) k b 0 (λ e. omega arith)
          ∙ ⊎_elim (λ (v : i ≤ k). let e : k ≡ i = omega arith in rw e (get_or-set_same s i a 0 (omega (arith, h.len)) ∙ ea)) (λ (v : k < i). get_or-set_other s i k a 0 (λ e. omega arith) ∙ h.low k v) (le_or_lt i k);
      high = λ k u. ⊎_elim (λ (v : i ≤ k). let e : k ≡ i = omega arith in rw e (get_or-set_same (set s i a) (n + i) b 0 (omega (arith, h.len, length-set s i a)) ∙ eb))
          (λ (v : k < i). get_or-set_other (set s i a) (n + i) (n + k) b 0 (λ e. omega arith) ∙ get_or-set_other s i (n + k) a 0 (λ e. omega arith) ∙ h.high k v) (le_or_lt i k);
    }

pub dealt_by : (n : ℕ) (q w s : List ℕ) → n ≤ 64 → Pairs 64 q w → Split n n w s → Dealt n q s
dealt_by n q w s few p h =
    record { len = h.len; even = λ i b. h.low i b ∙ p.low i (omega arith); odd = λ i b. h.high i b ∙ p.high i (omega arith) }

-- all 128 bytes dealt are 64 rows of two bytes turned
pub dealt_all : (q s : List ℕ) → Dealt 64 q s → s ≡ turned 64 2 q
dealt_all q s h =
    tabulate_is s 128 (λ k. get_or q (k % 64 * 2 + k / 64) 0) 0 h.len
    (λ k b. ⊎_elim (λ (u : 64 ≤ k). odd k b u) (λ (u : k < 64). h.even k u ∙ ap (λ (i : ℕ). get_or q i 0) (omega arith)) (le_or_lt 64 k))
  where
    odd : (k : ℕ) → k < 128 → 64 ≤ k → get_or s k 0 ≡ get_or q (k % 64 * 2 + k / 64) 0
    odd k b u =
        let i : 64 + k % 64 ≡ k = omega arith in
        let e : 2 * (k % 64) + 1 ≡ k % 64 * 2 + k / 64 = omega arith in
        ap (λ (j : ℕ). get_or s j 0) (sym i) ∙ h.odd (k % 64) (omega arith) ∙ ap (λ (j : ℕ). get_or q j 0) e
