-- What a chain of iterators over the first n of a list says, as counting over the numbers below n.
use Rattle.std.specs.Prelude.{◌≡◌, refl, Bool, true, false, cond, ◌&&◌, ◌||◌, List, ℕ, zero, suc, ◌+◌, ◌≤◌, ◌<◌, length, get_or, take, count_by}
use Rattle.std.specs.List.{list_all, list_any, range_with_len}
use Rattle.std.proofs.Common.{ap, ◌∙◌, add-one, zero-add, arith}
use Rattle.std.proofs.Math.Seq.{take-length}
use Rattle.std.proofs.lemmas.List.Folds.{list_all_more, list_any_more}
use Rattle.std.proofs.lemmas.List.FromFn.{get_or-range_with_len, length-range_with_len}
use Rattle.std.proofs.lemmas.List.Sums.{count_by_more_no, count_by_more_yes}
use Rattle.ground.specs.Counting.Laws.Tests.{every_ext, some_more}
use Rattle.ground.specs.Counting.Words.{count, every, some}

module _ {A : Type 0} (test : A → Bool) (xs : List A) (d : A) where
  pub any_first : (n : ℕ) → n ≤ length xs → list_any test (take n xs) ≡ some n (λ i. test (get_or xs i d))
  any_first zero h = refl
  any_first (suc n) h =
      let rest : list_any test (take n xs) ≡ some n (λ i. test (get_or xs i d)) = any_first n (omega arith) in
      let next : list_any test (take (suc n) xs) ≡ (list_any test (take n xs) || test (get_or xs n d)) = rw add-one at (list_any_more test xs n d (omega arith)) in
      next ∙ rw add-one at (some_more (λ i. test (get_or xs i d)) n _ _ rest refl)

  pub all_first : (n : ℕ) → n ≤ length xs → list_all test (take n xs) ≡ every n (λ i. test (get_or xs i d))
  all_first zero h = refl
  all_first (suc n) h =
      let rest : list_all test (take n xs) ≡ every n (λ i. test (get_or xs i d)) = all_first n (omega arith) in
      let next : list_all test (take (suc n) xs) ≡ (list_all test (take n xs) && test (get_or xs n d)) = rw add-one at (list_all_more test xs n d (omega arith)) in
      next ∙ ap (λ b. b && test (get_or xs n d)) rest

  count_next : (n : ℕ) → n < length xs → count_by test (take (n + 1) xs) ≡ count_by test (take n xs) + cond (test (get_or xs n d)) 1 0
  count_next n h = go (test (get_or xs n d)) refl
    where
      go : (b : Bool) → test (get_or xs n d) ≡ b → count_by test (take (n + 1) xs) ≡ count_by test (take n xs) + cond b 1 0
      go true e = count_by_more_yes test xs n d h e
      go false e = count_by_more_no test xs n d h e ∙ (omega arith)

  pub count_first : (n : ℕ) → n ≤ length xs → count_by test (take n xs) ≡ count n (λ i. test (get_or xs i d))
  count_first zero h = refl
  count_first (suc n) h =
      let rest : count_by test (take n xs) ≡ count n (λ i. test (get_or xs i d)) = count_first n (omega arith) in
      let next : count_by test (take (suc n) xs) ≡ count_by test (take n xs) + cond (test (get_or xs n d)) 1 0 = rw add-one at (count_next n (omega arith)) in
      next ∙ ap (λ m. m + cond (test (get_or xs n d)) 1 0) rest

-- and over the numbers below n themselves
pub all_numbers : (test : ℕ → Bool) (n : ℕ) → list_all test (range_with_len 0 n) ≡ every n test
all_numbers test n =
    rw (take-length, length-range_with_len) at (all_first test (range_with_len 0 n) 0 (length (range_with_len 0 n)) (omega arith))
    ∙ every_ext n (λ k. test (get_or (range_with_len 0 n) k 0)) test (λ k h. ap test (get_or-range_with_len 0 n k 0 h ∙ zero-add k))
