-- 'the numbers are .. exactly 0 to n-1': exact asks that each of these is taken. Where none repeats, that is the whole sentence: no number lies beyond.
use Rattle.std.specs.Prelude.{◌≡◌, refl, ◌≢◌, Bool, true, false, cond, ◌&&◌, List, ℕ, zero, suc, ◌+◌, ◌≤◌, ◌<◌, eqb}
use Rattle.std.proofs.Common.{⊎_elim, arith, eq-eqb}
use Rattle.ground.specs.Counting.Laws.Numbers.{count_all, greatest_above}
use Rattle.ground.specs.Counting.Laws.Ranks.{all_taken, count_taken, taken}
use Rattle.ground.specs.Counting.Laws.Tests.{every_all, every_at, some_at}
use Rattle.ground.specs.Counting.Words.{Apart, count, greatest}
use Rattle.ground.specs.Truth.{and-true, eq_or_ne, le_or_lt}
use Rattle.judge.specs.declared.seen.Seen.{Seen}
use Rattle.judge.specs.Numbers.{AllApart, number_at, numbered_at, numbers_in}
use Rattle.judge.specs.Verdict.{exact, takes}

count_more : (n : ℕ) (g : ℕ → Bool) → count n g ≤ count (suc n) g
count_more n g = go (g n)
  where
    go : (b : Bool) → count n g ≤ count n g + cond b 1 0
    go true = omega arith
    go false = omega arith

count_wider : (a b : ℕ) (g : ℕ → Bool) → a ≤ b → count a g ≤ count b g
count_wider a zero g h = let e : a ≡ 0 = omega arith in rw e (omega arith)
count_wider a (suc b) g h =
    let rest = count_wider a b g in
    ⊎_elim (λ (e : a ≡ suc b). rw e (omega arith))
    (λ (d : a ≢ suc b). let l = rest (omega arith) in let w = count_more b g in omega arith)
    (eq_or_ne a (suc b))

-- one that lies beyond a counts besides
count_beyond : (a b : ℕ) (g : ℕ → Bool) (k : ℕ) → a ≤ k → k < b → g k ≡ true → count a g < count b g
count_beyond a b g k h l t =
    let w = count_wider a k g h in
    let one : count (suc k) g ≡ count k g + 1 = rw t in
    let v = count_wider (suc k) b g l in
    omega arith

-- as many numbers as members, each of them taken: every member's number is one of them
pub all_below : (n : ℕ) (f : ℕ → Bool) (m : ℕ → ℕ) → Apart n f m → ((q : ℕ) → q < count n f → taken n f m q ≡ true) → (i : ℕ) → i < n → f i ≡ true
    → m i < count n f
all_below n f m d all i b t =
    ⊎_elim
    (λ (h : count n f ≤ m i).
    let top = greatest_above n f m i b t in
    let full : count (count n f) (taken n f m) ≡ count n f = count_all (count n f) (taken n f m) all in
    let as_many : count (suc (greatest n f m)) (taken n f m) ≡ count n f =
    count_taken n (suc (greatest n f m)) f m d (λ j l s. let w = greatest_above n f m j l s in omega arith) in
    let here : taken n f m (m i) ≡ true = some_at n (λ k. f k && eqb (m k) (m i)) i b (and-true (f i) _ t (eq-eqb (m i) (m i) refl)) in
    let more : count (count n f) (taken n f m) < count (suc (greatest n f m)) (taken n f m) =
    count_beyond (count n f) (suc (greatest n f m)) (taken n f m) (m i) h (omega arith) here in
    absurd (omega arith))
    (λ (h : m i < count n f). h)
    (le_or_lt (count n f) (m i))

pub exact_below : (ports : List Seen) (n : ℕ) → AllApart ports n → exact ports n ≡ true → (i : ℕ) → i < n → numbered_at ports i ≡ true
    → number_at ports i < numbers_in ports n
unfolding exact takes
exact_below ports n d e i b t =
    all_below n (numbered_at ports) (number_at ports) d (λ q h. every_at (numbers_in ports n) (λ p. takes ports n p) e q h) i b t

pub below_exact : (ports : List Seen) (n : ℕ) → AllApart ports n → ((i : ℕ) → i < n → numbered_at ports i ≡ true → number_at ports i < numbers_in ports n)
    → exact ports n ≡ true
unfolding exact takes
below_exact ports n d l =
    every_all (numbers_in ports n) (λ q. takes ports n q) (λ q h.
    let o = all_taken n (numbers_in ports n) (numbered_at ports) (number_at ports) d l refl q h in
    some_at n (λ k. numbered_at ports k && eqb (number_at ports k) q) o.at o.below o.holds)
