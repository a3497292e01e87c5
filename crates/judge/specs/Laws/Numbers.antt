-- The ports' numbers: none repeats, and the highest of the active ones.
use Rattle.std.specs.Prelude.{◌≡◌, refl, ◌≢◌, Bool, true, false, cond, ◌&&◌, List, ℕ, zero, suc, ◌≤◌, ◌<◌, eqb, ltb}
use Rattle.std.proofs.Common.{sym, ◌∙◌, ⊎_elim, true≢false, arith, eq-eqb, eqb-true}
use Rattle.ground.specs.Counting.Laws.Numbers.{greatest_above}
use Rattle.ground.specs.Counting.Laws.Tests.{some_at, some_one}
use Rattle.ground.specs.Counting.Words.{greatest}
use Rattle.ground.specs.Truth.{and-true, and_left, and_right, fails, eq_or_ne, le_or_lt}
use Rattle.judge.specs.declared.seen.Seen.{Seen}
use Rattle.judge.specs.Laws.Ports.{active_numbered}
use Rattle.judge.specs.Numbers.{ActiveApart, AllApart, Highest, active_at, number_at, numbered_at}
use Rattle.judge.specs.Seen.{seen_at}
use Rattle.judge.specs.Verdict.{highest, repeats, takes}

pub all_active : (ports : List Seen) (n : ℕ) → AllApart ports n → ActiveApart ports n
all_active ports n d i j hi hj ti tj e = d i j hi hj (active_numbered (seen_at ports i) ti) (active_numbered (seen_at ports j) tj) e

repeats_two : (ports : List Seen) (n i j : ℕ) → i < j → j < n → numbered_at ports i ≡ true → numbered_at ports j ≡ true
    → number_at ports i ≡ number_at ports j → repeats ports n ≡ true
unfolding repeats takes
repeats_two ports n i j l b ti tj s =
    some_at n (λ k. numbered_at ports k && takes ports k (number_at ports k)) j b
    (and-true (numbered_at ports j) _ tj
    (some_at j (λ k. numbered_at ports k && eqb (number_at ports k) (number_at ports j)) i l
    (and-true (numbered_at ports i) _ ti (eq-eqb (number_at ports i) (number_at ports j) s))))

pub repeats_apart : (ports : List Seen) (n : ℕ) → repeats ports n ≡ false → AllApart ports n
repeats_apart ports n e i j hi hj ti tj s =
    ⊎_elim (λ (q : i ≡ j). q)
    (λ (d : i ≢ j).
    absurd (⊎_elim
    (λ (l : i ≤ j). true≢false (sym (repeats_two ports n i j (omega arith) hj ti tj s) ∙ e))
    (λ (l : j < i). true≢false (sym (repeats_two ports n j i l hi tj ti (sym s)) ∙ e))
    (le_or_lt i j)))
    (eq_or_ne i j)

pub apart_repeats : (ports : List Seen) (n : ℕ) → AllApart ports n → repeats ports n ≡ false
unfolding repeats takes
apart_repeats ports n d =
    fails (repeats ports n) (λ (e : repeats ports n ≡ true).
    let o = some_one n (λ k. numbered_at ports k && takes ports k (number_at ports k)) e in
    let j : ℕ = o.at in
    let bj : j < n = o.below in
    let t = and_right (numbered_at ports j) (takes ports j (number_at ports j)) o.holds in
    let p = some_one j (λ k. numbered_at ports k && eqb (number_at ports k) (number_at ports j)) t in
    let i : ℕ = p.at in
    let bi : i < j = p.below in
    let same : i ≡ j =
    d i j (omega arith) bj (and_left (numbered_at ports i) (eqb (number_at ports i) (number_at ports j)) p.holds)
    (and_left (numbered_at ports j) (takes ports j (number_at ports j)) o.holds)
    (eqb-true (number_at ports i) (number_at ports j) (and_right (numbered_at ports i) (eqb (number_at ports i) (number_at ports j)) p.holds)) in
    omega arith)

greatest_le : (n : ℕ) (f : ℕ → Bool) (m : ℕ → ℕ) (b : ℕ) → ((k : ℕ) → k < n → f k ≡ true → m k ≤ b) → greatest n f m ≤ b
greatest_le zero f m b h = omega arith
greatest_le (suc n) f m b h = go (f n && ltb (greatest n f m) (m n)) refl (greatest_le n f m b (λ k l. h k (omega arith)))
  where
    go : (c : Bool) → (f n && ltb (greatest n f m) (m n)) ≡ c → greatest n f m ≤ b → cond c (m n) (greatest n f m) ≤ b
    go true e r = h n (omega arith) (and_left (f n) (ltb (greatest n f m) (m n)) e)
    go false e r = r

pub highest_is : (ports : List Seen) (n i : ℕ) → i < n → active_at ports i ≡ true → Highest ports n i → number_at ports i ≡ highest ports n
unfolding highest
highest_is ports n i b t h =
    let above = greatest_above n (active_at ports) (number_at ports) i b t in
    let below = greatest_le n (active_at ports) (number_at ports) (number_at ports i) h in
    omega arith

pub is_highest : (ports : List Seen) (n i : ℕ) → number_at ports i ≡ highest ports n → Highest ports n i
unfolding highest
is_highest ports n i e j b t = let above = greatest_above n (active_at ports) (number_at ports) j b t in omega arith
