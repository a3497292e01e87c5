-- The port to which the clause applies that decides: where the cause is one of 1 to 6 there is one, and the lowest is named. That the numbers are not 0 to n-1 is nobody's, and so is a sure report.
use Rattle.std.specs.Prelude.{◌≡◌, ◌≢◌, Bool, ◌&&◌, List, eqb}
use Rattle.std.proofs.Math.Path.{refl}
use Rattle.std.proofs.Math.Logic.{⊎_elim}
use Rattle.std.proofs.Math.Bool.{true, false, not}
use Rattle.std.specs.Bool.{beq}
use Prim.Native.Nat.{ℕ, zero, suc, ◌≤◌, ◌<◌}
use Rattle.std.proofs.Common.{arith}
use borrow.Author.Tests.{not-true}
use Rattle.ground.specs.Counting.Words.{some}
use Rattle.ground.specs.Counting.Laws.Tests.{every_lacks, some_at, some_none, some_one}
use Rattle.ground.specs.Truth.{and_left, and_right, and-true, clash, eq_or_ne, le_or_lt}
use Rattle.judge.specs.declared.seen.Seen.{Seen}
use Rattle.judge.specs.Cause.{Blamed, applies, blamed_by, blamed_of, cause_of, clause_of, gid_unlike}
use Rattle.judge.specs.Laws.Lowest.{lowest_holds, lowest_least}
use Rattle.judge.specs.Seen.{active_seen, eos_seen, seen_at, unidle_seen}
use Rattle.judge.specs.Theorems.Cause.{cause_holds}
use Rattle.judge.specs.Verdict.{eos_alone, eos_wrong, gid_differs, highest, missing, repeats}

module _ (ports : List Seen) (n : ℕ) where
  abbrev unidle_at : ℕ → Bool
  unidle_at i = unidle_seen (seen_at ports i)

  abbrev zero_at : ℕ → Bool
  zero_at i = eqb (seen_at ports i).gid 0

  -- the higher of two ports with different GIDs
  unlike : (low high : ℕ) → low < high → high < n → unidle_at low ≡ true → unidle_at high ≡ true → beq (zero_at low) (zero_at high) ≡ false
      → some n (λ i. unidle_at i && gid_unlike ports i (seen_at ports i).gid) ≡ true
  unfolding gid_unlike
  unlike low high l b ul uh d =
      some_at n (λ i. unidle_at i && gid_unlike ports i (seen_at ports i).gid) high b
      (and-true (unidle_at high) _ uh
      (some_at high (λ j. unidle_at j && not (beq (zero_at j) (zero_at high))) low l (and-true (unidle_at low) _ ul (rw d refl))))

  gid_applies : gid_differs ports n ≡ true → some n (λ i. unidle_at i && gid_unlike ports i (seen_at ports i).gid) ≡ true
  unfolding gid_differs
  gid_applies e =
      let o = some_one n (λ i. unidle_at i && zero_at i) (and_left (some n (λ i. unidle_at i && zero_at i)) (some n (λ i. unidle_at i && not (zero_at i))) e) in
      let p = some_one n (λ i. unidle_at i && not (zero_at i)) (and_right (some n (λ i. unidle_at i && zero_at i)) (some n (λ i. unidle_at i && not (zero_at i))) e) in
      let i : ℕ = o.at in
      let j : ℕ = p.at in
      let ui : unidle_at i ≡ true = and_left (unidle_at i) (zero_at i) o.holds in
      let uj : unidle_at j ≡ true = and_left (unidle_at j) (not (zero_at j)) p.holds in
      let zi : zero_at i ≡ true = and_right (unidle_at i) (zero_at i) o.holds in
      let zj : zero_at j ≡ false = not-true (zero_at j) (and_right (unidle_at j) (not (zero_at j)) p.holds) in
      ⊎_elim (λ (q : i ≡ j). clash (zero_at i) zi (rw q zj))
      (λ (d : i ≢ j).
      ⊎_elim (λ (l : i ≤ j). unlike i j (omega arith) p.below ui uj (rw (zi, zj) refl))
      (λ (l : j < i). unlike j i l o.below uj ui (rw (zi, zj) refl))
      (le_or_lt i j))
      (eq_or_ne i j)

  abbrev right_at : ℕ → Bool
  right_at i = beq (eos_seen (seen_at ports i)) (active_seen (seen_at ports i) && eqb (seen_at ports i).number (highest ports n))

  eos_applies : eos_wrong ports n ≡ true → some n (λ i. not (right_at i)) ≡ true
  unfolding eos_wrong eos_alone
  eos_applies e =
      let a = some n (λ i. active_seen (seen_at ports i)) in
      let rest = not (not (some n (λ i. eos_seen (seen_at ports i))) && missing ports n) in
      let w = and_right a (not (eos_alone ports n)) (and_left (a && not (eos_alone ports n)) rest e) in
      let o = every_lacks n right_at (not-true (eos_alone ports n) w) in
      some_at n (λ i. not (right_at i)) o.at o.below (rw o.fails refl)

  -- a clause of 1 to 6 that holds applies to some port
  some_applies : (kind c : ℕ) → 0 < c → c < 7 → clause_of kind ports n c ≡ true → some n (applies ports (highest ports n) c) ≡ true
  unfolding clause_of applies repeats missing
  some_applies kind zero l h t = absurd (let z : 0 < 0 = l in omega arith)
  some_applies kind (suc zero) l h t = t
  some_applies kind (suc (suc zero)) l h t = t
  some_applies kind (suc (suc (suc zero))) l h t = t
  some_applies kind (suc (suc (suc (suc zero)))) l h t = gid_applies t
  some_applies kind (suc (suc (suc (suc (suc zero))))) l h t = eos_applies t
  some_applies kind (suc (suc (suc (suc (suc (suc zero)))))) l h t = t
  some_applies kind (suc (suc (suc (suc (suc (suc (suc c))))))) l h t = absurd (omega arith)

  -- and what is named is the lowest
  pub blamed_lowest : (kind : ℕ) → 0 < cause_of kind ports n → cause_of kind ports n < 7 → Blamed ports n (cause_of kind ports n) (blamed_of kind ports n)
  unfolding blamed_of blamed_by
  blamed_lowest kind l h =
      let c : ℕ = cause_of kind ports n in
      let t : some n (applies ports (highest ports n) (cause_of kind ports n)) ≡ true =
      some_applies kind c l h (cause_holds kind ports n (λ (z : cause_of kind ports n ≡ 0). omega arith)) in
      let o = lowest_holds n (applies ports (highest ports n) c) t in
      rw t (record { below = o.below; applied = o.holds; lowest_of_lem = lowest_least n (applies ports (highest ports n) c) t })

  -- nobody
  none_applies : (c : ℕ) → (c ≡ 0) → some n (applies ports (highest ports n) c) ≡ false
  unfolding applies
  none_applies c e = rw e (some_none n (λ (i : ℕ). false) (λ k b. refl))

  none_applies_7 : (c : ℕ) → (c ≡ 7) → some n (applies ports (highest ports n) c) ≡ false
  unfolding applies
  none_applies_7 c e = rw e (some_none n (λ (i : ℕ). false) (λ k b. refl))

  pub blamed_nobody : (kind : ℕ) → cause_of kind ports n ≡ 0 → blamed_of kind ports n ≡ 255
  unfolding blamed_of blamed_by
  blamed_nobody kind e = rw (none_applies (cause_of kind ports n) e) refl

  pub numbers_nobodys : (kind : ℕ) → cause_of kind ports n ≡ 7 → blamed_of kind ports n ≡ 255
  unfolding blamed_of blamed_by
  numbers_nobodys kind e = rw (none_applies_7 (cause_of kind ports n) e) refl
