-- The cause by what the code has found.
use mathlib.Core.Path.{◌≡◌, refl, sym, ◌∙◌}
use mathlib.Core.Bool.{Bool, true, false, cond, not}
use mathlib.Core.List.{List}
use Prim.Native.Nat.{ℕ, ◌≤◌, ◌<◌}
use lib.Dec.{ltb}
use borrow.Author.Tests.{le-ltb, lt-ltb}
use Rattle.ground.specs.Counting.Laws.Numbers.{count_le}
use Rattle.judge.specs.declared.seen.Seen.{Seen}
use Rattle.judge.specs.declared.verdict.Tally.{Tally}
use Rattle.judge.specs.Cause.{fixed_cause, lcas_cause}
use Rattle.judge.specs.Seen.{numbered_seen, seen_at}
use Rattle.judge.specs.Tally.{doubt_cause, eos_alone_by, exact_to, fixed_cause_with, held_cause, tally_of}
use Rattle.judge.specs.Verdict.{eos_alone, eos_wrong, exact, fixed_exact, gid_differs, highest, missing, repeats}

pub numbered_le : (ports : List Seen) (n : ℕ) (t : Tally) → t ≡ tally_of ports n → t.numbered ≤ n
numbered_le ports n t e = rw e (count_le n (λ i. numbered_seen (seen_at ports i)))

-- five clauses, and what is behind them
chain : (a b c d e : Bool) (x : ℕ)
    → cond a 1 (cond b 2 (cond c 3 (cond d 4 (cond e 5 x)))) ≡ cond (ltb 0 (cond a 1 (cond b 2 (cond c 3 (cond d 4 (cond e 5 0)))))) (cond a 1 (cond b 2 (cond c 3 (cond d 4 (cond e 5 0))))) x
chain true b c d e x = refl
chain false true c d e x = refl
chain false false true d e x = refl
chain false false false true e x = refl
chain false false false false true x = refl
chain false false false false false x = refl

turned : (b : Bool) → ◌≡◌ {A = ℕ} (cond b 0 7) (cond (not b) 7 0)
turned true = refl
turned false = refl

abbrev held_in : List Seen → ℕ → ℕ
held_in ports n = held_cause (tally_of ports n) (repeats ports n) (eos_alone_by ports n (tally_of ports n).highest)

abbrev doubt_in : List Seen → ℕ → ℕ
doubt_in ports n = doubt_cause (tally_of ports n).missing (exact_to ports n (tally_of ports n).numbered)

cause_is : (ports : List Seen) (n : ℕ) → cond (ltb 0 (held_in ports n)) (held_in ports n) (doubt_in ports n) ≡ lcas_cause ports n
unfolding lcas_cause gid_differs eos_wrong eos_alone eos_alone_by highest missing exact exact_to
cause_is ports n =
    rw (turned (exact ports n))
    (sym (chain (tally_of ports n).refused (tally_of ports n).lacking (repeats ports n) (gid_differs ports n) (eos_wrong ports n)
    (cond (missing ports n) 6 (cond (not (exact ports n)) 7 0))))

module _ (ports : List Seen) (n : ℕ) (t : Tally) (repeated alone : Bool) (held : ℕ) (tallied : t ≡ tally_of ports n)
    (repeating : repeated ≡ repeats ports n) (standing : alone ≡ eos_alone_by ports n t.highest) (holding : held ≡ held_cause t repeated alone) where
  held_by_lem : held ≡ held_in ports n
  held_by_lem = holding ∙ rw (standing, repeating, tallied)

  pub by_held : 0 < held → held ≡ lcas_cause ports n
  by_held h = rw (← held_by_lem, lt-ltb 0 held h) at (cause_is ports n)

  pub by_doubt : (whole : Bool) (cause : ℕ) → whole ≡ exact_to ports n t.numbered → held ≤ 0 → cause ≡ doubt_cause t.missing whole → cause ≡ lcas_cause ports n
  by_doubt whole cause e h d = d ∙ rw (e, tallied) (rw (← held_by_lem, le-ltb 0 held h) at (cause_is ports n))

fixed_is : (ports : List Seen) (n : ℕ) → fixed_cause_with (tally_of ports n) (repeats ports n) (exact_to ports n n) ≡ fixed_cause ports n
unfolding fixed_cause fixed_exact exact_to missing
fixed_is ports n = rw (turned (fixed_exact ports n))

module _ (ports : List Seen) (n : ℕ) (t : Tally) (repeated exact : Bool) (cause : ℕ) (tallied : t ≡ tally_of ports n) (repeating : repeated ≡ repeats ports n) (whole : exact ≡ exact_to ports n n)
    (holding : cause ≡ fixed_cause_with t repeated exact) where
  pub by_fixed : cause ≡ fixed_cause ports n
  by_fixed = holding ∙ rw (whole, repeating, tallied) (fixed_is ports n)
