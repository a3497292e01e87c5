-- The first n of some ports: what the definitions say of n ports they say of these alone.
use Rattle.std.specs.Prelude.{◌≡◌, refl, Bool, not, ◌&&◌, List, ℕ, zero, suc, ◌≤◌, ◌<◌, eqb, length, take}
use Rattle.std.specs.Bool.{beq}
use Rattle.std.proofs.Common.{ap, arith, ltb}
use Rattle.std.proofs.lemmas.List.{get_or-take}
use Rattle.ground.specs.Counting.Laws.Numbers.{count_ext}
use Rattle.ground.specs.Counting.Laws.Tests.{every_ext, last_that_ext, some_ext}
use Rattle.ground.specs.Counting.Words.{count, every, greatest, some}
use Rattle.ground.specs.Table.{tabulate_ext}
use Rattle.judge.specs.Cause.{applies, blamed_by, cause_of, fixed_cause, gid_unlike, lcas_cause}
use Rattle.judge.specs.declared.seen.Seen.{Seen}
use Rattle.judge.specs.Lowest.{lowest}
use Rattle.judge.specs.Order.{active_in, has_rank, order_of, port_of, rank_of}
use Rattle.judge.specs.Seen.{active_seen, eos_seen, lacking_seen, numbered_seen, refused_seen, seen_at, unidle_seen}
use Rattle.judge.specs.Verdict.{eos_alone, eos_wrong, exact, fixed_exact, gid_differs, highest, missing, repeats, takes}

greatest_ext : (n : ℕ) (f g : ℕ → Bool) (m o : ℕ → ℕ) → ((k : ℕ) → k < n → f k ≡ g k) → ((k : ℕ) → k < n → m k ≡ o k) → greatest n f m ≡ greatest n g o
greatest_ext zero f g m o h e = refl
greatest_ext (suc n) f g m o h e =
    rw (greatest_ext n f g m o (λ k b. h k (omega arith)) (λ k b. e k (omega arith)), h n (omega arith), e n (omega arith)) refl

lowest_ext : (n : ℕ) (f g : ℕ → Bool) → ((k : ℕ) → k < n → f k ≡ g k) → lowest n f ≡ lowest n g
lowest_ext zero f g h = refl
lowest_ext (suc n) f g h = rw (some_ext n f g (λ k b. h k (omega arith)), lowest_ext n f g (λ k b. h k (omega arith))) refl

module _ (ports : List Seen) (n : ℕ) where
  same : (i : ℕ) → i < n → seen_at (take n ports) i ≡ seen_at ports i
  same i h = get_or-take n ports i _ h

  some_first : (test : Seen → Bool) (k : ℕ) → k ≤ n → some k (λ i. test (seen_at (take n ports) i)) ≡ some k (λ i. test (seen_at ports i))
  some_first test k l = some_ext k (λ i. test (seen_at (take n ports) i)) (λ i. test (seen_at ports i)) (λ i h. ap test (same i (omega arith)))

  count_first : (test : Seen → Bool) → count n (λ i. test (seen_at (take n ports) i)) ≡ count n (λ i. test (seen_at ports i))
  count_first test = count_ext n (λ i. test (seen_at (take n ports) i)) (λ i. test (seen_at ports i)) (λ i h. ap test (same i h))

  takes_first : (k q : ℕ) → k ≤ n → takes (take n ports) k q ≡ takes ports k q
  unfolding takes
  takes_first k q l = some_first (λ p. numbered_seen p && eqb p.number q) k l

  repeats_first : repeats (take n ports) n ≡ repeats ports n
  unfolding repeats
  repeats_first =
      some_ext n (λ i. numbered_seen (seen_at (take n ports) i) && takes (take n ports) i (seen_at (take n ports) i).number) (λ i. numbered_seen (seen_at ports i) && takes ports i (seen_at ports i).number)
      (λ i h. rw (same i h, takes_first i (seen_at ports i).number (omega arith)) refl)

  gid_differs_first : gid_differs (take n ports) n ≡ gid_differs ports n
  unfolding gid_differs
  gid_differs_first =
      rw (some_first (λ p. unidle_seen p && eqb p.gid 0) n (omega arith), some_first (λ p. unidle_seen p && not (eqb p.gid 0)) n (omega arith)) refl

  highest_first : highest (take n ports) n ≡ highest ports n
  unfolding highest
  highest_first =
      greatest_ext n (λ i. active_seen (seen_at (take n ports) i)) (λ i. active_seen (seen_at ports i)) (λ i. (seen_at (take n ports) i).number) (λ i. (seen_at ports i).number)
      (λ i h. ap active_seen (same i h)) (λ i h. ap (λ (p : Seen). p.number) (same i h))

  eos_alone_first : eos_alone (take n ports) n ≡ eos_alone ports n
  unfolding eos_alone
  eos_alone_first =
      every_ext n (λ i. beq (eos_seen (seen_at (take n ports) i)) (active_seen (seen_at (take n ports) i) && eqb (seen_at (take n ports) i).number (highest (take n ports) n)))
      (λ i. beq (eos_seen (seen_at ports i)) (active_seen (seen_at ports i) && eqb (seen_at ports i).number (highest ports n)))
      (λ i h. rw (same i h, highest_first) refl)

  missing_first : missing (take n ports) n ≡ missing ports n
  unfolding missing
  missing_first = some_first (λ p. not p.whole) n (omega arith)

  eos_wrong_first : eos_wrong (take n ports) n ≡ eos_wrong ports n
  unfolding eos_wrong
  eos_wrong_first = rw (some_first active_seen n (omega arith), some_first eos_seen n (omega arith), eos_alone_first, missing_first) refl

  all_taken : (m : ℕ) → every m (takes (take n ports) n) ≡ every m (takes ports n)
  all_taken m = every_ext m (takes (take n ports) n) (takes ports n) (λ q h. takes_first n q (omega arith))

  exact_first : exact (take n ports) n ≡ exact ports n
  unfolding exact
  exact_first = rw (count_first numbered_seen) (all_taken (count n (λ i. numbered_seen (seen_at ports i))))

  fixed_exact_first : fixed_exact (take n ports) n ≡ fixed_exact ports n
  unfolding fixed_exact
  fixed_exact_first = all_taken n

  lcas_first : lcas_cause (take n ports) n ≡ lcas_cause ports n
  unfolding lcas_cause
  lcas_first =
      rw (some_first refused_seen n (omega arith), some_first lacking_seen n (omega arith), repeats_first, gid_differs_first, eos_wrong_first, missing_first, exact_first) refl

  fixed_first : fixed_cause (take n ports) n ≡ fixed_cause ports n
  unfolding fixed_cause
  fixed_first = rw (some_first refused_seen n (omega arith), some_first lacking_seen n (omega arith), repeats_first, missing_first, fixed_exact_first) refl

  pub cause_of_first : (kind : ℕ) → cause_of kind (take n ports) n ≡ cause_of kind ports n
  unfolding cause_of
  cause_of_first kind = rw (lcas_first, fixed_first) refl

  rank_first : (q : ℕ) → rank_of (take n ports) n q ≡ rank_of ports n q
  unfolding rank_of
  rank_first q = count_first (λ p. active_seen p && ltb p.number q)

  port_first : (r : ℕ) → port_of (take n ports) n r ≡ port_of ports n r
  unfolding port_of
  port_first r = last_that_ext n (has_rank (take n ports) n r) (has_rank ports n r) (λ i h. rw (same i h, rank_first (seen_at ports i).number) refl)

  active_first : active_in (take n ports) n ≡ active_in ports n
  unfolding active_in
  active_first = count_first active_seen

  pub order_of_first : order_of (take n ports) n ≡ order_of ports n
  unfolding order_of
  order_of_first = rw (tabulate_ext 64 (port_of (take n ports) n) (port_of ports n) (λ r h. port_first r), active_first) refl

  gid_unlike_first : (k gid : ℕ) → k ≤ n → gid_unlike (take n ports) k gid ≡ gid_unlike ports k gid
  unfolding gid_unlike
  gid_unlike_first k gid l = some_first (λ p. unidle_seen p && not (beq (eqb p.gid 0) (eqb gid 0))) k l

  applies_first : (top cause i : ℕ) → i < n → applies (take n ports) top cause i ≡ applies ports top cause i
  unfolding applies
  applies_first top cause i h = rw (same i h, takes_first i (seen_at ports i).number (omega arith), gid_unlike_first i (seen_at ports i).gid (omega arith)) refl

  pub blamed_by_first : (cause : ℕ) → blamed_by (take n ports) n cause ≡ blamed_by ports n cause
  unfolding blamed_by
  blamed_by_first cause =
      rw (
        highest_first,
        some_ext n (applies (take n ports) (highest ports n) cause) (applies ports (highest ports n) cause) (applies_first (highest ports n) cause),
        lowest_ext n (applies (take n ports) (highest ports n) cause) (applies ports (highest ports n) cause) (applies_first (highest ports n) cause),
      ) refl

-- those below port i, as the code hands them on
module _ (ports below : List Seen) (i : ℕ) (first : below ≡ take i ports) (many : length below ≡ i) where
  pub takes_below : (q : ℕ) → takes below (length below) q ≡ takes ports i q
  takes_below q = rw (many, first) (takes_first ports i i q (omega arith))

  pub gid_unlike_below : (gid : ℕ) → gid_unlike below (length below) gid ≡ gid_unlike ports i gid
  gid_unlike_below gid = rw (many, first) (gid_unlike_first ports i i gid (omega arith))
