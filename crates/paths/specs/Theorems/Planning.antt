-- The planner is sound and complete, and proposes the tightest set: for every number of candidates, delays, k and W that are not refused.
-- The idea: candidates are ranked by delay. Any k different ranks reach over at least k in a row, so the k in a row from the lowest of them on are no further apart; hence the tightest stretch of k in a row is the tightest set.
use Rattle.std.specs.Prelude.{◌≡◌, refl, Bool, true, false, cond, ◌&&◌, List, [], ℕ, ◌+◌, ◌-◌, ◌≤◌, ◌<◌, eqb, leb, length, get_or, take}
use Rattle.std.proofs.Common.{sym, ap, ◌∙◌, ⊎_elim}
use native.Mathlib.Omega.{arith}
use Rattle.std.proofs.Math.Seq.{take-append_seam}
use borrow.Author.Tests.{eq-eqb, le-leb, lt-leb}
use Rattle.ground.specs.Counting.Laws.Numbers.{count_le}
use Rattle.ground.specs.Counting.Laws.Ranks.{Top, count_taken, some_top, taken}
use Rattle.ground.specs.Counting.Laws.Tests.{some_at}
use Rattle.ground.specs.Counting.Words.{Apart, count}
use Rattle.ground.specs.Drawn.{within_said, within_true}
use Rattle.ground.specs.Truth.{and-true, le_or_lt}
use Rattle.paths.specs.Answers.{answer_of, in_range, number_of}
use Rattle.paths.specs.Checking.{checked_of}
use Rattle.paths.specs.Laws.Answers.{done_in, in_asked}
use Rattle.paths.specs.Laws.Listing.{length_listed, listed_apart, listed_at, listed_rises}
use Rattle.paths.specs.Laws.Ranks.{candidate, candidate_below, candidate_rank, count_every, rank_apart, rank_below, rank_order, ranks_at, sorted_at}
use Rattle.paths.specs.Laws.Spreads.{spread_least, within_spread}
use Rattle.paths.specs.Laws.Stretches.{tightest_first, tightest_least, tightest_spread}
use Rattle.paths.specs.Order.{rank_of, ranks_of, sorted_by}
use Rattle.paths.specs.Paths.{Asked, Good, InSpread, delay_at, path_at, spread_of}
use Rattle.paths.specs.Planning.{in_stretch, listed, plan_of, proposed, set_of, tightest_of}
use Rattle.paths.specs.Theorems.Checking.{good_accepts}

module _ (delays : List ℕ) (k : ℕ) (few : length delays ≤ 64) (one : 1 ≤ k) (enough : k ≤ length delays) where
  abbrev n : ℕ
  n = length delays

  abbrev delay : ℕ → ℕ
  delay i = delay_at delays i

  abbrev rank : ℕ → ℕ
  rank i = rank_of delays i

  abbrev by_rank : ℕ → ℕ
  by_rank r = candidate delays few r

  -- k candidates in a row, from rank s on
  module _ (s : ℕ) (room : s + k ≤ n) where
    abbrev chosen : ℕ → Bool
    chosen i = in_stretch (ranks_of delays) s k i

    chosen_says : (i : ℕ) → i < n → chosen i ≡ true → (s ≤ rank i) × (rank i < s + k)
    chosen_says i h e = rw (ranks_at delays few i h) at (within_said s k (get_or (ranks_of delays) i 0) e)

    chosen_is : (i : ℕ) → i < n → s ≤ rank i → rank i < s + k → chosen i ≡ true
    chosen_is i h low high = rw (ranks_at delays few i h) (within_true s k (rank i) low high)

    -- there are k of them
    chosen_count : count n chosen ≡ k
    chosen_count =
        sym (count_taken n k chosen after differ (λ i h e. let w = chosen_says i h e in omega arith))
        ∙ count_every k (taken n chosen after) (λ q h. each q h)
      where
        after : ℕ → ℕ
        after i = rank i - s

        differ : Apart n chosen after
        differ i j hi hj ti tj e =
            let v = chosen_says i hi ti in
            let w = chosen_says j hj tj in
            rank_apart delays few i j hi hj (omega arith)

        each : (q : ℕ) → q < k → taken n chosen after q ≡ true
        each q h =
            let r : s + q < n = omega arith in
            let is : rank (by_rank (s + q)) ≡ s + q = candidate_rank delays few (s + q) r in
            let b : by_rank (s + q) < n = candidate_below delays few (s + q) r in
            some_at n (λ i. chosen i && eqb (after i) q) (by_rank (s + q)) b
            (and-true (chosen (by_rank (s + q))) (eqb (after (by_rank (s + q))) q) (chosen_is (by_rank (s + q)) b (omega arith) (omega arith))
            (eq-eqb (after (by_rank (s + q))) q (omega arith)))

    -- and no two lie further apart than the first and the last
    chosen_near : (i j : ℕ) → i < n → j < n → chosen i ≡ true → chosen j ≡ true
        → delay i ≤ delay j + (delay (by_rank (s + (k - 1))) - delay (by_rank s))
    chosen_near i j hi hj ti tj =
        let v = chosen_says i hi ti in
        let w = chosen_says j hj tj in
        let l : s + (k - 1) < n = omega arith in
        let f : s < n = omega arith in
        let a : delay i ≤ delay (by_rank (s + (k - 1))) =
        rank_order delays few i (by_rank (s + (k - 1))) hi (candidate_below delays few (s + (k - 1)) l) (rw (candidate_rank delays few (s + (k - 1)) l) (omega arith)) in
        let b : delay (by_rank s) ≤ delay j =
        rank_order delays few (by_rank s) j (candidate_below delays few s f) hj (rw (candidate_rank delays few s f) w.0) in
        omega arith

  abbrev first : ℕ
  first = (tightest_of delays k).first

  abbrev least : ℕ
  least = (tightest_of delays k).spread

  first_fits : first + k ≤ n
  unfolding tightest_of
  first_fits = let l = tightest_first (sorted_by delays (ranks_of delays)) (k - 1) (n + 1 - k) (omega arith) in omega arith

  -- the spread of the stretch from rank s on, as it is worked out
  spread_from : (s : ℕ) → s + k ≤ n
      → get_or (sorted_by delays (ranks_of delays)) (s + (k - 1)) 0 - get_or (sorted_by delays (ranks_of delays)) s 0 ≡ delay (by_rank (s + (k - 1))) - delay (by_rank s)
  spread_from s room = rw (sorted_at delays few (s + (k - 1)) (omega arith), sorted_at delays few s (omega arith))

  least_is : least ≡ delay (by_rank (first + (k - 1))) - delay (by_rank first)
  unfolding tightest_of
  least_is = tightest_spread (sorted_by delays (ranks_of delays)) (k - 1) (n + 1 - k) ∙ spread_from first first_fits

  least_le : (s : ℕ) → s + k ≤ n → least ≤ delay (by_rank (s + (k - 1))) - delay (by_rank s)
  unfolding tightest_of
  least_le s room = rw (spread_from s room) at (tightest_least (sorted_by delays (ranks_of delays)) (k - 1) (n + 1 - k) s (omega arith))

  -- the tightest stretch as a set
  abbrev tight : List ℕ
  tight = listed n (in_stretch (ranks_of delays) first k)

  tight_within : InSpread delays least tight
  tight_within a b ha hb =
      let i = listed_at n (chosen first first_fits) a ha in
      let j = listed_at n (chosen first first_fits) b hb in
      rw least_is (chosen_near first first_fits (path_at tight a) (path_at tight b) i.0 j.0 i.1 j.1)

  tight_good : (W : ℕ) → least ≤ W - 16 → Good delays k W tight
  tight_good W l =
      record {
        many = length_listed n (chosen first first_fits) ∙ chosen_count first first_fits;
        named = λ a h. (listed_at n (chosen first first_fits) a h).0;
        different = λ a b ha hb. listed_apart n (chosen first first_fits) a b ha hb;
        near = λ a b ha hb. let w = tight_within a b ha hb in omega arith;
      }

  -- k different ranks that lie between two are at most as many as lie there, so a good set is no tighter
  least_good : (W : ℕ) (set : List ℕ) → Good delays k W set → least ≤ W - 16
  least_good W set g = between
    where
      own : ℕ → ℕ
      own a = rank (path_at set a)

      path_below : (a : ℕ) → a < k → path_at set a < n
      path_below a h = g.named a (rw g.many h)

      own_below : (a : ℕ) → a < k → own a < n
      own_below a h = rank_below delays few (path_at set a) (path_below a h)

      all : ℕ → Bool
      all a = true

      top : Top k all own
      top = some_top k all own (some_at k all 0 one refl)

      bottom : Top k all (λ a. n - own a)
      bottom = some_top k all (λ a. n - own a) (some_at k all 0 one refl)

      lo : ℕ
      lo = own bottom.at

      hi : ℕ
      hi = own top.at

      above_lo : (a : ℕ) → a < k → lo ≤ own a
      above_lo a h = let w = bottom.above a h refl in let v = own_below a h in let u = own_below bottom.at bottom.below in omega arith

      below_hi : (a : ℕ) → a < k → own a ≤ hi
      below_hi a h = top.above a h refl

      after : ℕ → ℕ
      after a = own a - lo

      differ : Apart k all after
      differ a b ha hb ta tb e =
          let v = above_lo a ha in
          let w = above_lo b hb in
          g.different a b (rw g.many ha) (rw g.many hb) (rank_apart delays few (path_at set a) (path_at set b) (path_below a ha) (path_below b hb) (omega arith))

      many : k ≤ hi - lo + 1
      many =
          let e : count (hi - lo + 1) (taken k all after) ≡ count k all =
          count_taken k (hi - lo + 1) all after differ (λ a h t. let v = below_hi a h in let w = above_lo a h in omega arith) in
          let c : count k all ≡ k = count_every k all (λ a h. refl) in
          let l = count_le (hi - lo + 1) (taken k all after) in
          omega arith

      between : least ≤ W - 16
      between =
          let v : lo ≤ hi = above_lo top.at top.below in
          let u : hi < n = own_below top.at top.below in
          let m = many in
          let room : lo + k ≤ n = omega arith in
          let last : lo + (k - 1) < n = omega arith in
          let l = least_le lo room in
          let a : delay (path_at set bottom.at) ≤ delay (by_rank lo) =
          rank_order delays few (path_at set bottom.at) (by_rank lo) (path_below bottom.at bottom.below) (candidate_below delays few lo (omega arith))
          (rw (candidate_rank delays few lo (omega arith)) (omega arith)) in
          let b : delay (by_rank (lo + (k - 1))) ≤ delay (path_at set top.at) =
          rank_order delays few (by_rank (lo + (k - 1))) (path_at set top.at) (candidate_below delays few (lo + (k - 1)) last) (path_below top.at top.below)
          (rw (candidate_rank delays few (lo + (k - 1)) last) (omega arith)) in
          let c : delay (path_at set top.at) ≤ delay (path_at set bottom.at) + (W - 16) =
          g.near top.at bottom.at (rw g.many top.below) (rw g.many bottom.below) in
          omega arith

-- under answer 0
module _ (delays : List ℕ) (k W : ℕ) (done : number_of (answer_of delays k W) ≡ 0) where
  ranged : in_range delays k W ≡ true
  ranged = done_in delays k W done

  z : Asked delays k W
  z = in_asked delays k W ranged

  abbrev spread : ℕ
  spread = (tightest_of delays k).spread

  set_is : spread ≤ W - 16 → set_of delays k W ≡ listed (length delays) (in_stretch (ranks_of delays) (tightest_of delays k).first k)
  unfolding set_of proposed
  set_is l = rw (ranged, le-leb spread (W - 16) l)

  set_none : W - 16 < spread → set_of delays k W ≡ []
  unfolding set_of proposed
  set_none l = rw (ranged, lt-leb spread (W - 16) l)

  some_good : spread ≤ W - 16 → Good delays k W (set_of delays k W)
  some_good l = rw (set_is l) (tight_good delays k z.few z.one z.enough W l)

  -- what the planner proposes is good
  pub sound : (set_of delays k W ≡ [] → ⊥) → Good delays k W (set_of delays k W)
  sound some = ⊎_elim (λ (l : spread ≤ W - 16). some_good l) (λ (l : W - 16 < spread). absurd (some (set_none l))) (le_or_lt spread (W - 16))

  -- so the check accepts it
  pub accepted : (set_of delays k W ≡ [] → ⊥) → (checked_of delays k W (set_of delays k W)).accepted ≡ true
  unfolding checked_of
  accepted some = rw ranged (good_accepts delays k W (set_of delays k W) (sound some))

  -- 'The planner says none exactly if no such set exists.'
  pub none_says : set_of delays k W ≡ [] → (set : List ℕ) → Good delays k W set → ⊥
  none_says e set g =
      let l = least_good delays k z.few z.one z.enough W set g in
      let m : length (set_of delays k W) ≡ k = (some_good l).many in
      let none : length (set_of delays k W) ≡ 0 = ap length e in
      let o = z.one in
      omega arith

  pub says_none : ((set : List ℕ) → Good delays k W set → ⊥) → set_of delays k W ≡ []
  says_none never = ⊎_elim (λ (l : spread ≤ W - 16). absurd (never (set_of delays k W) (some_good l))) (λ (l : W - 16 < spread). set_none l) (le_or_lt spread (W - 16))

  -- no good set is tighter than the one proposed
  pub tightest_set : (set : List ℕ) → Good delays k W set → spread_of delays (set_of delays k W) ≤ spread_of delays set
  tightest_set set g =
      let own : ℕ = spread_of delays set in
      let closer : Good delays k (own + 16) set =
      record { many = g.many; named = g.named; different = g.different; near = λ a b ha hb. let w = within_spread delays set a b ha hb in omega arith } in
      let l : spread ≤ own + 16 - 16 = least_good delays k z.few z.one z.enough (own + 16) set closer in
      let w : spread ≤ W - 16 = least_good delays k z.few z.one z.enough W set g in
      let m : spread_of delays (set_of delays k W) ≤ spread =
      rw (set_is w) (spread_least delays (listed (length delays) (in_stretch (ranks_of delays) (tightest_of delays k).first k)) spread (tight_within delays k z.few z.one z.enough)) in
      omega arith

  -- A plan's bytes: k of them, or none; they are the set, and they rise.
  pub plan_count : (set_of delays k W ≡ [] → ⊥) → (plan_of delays k W).count ≡ k
  unfolding plan_of
  plan_count some = (sound some).many

-- whatever the answer
pub plan_paths : (delays : List ℕ) (k W : ℕ) → take (plan_of delays k W).count (plan_of delays k W).paths ≡ set_of delays k W
unfolding plan_of
plan_paths delays k W = take-append_seam (set_of delays k W) _

pub plan_rises : (delays : List ℕ) (k W a b : ℕ) → a < b → b < length (set_of delays k W) → path_at (set_of delays k W) a < path_at (set_of delays k W) b
unfolding set_of proposed
plan_rises delays k W a b l h = go (in_range delays k W) (leb (tightest_of delays k).spread (W - 16)) h
  where
    f : ℕ → Bool
    f = in_stretch (ranks_of delays) (tightest_of delays k).first k

    go : (t u : Bool) → b < length (cond t (cond u (listed (length delays) f) []) [])
        → path_at (cond t (cond u (listed (length delays) f) []) []) a < path_at (cond t (cond u (listed (length delays) f) []) []) b
    go true true g = listed_rises (length delays) f a b l g
    go true false g = absurd (omega arith)
    go false u g = absurd (omega arith)
