-- Sure epochs: where all is as a sender makes it the epoch is sure, and a sure epoch is such a one.
use Rattle.std.specs.Prelude.{◌≡◌, refl, ◌≢◌, Bool, true, false, not, ◌&&◌, List, [], ◌∷◌, ℕ, ◌<◌, eqb, ltb}
use Rattle.std.proofs.Common.{sym, ◌∙◌, ⊎_elim, true≢false, arith, eq-eqb, eqb-true, ltb-true, ne_eqb}
use Rattle.std.specs.Bool.{beq}
use Rattle.std.proofs.Math.Bool.{and-false}
use Rattle.std.proofs.lemmas.Bool.{eqb-false, not-false, not-true}
use Rattle.ground.specs.Counting.Words.{some}
use Rattle.ground.specs.Counting.Laws.Tests.{every_all, every_at, none_at, some_at, some_none, some_one}
use Rattle.ground.specs.Finite.{below_at, same_bit}
use Rattle.ground.specs.Truth.{and-true, and_left, and_right, neither, fails, same_test, eq_or_ne}
use Rattle.packet.specs.Kinds.{fixed_kind}
use Rattle.packet.specs.Words.{DNU, EOS, NORM}
use Rattle.judge.specs.declared.seen.Seen.{Seen}
use Rattle.judge.specs.Laws.Numbers.{apart_repeats, highest_is, is_highest}
use Rattle.judge.specs.Laws.Ports.{accepted_good, eos_active, good_accepted, here_lacks, same_true}
use Rattle.judge.specs.Marked.{Tidy}
use Rattle.judge.specs.Numbers.{active_at, eos_at, number_at}
use Rattle.judge.specs.Seen.{lacking_seen, refused_seen, seen_at, unidle_seen}
use Rattle.judge.specs.Theorems.Exact.{below_exact, exact_below}
use Rattle.judge.specs.Theorems.Held.{not_held, unheld}
use Rattle.judge.specs.Verdict.{DOUBTFUL, HELD, SURE, doubtful_by, eos_alone, eos_wrong, exact, gid_differs, held_by, highest, judge_of, lcas_verdict, missing, repeats, takes}

both_kinds : (ports : List Seen) (n : ℕ)
    → ((i j : ℕ) → i < n → j < n → unidle_seen (seen_at ports i) ≡ true → unidle_seen (seen_at ports j) ≡ true → (seen_at ports i).gid ≡ (seen_at ports j).gid)
    → gid_differs ports n ≡ false
unfolding gid_differs
both_kinds ports n same =
    fails (gid_differs ports n) (λ (e : gid_differs ports n ≡ true).
    let o = some_one n zero (and_left (some n zero) (some n other) e) in
    let p = some_one n other (and_right (some n zero) (some n other) e) in
    let i : ℕ = o.at in
    let j : ℕ = p.at in
    let z = eqb-true (seen_at ports i).gid 0 (and_right (unidle_seen (seen_at ports i)) (eqb (seen_at ports i).gid 0) o.holds) in
    let w = not-true (eqb (seen_at ports j).gid 0) (and_right (unidle_seen (seen_at ports j)) (not (eqb (seen_at ports j).gid 0)) p.holds) in
    let s =
    same i j o.below p.below (and_left (unidle_seen (seen_at ports i)) (eqb (seen_at ports i).gid 0) o.holds)
    (and_left (unidle_seen (seen_at ports j)) (not (eqb (seen_at ports j).gid 0)) p.holds) in
    true≢false (sym (eq-eqb (seen_at ports j).gid 0 (sym s ∙ z)) ∙ w))
  where
    zero : ℕ → Bool
    zero i = unidle_seen (seen_at ports i) && eqb (seen_at ports i).gid 0

    other : ℕ → Bool
    other i = unidle_seen (seen_at ports i) && not (eqb (seen_at ports i).gid 0)

eos_alone_lem : (ports : List Seen) (n : ℕ) → Tidy ports n → eos_alone ports n ≡ true
unfolding eos_alone
eos_alone_lem ports n o =
    every_all n (λ i. beq (eos_at ports i) (active_at ports i && eqb (number_at ports i) (highest ports n)))
    (λ i b. same_true (eos_at ports i) (active_at ports i && eqb (number_at ports i) (highest ports n)) (same_test _ _ (to i b) (back i b)))
  where
    to : (i : ℕ) → i < n → eos_at ports i ≡ true → (active_at ports i && eqb (number_at ports i) (highest ports n)) ≡ true
    to i b e =
        let t = eos_active (seen_at ports i) e in
        and-true (active_at ports i) _ t (eq-eqb (number_at ports i) (highest ports n) (highest_is ports n i b t (o.alone i b e)))

    back : (i : ℕ) → i < n → (active_at ports i && eqb (number_at ports i) (highest ports n)) ≡ true → eos_at ports i ≡ true
    back i b e =
        o.last i b (and_left (active_at ports i) (eqb (number_at ports i) (highest ports n)) e)
        (is_highest ports n i
        (eqb-true (number_at ports i) (highest ports n) (and_right (active_at ports i) (eqb (number_at ports i) (highest ports n)) e)))

eos_right : (ports : List Seen) (n : ℕ) → eos_alone ports n ≡ true → eos_wrong ports n ≡ false
unfolding eos_wrong
eos_right ports n e = rw (e, and-false (some n (active_at ports)))

pub tidy_sure : (ports : List Seen) (n : ℕ) → Tidy ports n → lcas_verdict ports n ≡ SURE
unfolding lcas_verdict held_by doubtful_by missing
tidy_sure ports n o =
    rw (
      some_none n (λ i. refused_seen (seen_at ports i)) (λ i b. good_accepted (seen_at ports i) (o.good i b)),
      some_none n (λ i. lacking_seen (seen_at ports i)) (λ i b. here_lacks (seen_at ports i) (o.here i b)),
      apart_repeats ports n o.apart,
      both_kinds ports n o.gid,
      eos_right ports n (eos_alone_lem ports n o),
      some_none n (λ i. not (seen_at ports i).whole) (λ i b. rw (o.whole i b)),
      below_exact ports n o.apart o.dense,
    )

-- by the kind
pub lcas_judged : (kind : ℕ) (ports : List Seen) (n : ℕ) → eqb kind fixed_kind ≡ false → judge_of kind ports n ≡ lcas_verdict ports n
unfolding judge_of
lcas_judged kind ports n e = rw e

undoubted : (ports : List Seen) (n : ℕ) → held_by ports n ≡ false → lcas_verdict ports n ≡ SURE → doubtful_by ports n ≡ false
unfolding lcas_verdict
undoubted ports n h s =
    fails (doubtful_by ports n) (λ (e : doubtful_by ports n ≡ true). let w : ◌≡◌ {A = ℕ} DOUBTFUL SURE = rw (h, e) at s in omega arith)

stands_alone : (ports : List Seen) (n : ℕ) → missing ports n ≡ false → eos_wrong ports n ≡ false → (i : ℕ) → i < n → active_at ports i ≡ true
    → eos_alone ports n ≡ true
unfolding eos_wrong
stands_alone ports n m e i b t = go (eos_alone ports n) refl
  where
    go : (c : Bool) → eos_alone ports n ≡ c → eos_alone ports n ≡ true
    go true q = q
    go false q =
        let a = some_at n (active_at ports) i b t in
        absurd (true≢false (rw (a, q, m, and-false (not (some n (eos_at ports)))) at e))

eos_at_lem : (ports : List Seen) (n : ℕ) → eos_alone ports n ≡ true → (i : ℕ) → i < n → eos_at ports i ≡ (active_at ports i && eqb (number_at ports i) (highest ports n))
unfolding eos_alone
eos_at_lem ports n e i b =
    same_bit _ _ (every_at n (λ k. beq (eos_at ports k) (active_at ports k && eqb (number_at ports k) (highest ports n))) e i b)

one_bit : (a b : ℕ) → a < 2 → b < 2 → eqb a 0 ≡ eqb b 0 → a ≡ b
one_bit a b ha hb e =
    ⊎_elim (λ (z : a ≡ 0). let w = eqb-true b 0 (sym e ∙ eq-eqb a 0 z) in omega arith)
    (λ (z : a ≢ 0). let w = eqb-false b 0 (sym e ∙ ne_eqb a 0 z) in omega arith)
    (eq_or_ne a 0)

-- GID is one bit in every packet that is read.
pub sure_tidy : (ports : List Seen) (n : ℕ) → ((i : ℕ) → i < n → (seen_at ports i).gid < 2) → lcas_verdict ports n ≡ SURE → Tidy ports n
unfolding doubtful_by missing
sure_tidy ports n bit s =
    let d : lcas_verdict ports n ≢ HELD = (λ (e : lcas_verdict ports n ≡ HELD). let w : ◌≡◌ {A = ℕ} HELD SURE = sym e ∙ s in omega arith) in
    let o = not_held ports n d in
    let q = neither (missing ports n) (not (exact ports n)) (undoubted ports n (unheld ports n d) s) in
    let whole : (i : ℕ) → i < n → (seen_at ports i).whole ≡ true =
    (λ i b. not-false (seen_at ports i).whole (none_at n (λ k. not (seen_at ports k).whole) q.0 i b)) in
    record {
      whole = whole;
      good = λ i b. accepted_good (seen_at ports i) (whole i b) (o.accepted i b);
      here = o.here;
      gid = λ i j bi bj ui uj. one_bit (seen_at ports i).gid (seen_at ports j).gid (bit i bi) (bit j bj) (o.gid i j bi bj ui uj);
      apart = o.apart;
      dense = exact_below ports n o.apart (not-false (exact ports n) q.1);
      last = λ i b t h.
          eos_at_lem ports n (stands_alone ports n q.0 o.eos i b t) i b
          ∙ and-true (active_at ports i) _ t (eq-eqb (number_at ports i) (highest ports n) (highest_is ports n i b t h));
      alone = λ i b e.
          let t = eos_active (seen_at ports i) e in
          let w = sym (eos_at_lem ports n (stands_alone ports n q.0 o.eos i b t) i b) ∙ e in
          is_highest ports n i
          (eqb-true (number_at ports i) (highest ports n) (and_right (active_at ports i) (eqb (number_at ports i) (highest ports n)) w));
    }

-- Three ports that meet it: EOS 2, NORM 0, DNU 1.
abbrev sent : ℕ → ℕ → Seen
sent word number = record { whole = true; good = true; word = word; number = number; gid = 1; here = true }

abbrev sample : List Seen
sample = sent EOS 2 ∷ sent NORM 0 ∷ sent DNU 1 ∷ []

sample_judged : lcas_verdict sample 3 ≡ SURE
unfolding lcas_verdict held_by doubtful_by missing exact repeats takes gid_differs eos_wrong eos_alone highest
sample_judged = refl

sample_tidy : Tidy sample 3
sample_tidy = sure_tidy sample 3 (λ i b. ltb-true (seen_at sample i).gid 2 (below_at 3 (λ k. ltb (seen_at sample k).gid 2) refl i b)) sample_judged
