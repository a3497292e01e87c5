-- Fixed groups (request 2026-12): a report is sure exactly where every port has a whole good ruling packet and its frames, and the numbers are 0 to X-1, X being how many ports were set at the start. Otherwise it is held, and never doubtful.
use Rattle.std.specs.Prelude.{◌≡◌, refl, ◌≢◌, true, false, List, [], ◌∷◌, ℕ, ◌<◌}
use Rattle.std.proofs.Common.{sym, ◌∙◌, arith}
use Rattle.std.proofs.Math.Bool.{not}
use borrow.Author.Tests.{not-false}
use Rattle.ground.specs.Counting.Words.{count, some}
use Rattle.ground.specs.Counting.Laws.Numbers.{count_all}
use Rattle.ground.specs.Counting.Laws.Ranks.{taken}
use Rattle.ground.specs.Counting.Laws.Tests.{every_at, none_at, some_none}
use Rattle.ground.specs.Table.{tabulate}
use Rattle.ground.specs.Truth.{cond_by, fails}
use Rattle.packet.specs.Kinds.{fixed_kind}
use Rattle.packet.specs.Words.{FIXED}
use Rattle.judge.specs.declared.seen.Seen.{Seen}
use Rattle.judge.specs.Full.{Full}
use Rattle.judge.specs.Laws.Numbers.{all_active, repeats_apart}
use Rattle.judge.specs.Laws.Ports.{accepted_good, active_numbered, good_accepted, here_lacks, lacks_here}
use Rattle.judge.specs.Marked.{AllFixed, Standing}
use Rattle.judge.specs.Numbers.{AllApart, active_at, number_at, numbered_at}
use Rattle.judge.specs.Order.{active_in, port_of, rank_of}
use Rattle.judge.specs.Seen.{active_seen, lacking_seen, refused_seen, seen_at}
use Rattle.judge.specs.Theorems.Exact.{all_below}
use Rattle.judge.specs.Theorems.Full.{full_apart, full_exact, full_members, full_rank, full_repeats}
use Rattle.judge.specs.Theorems.Held.{none}
use Rattle.judge.specs.Theorems.Ranks.{Ranked, port_ranked}
use Rattle.judge.specs.Verdict.{DOUBTFUL, HELD, SURE, fixed_exact, fixed_held, fixed_verdict, judge_of, missing, repeats, takes}

fixed_active : (p : Seen) → p.whole ≡ true → p.good ≡ true → p.word ≡ FIXED → active_seen p ≡ true
fixed_active p w g e = rw (w, g, e)

held : (ports : List Seen) (n : ℕ) → fixed_held ports n ≡ true → fixed_verdict ports n ≡ HELD
unfolding fixed_verdict
held ports n e = rw e

unheld : (ports : List Seen) (n : ℕ) → fixed_verdict ports n ≡ SURE → fixed_held ports n ≡ false
unheld ports n s = fails (fixed_held ports n) (λ (e : fixed_held ports n ≡ true). let w : ◌≡◌ {A = ℕ} HELD SURE = sym (held ports n e) ∙ s in omega arith)

module _ (ports : List Seen) (n : ℕ) (fixed : AllFixed ports n) (s : fixed_verdict ports n ≡ SURE) where
  clear : (missing ports n ≡ false) × (some n (λ i. refused_seen (seen_at ports i)) ≡ false) × (some n (λ i. lacking_seen (seen_at ports i)) ≡ false) × (repeats ports n ≡ false) × (not (fixed_exact ports n) ≡ false)
  unfolding fixed_held
  clear = none (missing ports n) (some n (λ i. refused_seen (seen_at ports i))) (some n (λ i. lacking_seen (seen_at ports i))) (repeats ports n) (not (fixed_exact ports n)) (unheld ports n s)

  whole_at : (i : ℕ) → i < n → (seen_at ports i).whole ≡ true
  unfolding missing
  whole_at i b = not-false (seen_at ports i).whole (none_at n (λ k. not (seen_at ports k).whole) clear.0 i b)

  good_at_lem : (i : ℕ) → i < n → (seen_at ports i).good ≡ true
  good_at_lem i b = accepted_good (seen_at ports i) (whole_at i b) (none_at n (λ k. refused_seen (seen_at ports k)) clear.1 i b)

  active_at_lem : (i : ℕ) → i < n → active_at ports i ≡ true
  active_at_lem i b = fixed_active (seen_at ports i) (whole_at i b) (good_at_lem i b) (fixed i b (good_at_lem i b))

  numbered_at_lem : (i : ℕ) → i < n → numbered_at ports i ≡ true
  numbered_at_lem i b = active_numbered (seen_at ports i) (active_at_lem i b)

  apart_in : AllApart ports n
  apart_in = repeats_apart ports n clear.3

  all_in : count n (numbered_at ports) ≡ n
  all_in = count_all n (numbered_at ports) numbered_at_lem

  taken_in_lem : (q : ℕ) → q < n → taken n (numbered_at ports) (number_at ports) q ≡ true
  unfolding fixed_exact takes
  taken_in_lem q h = every_at n (λ p. takes ports n p) (not-false (fixed_exact ports n) clear.4) q h

  low_at : (i : ℕ) → i < n → number_at ports i < n
  low_at i b = rw all_in at (all_below n (numbered_at ports) (number_at ports) apart_in (λ q h. taken_in_lem q (rw all_in at h)) i b (numbered_at_lem i b))

  pub sure_stands : Standing ports n
  sure_stands =
      record {
        whole = whole_at;
        good = good_at_lem;
        here = λ i b. lacks_here (seen_at ports i) (none_at n (λ k. lacking_seen (seen_at ports k)) clear.2 i b) (active_at_lem i b);
        once = λ i j bi bj e. apart_in i j bi bj (numbered_at_lem i bi) (numbered_at_lem j bj) e;
        low = low_at;
      }

module _ (ports : List Seen) (n : ℕ) (fixed : AllFixed ports n) (o : Standing ports n) where
  stands_active : (i : ℕ) → i < n → active_at ports i ≡ true
  stands_active i b = fixed_active (seen_at ports i) (o.whole i b) (o.good i b) (fixed i b (o.good i b))

  stands_full : Full ports n
  stands_full = record { active = stands_active; once = o.once; low = o.low }

  exact_in : fixed_exact ports n ≡ true
  unfolding fixed_exact
  exact_in = full_exact ports n stands_full n (omega arith)

  pub stands_sure : fixed_verdict ports n ≡ SURE
  unfolding fixed_verdict fixed_held missing
  stands_sure =
      rw (
        some_none n (λ i. not (seen_at ports i).whole) (λ i b. rw (o.whole i b)),
        some_none n (λ i. refused_seen (seen_at ports i)) (λ i b. good_accepted (seen_at ports i) (o.good i b)),
        some_none n (λ i. lacking_seen (seen_at ports i)) (λ i b. here_lacks (seen_at ports i) (λ t. o.here i b)),
        full_repeats ports n stands_full,
        exact_in,
      )

  -- X is the number of ports
  pub fixed_members : active_in ports n ≡ n
  fixed_members = full_members ports n stands_full

  stands_ranked : (r : ℕ) → r < n → Ranked ports n r (port_of ports n r)
  stands_ranked r h = port_ranked ports n (all_active ports n (full_apart ports n stands_full)) r (rw fixed_members h)

  -- the port of rank r is the one with the number r
  pub fixed_port : (r : ℕ) → r < n → (port_of ports n r < n) × (number_at ports (port_of ports n r) ≡ r)
  fixed_port r h =
      let w = stands_ranked r h in
      let p : ℕ = port_of ports n r in
      let low : number_at ports p < n = o.low p w.below in
      (w.below, sym (full_rank ports n stands_full (number_at ports p) (omega arith)) ∙ w.rank)

-- by the kind
pub fixed_judged : (ports : List Seen) (n : ℕ) → judge_of fixed_kind ports n ≡ fixed_verdict ports n
unfolding judge_of
fixed_judged ports n = refl

-- whatever is seen
pub fixed_not_doubtful : (ports : List Seen) (n : ℕ) → fixed_verdict ports n ≢ DOUBTFUL
unfolding fixed_verdict
fixed_not_doubtful ports n =
    cond_by (λ (m : ℕ). m ≢ DOUBTFUL) (fixed_held ports n) HELD SURE (λ e (q : ◌≡◌ {A = ℕ} HELD DOUBTFUL). omega arith) (λ e (q : ◌≡◌ {A = ℕ} SURE DOUBTFUL). omega arith)

pub fixed_else_held : (ports : List Seen) (n : ℕ) → fixed_verdict ports n ≢ SURE → fixed_verdict ports n ≡ HELD
unfolding fixed_verdict
fixed_else_held ports n =
    cond_by (λ (m : ℕ). m ≢ SURE → m ≡ HELD) (fixed_held ports n) HELD SURE (λ e d. refl) (λ e d. absurd (d refl))

-- Three ports that meet it, with the numbers 2, 0 and 1: ports 1, 2 and 0 in the order of their numbers.
abbrev sent : ℕ → Seen
sent number = record { whole = true; good = true; word = FIXED; number = number; gid = 0; here = true }

abbrev sample : List Seen
sample = sent 2 ∷ sent 0 ∷ sent 1 ∷ []

sample_judged : (judge_of fixed_kind sample 3 ≡ SURE) × (active_in sample 3 ≡ 3) × (tabulate 3 (port_of sample 3) ≡ 1 ∷ 2 ∷ 0 ∷ [])
unfolding judge_of fixed_verdict fixed_held fixed_exact missing repeats takes active_in port_of rank_of
sample_judged = (refl, refl, refl)
