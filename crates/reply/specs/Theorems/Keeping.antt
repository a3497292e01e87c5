-- The rounds: who keeps a number, that such a port has lost its claim, and that they end.
-- The idea: taken numbers only grow from round to round, so a claim once lost comes back by no round; and in a round in which some port joins at least one port more keeps a number, and there are n.
use Rattle.std.specs.Prelude.{◌≡◌, ◌≢◌, ◌⊎◌, Bool, cond, not, eqb, length}
use Rattle.std.proofs.Math.Path.{refl, sym, ap}
use Rattle.std.proofs.Common.{◌∙◌, true≢false, arith}
use Rattle.std.proofs.Math.Logic.{⊎_elim}
use Rattle.std.proofs.Math.Bool.{true, false}
use mathlib.Core.List.{List}
use Prim.Native.Nat.{ℕ, zero, suc, ◌+◌, ◌≤◌, ◌<◌}
use Rattle.std.proofs.Math.ListN.{get_or-eq_default}
use Rattle.std.proofs.lemmas.List.{get_or-replicate, length-replicate}
use borrow.Author.Tests.{eq-eqb, eqb-true, ne_eqb, not-true}
use Rattle.ground.specs.Truth.{and_left, and_right, and-true, cond_by, eq_or_ne, fails, le_or_lt}
use Rattle.ground.specs.Counting.Laws.Numbers.{count_le, count_lt}
use Rattle.ground.specs.Counting.Laws.Tests.{none_at, some_none, some_one}
use Rattle.ground.specs.Counting.Words.{One, count}
use Rattle.reply.specs.Choosing.{FREE, all_free, holder_of, holders}
use Rattle.reply.specs.Laws.Choosing.{choosing, holders_first, holders_kept, holders_same}
use Rattle.reply.specs.Laws.Claims.{claim_lost, claim_none, claim_other}
use Rattle.reply.specs.Laws.Granting.{Granted, granted_after, granted_from, granted_kept, length_granted}
use Rattle.reply.specs.Laws.Members.{left_low, left_ok, ok_rested, was_number, was_ok_lem, was_state}
use Rattle.reply.specs.Members.{has_hold_off, is_candidate, ok_state, port_at}
use Rattle.reply.specs.Reports.{Apart, Lost}
use Rattle.reply.specs.Waiting.{has_claim, joins_kept, kept_numbers, more_kept, must_keep, rounds, some_join}
use Rattle.reply.specs.declared.members.Port.{Port}

pub all_free_lem : (q : ℕ) → holder_of all_free q ≡ FREE
all_free_lem q =
    ⊎_elim (λ (g : 64 ≤ q). get_or-eq_default all_free FREE {n = q} (rw (length-replicate {A = ℕ} 64 FREE) g))
    (λ (b : q < 64). get_or-replicate 64 q FREE FREE b)
    (le_or_lt 64 q)

-- port x, with hold-off left, keeps the number under which it is OK
pub record KeptBy (ports : List Port) (n q x : ℕ) : Type 0 where
  pub below : x < n
  pub left : has_hold_off (port_at ports x) ≡ true
  pub same : (port_at ports x).state_number ≡ q

-- a table in which each number that is kept is kept by such a port
pub record AllKept (ports : List Port) (n : ℕ) (kept : List ℕ) : Type 0 where
  pub len : length kept ≡ 64
  pub by : (q x : ℕ) → holder_of kept q ≡ x → x ≢ FREE → KeptBy ports n q x

module _ (ports : List Port) (n : ℕ) where
  abbrev port : ℕ → Port
  port i = port_at ports i

  abbrev own : ℕ → ℕ
  own i = (port i).state_number

  -- the table after one round more
  abbrev next : List ℕ → List ℕ
  next h = more_kept (holders ports n h) ports n h

  abbrev must : List ℕ → ℕ → Bool
  must h i = must_keep (holders ports n h) i (port i)

  must_left : (h : List ℕ) (i : ℕ) → must h i ≡ true → has_hold_off (port i) ≡ true
  must_left h i e = and_left (has_hold_off (port i)) (not (has_claim (holders ports n h) i (port i))) e

  must_lost : (h : List ℕ) (i : ℕ) → must h i ≡ true → has_claim (holders ports n h) i (port i) ≡ false
  must_lost h i e = not-true (has_claim (holders ports n h) i (port i)) (and_right (has_hold_off (port i)) (not (has_claim (holders ports n h) i (port i))) e)

  must_low : (h : List ℕ) (i : ℕ) → must h i ≡ true → own i < 64
  must_low h i e = left_low (port i) (must_left h i e)

  -- what a round keeps, all of them do
  rounds_keep : (P : List ℕ → Type 0) → ((h : List ℕ) → P h → P (next h)) → (k : ℕ) (h : List ℕ) → P h → P (rounds ports n k h)
  unfolding rounds
  rounds_keep P more zero h p = p
  rounds_keep P more (suc k) h p =
      let rest = rounds_keep P more k (next h) (more h p) in
      cond_by P (some_join (holders ports n h) h ports n) (rounds ports n k (next h)) h (λ e. rest) (λ e. p)

  -- where none joins they are over; else there is one less
  pub rounds_still : (k : ℕ) (h : List ℕ) → some_join (holders ports n h) h ports n ≡ false → rounds ports n k h ≡ h
  unfolding rounds
  rounds_still zero h e = refl
  rounds_still (suc k) h e = rw e

  pub rounds_more : (k : ℕ) (h : List ℕ) → some_join (holders ports n h) h ports n ≡ true → rounds ports n (suc k) h ≡ rounds ports n k (next h)
  unfolding rounds
  rounds_more k h e = rw e

  kept_none : AllKept ports n all_free
  kept_none = record { len = length-replicate {A = ℕ} 64 FREE; by = λ q x e d. absurd (d (sym e ∙ all_free_lem q)) }

  -- the holder of a number after a round was so before, or has joined
  next_from : (h : List ℕ) (q x : ℕ) → length h ≡ 64 → holder_of (next h) q ≡ x → (holder_of h q ≡ x) ⊎ Granted (must h) own n q x
  unfolding more_kept
  next_from h q x len e = granted_from (must h) own (must_low h) n h q x len e

  next_kept : (h : List ℕ) (q : ℕ) → holder_of h q ≢ FREE → holder_of (next h) q ≡ holder_of h q
  unfolding more_kept
  next_kept h q taken = granted_kept (must h) own n h q taken

  next_after : (h : List ℕ) (i : ℕ) → length h ≡ 64 → n ≤ 64 → i < n → must h i ≡ true → holder_of (next h) (own i) ≢ FREE
  unfolding more_kept
  next_after h i len small b e = granted_after (must h) own (must_low h) n h i len small b e

  next_length : (h : List ℕ) → length (next h) ≡ length h
  unfolding more_kept
  next_length h = length_granted (must h) own n h

  kept_next : (h : List ℕ) → AllKept ports n h → AllKept ports n (next h)
  kept_next h o =
      record {
        len = next_length h ∙ o.len;
        by = λ q x e d.
            ⊎_elim (λ (was : holder_of h q ≡ x). o.by q x was d)
            (λ (g : Granted (must h) own n q x). record { below = g.below; left = must_left h x g.asked; same = g.same })
            (next_from h q x o.len e);
      }

  -- 'keeps its number': whoever keeps one is an OK port under that number that has hold-off left
  pub kept_by_lem : AllKept ports n (kept_numbers ports n)
  unfolding kept_numbers
  kept_by_lem = rounds_keep (λ h. AllKept ports n h) kept_next n all_free kept_none

  -- a candidate that was OK under the same number keeps it
  pub keeps_own : (h : List ℕ) (i : ℕ) → n ≤ 64 → Apart ports n → AllKept ports n h → i < n → is_candidate (port i) ≡ true → (port i).state ≡ ok_state
      → own i ≡ (port i).number → holder_of (holders ports n h) (port i).number ≡ i
  keeps_own h i small apart o b c s same =
      ⊎_elim
      (λ (free : holder_of h (port i).number ≡ FREE).
      holders_first ports n h i o.len small b (choosing (port i) true c (ok_rested (port i) s) (was_ok_lem (port i) s same)) free
      (λ j d w e.
      let m : j ≡ i = apart j i (omega arith) b (was_state (port j) w) s (was_number (port j) w ∙ e ∙ sym same) in
      omega arith))
      (λ (taken : holder_of h (port i).number ≢ FREE).
      let x : ℕ = holder_of h (port i).number in
      let w : KeptBy ports n (port i).number x = o.by (port i).number x refl taken in
      holders_kept ports n h (port i).number taken ∙ apart x i w.below b (left_ok (port x) w.left) s (w.same ∙ sym same))
      (eq_or_ne (holder_of h (port i).number) FREE)

  -- a port that has lost its claim gets it back by no round: taken numbers only grow
  stays_lost : (h : List ℕ) (i : ℕ) → n ≤ 64 → Apart ports n → AllKept ports n h → i < n → (port i).state ≡ ok_state
      → has_claim (holders ports n h) i (port i) ≡ false → has_claim (holders ports n (next h)) i (port i) ≡ false
  stays_lost h i small apart o b s lost = go (is_candidate (port i)) refl
    where
      go : (c : Bool) → is_candidate (port i) ≡ c → has_claim (holders ports n (next h)) i (port i) ≡ false
      go false c = claim_none (holders ports n (next h)) i (port i) c
      go true c =
          let q : ℕ = (port i).number in
          let was = claim_lost (holders ports n h) i (port i) lost c in
          let more : AllKept ports n (next h) = kept_next h o in
          ⊎_elim
          (λ (free : holder_of (next h) q ≡ FREE).
          let before : holder_of h q ≡ holder_of (next h) q =
          ⊎_elim (λ (f : holder_of h q ≡ FREE). f ∙ sym free) (λ (t : holder_of h q ≢ FREE). sym (next_kept h q t)) (eq_or_ne (holder_of h q) FREE) in
          let same : holder_of (holders ports n h) q ≡ holder_of (holders ports n (next h)) q =
          holders_same ports n h (next h) q o.len more.len before in
          claim_other (holders ports n (next h)) i (port i) (λ (z : holder_of (holders ports n (next h)) q ≡ FREE). was.0 (same ∙ z))
          (λ (z : holder_of (holders ports n (next h)) q ≡ i). was.1 (same ∙ z)))
          (λ (taken : holder_of (next h) q ≢ FREE).
          let kept : holder_of (holders ports n (next h)) q ≡ holder_of (next h) q = holders_kept ports n (next h) q taken in
          claim_other (holders ports n (next h)) i (port i) (λ (z : holder_of (holders ports n (next h)) q ≡ FREE). taken (sym kept ∙ z))
          (λ (z : holder_of (holders ports n (next h)) q ≡ i).
          let mine : KeptBy ports n q i = more.by q i (sym kept ∙ z) (λ (f : i ≡ FREE). omega arith) in
          was.1 (keeps_own h i small apart o b c s mine.same)))
          (eq_or_ne (holder_of (next h) q) FREE)

  lost_next : n ≤ 64 → Apart ports n → (h : List ℕ) → AllKept ports n h → Lost ports n h → Lost ports n (next h)
  lost_next small apart h o lost q x e d =
      let w : KeptBy ports n q x = (kept_next h o).by q x e d in
      stays_lost h x small apart o w.below (left_ok (port x) w.left)
      (⊎_elim (λ (was : holder_of h q ≡ x). lost q x was d) (λ (g : Granted (must h) own n q x). must_lost h x g.asked) (next_from h q x o.len e))

  -- a port that keeps its number has really lost its claim
  pub kept_lost : n ≤ 64 → Apart ports n → Lost ports n (kept_numbers ports n)
  unfolding kept_numbers
  kept_lost small apart =
      (rounds_keep (λ h. AllKept ports n h × Lost ports n h) (λ h p. (kept_next h p.0, lost_next small apart h p.0 p.1)) n all_free
      (kept_none, λ q x e d. absurd (d (sym e ∙ all_free_lem q)))
      ).1

  -- how many ports keep a number
  abbrev is_in : List ℕ → ℕ → Bool
  is_in h i = eqb (holder_of h (own i)) i

  -- in a round in which some port joins one port more keeps a number
  counted : (h : List ℕ) → n ≤ 64 → AllKept ports n h → some_join (holders ports n h) h ports n ≡ true → count n (is_in h) < count n (is_in (next h))
  unfolding some_join
  counted h small o e =
      let one : One n (λ i. joins_kept (holders ports n h) h i (port i)) = some_one n (λ i. joins_kept (holders ports n h) h i (port i)) e in
      let i : ℕ = one.at in
      let must-i : must h i ≡ true = and_left (must h i) (eqb (holder_of h (own i)) FREE) one.holds in
      let free : holder_of h (own i) ≡ FREE = eqb-true (holder_of h (own i)) FREE (and_right (must h i) (eqb (holder_of h (own i)) FREE) one.holds) in
      let x : ℕ = holder_of (next h) (own i) in
      let taken : x ≢ FREE = next_after h i o.len small one.below must-i in
      let w : KeptBy ports n (own i) x = (kept_next h o).by (own i) x refl taken in
      count_lt n (is_in h) (is_in (next h)) x w.below
      (ne_eqb (holder_of h (own x)) x (λ (z : holder_of h (own x) ≡ x). taken (sym z ∙ ap (λ (q : ℕ). holder_of h q) w.same ∙ free)))
      (eq-eqb (holder_of (next h) (own x)) x (ap (λ (q : ℕ). holder_of (next h) q) w.same))
      (λ k b t.
      let is : holder_of h (own k) ≡ k = eqb-true (holder_of h (own k)) k t in
      eq-eqb (holder_of (next h) (own k)) k (next_kept h (own k) (λ (z : holder_of h (own k) ≡ FREE). let f : k ≡ FREE = sym is ∙ z in omega arith) ∙ is))

  -- where all keep one none is left to join
  all_in : (h : List ℕ) → n ≤ 64 → n ≤ count n (is_in h) → some_join (holders ports n h) h ports n ≡ false
  unfolding some_join
  all_in h small full =
      some_none n (λ i. joins_kept (holders ports n h) h i (port i))
      (λ i b.
      fails (joins_kept (holders ports n h) h i (port i))
      (λ (t : joins_kept (holders ports n h) h i (port i) ≡ true).
      let free : holder_of h (own i) ≡ FREE = eqb-true (holder_of h (own i)) FREE (and_right (must h i) (eqb (holder_of h (own i)) FREE) t) in
      let less : count n (is_in h) < count n (λ k. true) =
      count_lt n (is_in h) (λ k. true) i b (ne_eqb (holder_of h (own i)) i (λ (z : holder_of h (own i) ≡ i). let f : i ≡ FREE = sym z ∙ free in omega arith)) refl
      (λ k d s. refl) in
      let most : count n (λ k. true) ≤ n = count_le n (λ k. true) in
      omega arith))

  end_from : n ≤ 64 → (k : ℕ) (h : List ℕ) → AllKept ports n h → n ≤ k + count n (is_in h)
      → some_join (holders ports n (rounds ports n k h)) (rounds ports n k h) ports n ≡ false
  unfolding rounds
  end_from small zero h o full = all_in h small (omega arith)
  end_from small (suc k) h o full =
      let rest = end_from small k (next h) (kept_next h o) in
      go (some_join (holders ports n h) h ports n) refl rest
    where
      go : (b : Bool) → some_join (holders ports n h) h ports n ≡ b
          → (n ≤ k + count n (is_in (next h)) → some_join (holders ports n (rounds ports n k (next h))) (rounds ports n k (next h)) ports n ≡ false)
          → some_join (holders ports n (cond b (rounds ports n k (next h)) h)) (cond b (rounds ports n k (next h)) h) ports n ≡ false
      go true e rest = let w = counted h small o e in rest (omega arith)
      go false e rest = e

  -- the rounds end: none joins after as many as there are ports
  pub none_joins : n ≤ 64 → some_join (holders ports n (kept_numbers ports n)) (kept_numbers ports n) ports n ≡ false
  unfolding kept_numbers
  none_joins small = end_from small n all_free kept_none (omega arith)

  -- so a port that has lost its claim and has hold-off left keeps its number
  pub is_kept : n ≤ 64 → Apart ports n → (i : ℕ) → i < n → has_hold_off (port i) ≡ true → has_claim (holders ports n (kept_numbers ports n)) i (port i) ≡ false
      → holder_of (kept_numbers ports n) (own i) ≡ i
  unfolding some_join
  is_kept small apart i b left lost =
      let h : List ℕ = kept_numbers ports n in
      let not-joins : joins_kept (holders ports n h) h i (port i) ≡ false = none_at n (λ k. joins_kept (holders ports n h) h k (port k)) (none_joins small) i b in
      let must-i : must h i ≡ true = and-true (has_hold_off (port i)) _ left (rw lost) in
      ⊎_elim
      (λ (free : holder_of h (own i) ≡ FREE).
      absurd (true≢false (sym (and-true (must h i) _ must-i (eq-eqb (holder_of h (own i)) FREE free)) ∙ not-joins)))
      (λ (taken : holder_of h (own i) ≢ FREE).
      let x : ℕ = holder_of h (own i) in
      let w : KeptBy ports n (own i) x = kept_by_lem.by (own i) x refl taken in
      apart x i w.below b (left_ok (port x) w.left) (left_ok (port i) left) w.same)
      (eq_or_ne (holder_of h (own i)) FREE)
