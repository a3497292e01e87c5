-- What it says that a port has its claim, and what a report leaves of one that has it or has it not.
use Rattle.std.specs.Prelude.{◌≡◌, refl, ◌⊎◌, ◌≢◌, Bool, true, false, ◌&&◌, ◌||◌, List, ℕ, ◌+◌, ◌≤◌, ◌<◌, eqb, ltb}
use Rattle.std.proofs.Common.{sym, inl, inr, ⊎_elim, true≢false, eq-eqb, eqb-true, le-ltb, lt-ltb, ltb-true, ne_eqb}
use Rattle.std.proofs.lemmas.Bool.{eqb-false}
use Rattle.ground.specs.Truth.{and-true, and_left, and_right, neither, or_cases, or_left, or_right}
use Rattle.reply.specs.declared.members.Port.{Port}
use Rattle.reply.specs.Choosing.{FREE, holder_of}
use Rattle.reply.specs.Members.{fail_state, idle_state, is_candidate, is_idle, is_restoring, ok_state}
use Rattle.reply.specs.Waiting.{has_claim, keeps_number, standing, standing_by, with_claim, without_claim}

left_fails : (b c : Bool) → b ≡ false → (b && c) ≡ false
left_fails b c e = rw e

right_fails : (b c : Bool) → c ≡ false → (b && c) ≡ false
right_fails true c e = e
right_fails false c e = refl

both_fail : (b c : Bool) → b ≡ false → c ≡ false → (b || c) ≡ false
both_fail b c e f = rw (e, f)

right_of : (b c : Bool) → b ≡ true → (b && c) ≡ false → c ≡ false
right_of true c t e = e
right_of false c t e = absurd (let w : true ≡ false = sym t in true≢false w)

module _ (chosen : List ℕ) (i : ℕ) (p : Port) where
  abbrev alone : Bool
  alone = eqb (holder_of chosen p.number) FREE || eqb (holder_of chosen p.number) i

  pub claim_candidate : has_claim chosen i p ≡ true → is_candidate p ≡ true
  claim_candidate e = and_left (is_candidate p) alone e

  pub claim_alone : has_claim chosen i p ≡ true → (holder_of chosen p.number ≡ FREE) ⊎ (holder_of chosen p.number ≡ i)
  claim_alone e =
      ⊎_elim (λ (f : eqb (holder_of chosen p.number) FREE ≡ true). inl (eqb-true (holder_of chosen p.number) FREE f))
      (λ (o : eqb (holder_of chosen p.number) i ≡ true). inr (eqb-true (holder_of chosen p.number) i o))
      (or_cases (eqb (holder_of chosen p.number) FREE) (eqb (holder_of chosen p.number) i) (and_right (is_candidate p) alone e))

  pub claim_free : is_candidate p ≡ true → holder_of chosen p.number ≡ FREE → has_claim chosen i p ≡ true
  claim_free c e = and-true (is_candidate p) alone c (or_left _ (eqb (holder_of chosen p.number) i) (eq-eqb (holder_of chosen p.number) FREE e))

  pub claim_own : is_candidate p ≡ true → holder_of chosen p.number ≡ i → has_claim chosen i p ≡ true
  claim_own c e = and-true (is_candidate p) alone c (or_right (eqb (holder_of chosen p.number) FREE) _ (eq-eqb (holder_of chosen p.number) i e))

  pub claim_none : is_candidate p ≡ false → has_claim chosen i p ≡ false
  claim_none c = left_fails (is_candidate p) alone c

  pub claim_other : holder_of chosen p.number ≢ FREE → holder_of chosen p.number ≢ i → has_claim chosen i p ≡ false
  claim_other f o =
      right_fails (is_candidate p) alone
      (both_fail (eqb (holder_of chosen p.number) FREE) _ (ne_eqb (holder_of chosen p.number) FREE f) (ne_eqb (holder_of chosen p.number) i o))

  pub claim_lost : has_claim chosen i p ≡ false → is_candidate p ≡ true → (holder_of chosen p.number ≢ FREE) × (holder_of chosen p.number ≢ i)
  claim_lost e c =
      let n = neither (eqb (holder_of chosen p.number) FREE) (eqb (holder_of chosen p.number) i) (right_of (is_candidate p) alone c e) in
      (eqb-false (holder_of chosen p.number) FREE n.0, eqb-false (holder_of chosen p.number) i n.1)

  -- a port that keeps its number
  pub keeps : p.state ≡ ok_state → p.elapsed < p.hold_off → holder_of chosen p.state_number ≡ i → keeps_number chosen i p ≡ true
  keeps s r h =
      and-true (eqb p.state ok_state && ltb p.elapsed p.hold_off) _
      (and-true (eqb p.state ok_state) _ (eq-eqb p.state ok_state s) (lt-ltb p.elapsed p.hold_off r))
      (eq-eqb (holder_of chosen p.state_number) i h)

  pub keeps_not : p.hold_off ≤ p.elapsed → keeps_number chosen i p ≡ false
  keeps_not b =
      left_fails (eqb p.state ok_state && ltb p.elapsed p.hold_off) _ (right_fails (eqb p.state ok_state) _ (le-ltb p.elapsed p.hold_off b))

  -- one that was not OK has none to keep
  pub keeps_none : p.state ≢ ok_state → keeps_number chosen i p ≡ false
  keeps_none d =
      left_fails (eqb p.state ok_state && ltb p.elapsed p.hold_off) _ (left_fails (eqb p.state ok_state) _ (ne_eqb p.state ok_state d))

  pub keeps_own : keeps_number chosen i p ≡ true → holder_of chosen p.state_number ≡ i
  keeps_own e =
      eqb-true (holder_of chosen p.state_number) i
      (and_right (eqb p.state ok_state && ltb p.elapsed p.hold_off) (eqb (holder_of chosen p.state_number) i) e)

  keeps_two : keeps_number chosen i p ≡ true → (eqb p.state ok_state && ltb p.elapsed p.hold_off) ≡ true
  keeps_two e = and_left (eqb p.state ok_state && ltb p.elapsed p.hold_off) (eqb (holder_of chosen p.state_number) i) e

  pub keeps_state_lem : keeps_number chosen i p ≡ true → p.state ≡ ok_state
  keeps_state_lem e = eqb-true p.state ok_state (and_left (eqb p.state ok_state) (ltb p.elapsed p.hold_off) (keeps_two e))

  pub keeps_elapsed : keeps_number chosen i p ≡ true → p.elapsed < p.hold_off
  keeps_elapsed e = ltb-true p.elapsed p.hold_off (and_right (eqb p.state ok_state) (ltb p.elapsed p.hold_off) (keeps_two e))

  -- what is left of a port, by the tests that it meets
  pub left_idle : is_idle p ≡ true → standing_by chosen i p ≡ standing idle_state p.number 0
  unfolding standing_by
  left_idle e = rw e

  pub left_claim : is_idle p ≡ false → has_claim chosen i p ≡ true → standing_by chosen i p ≡ with_claim p
  unfolding standing_by
  left_claim e c = rw (c, e)

  pub left_lost : is_idle p ≡ false → has_claim chosen i p ≡ false → standing_by chosen i p ≡ without_claim chosen i p
  unfolding standing_by
  left_lost e c = rw (c, e)

pub with_rested : (p : Port) → is_restoring p ≡ false → with_claim p ≡ standing ok_state p.number 0
with_rested p e = rw e

pub with_restoring : (p : Port) → is_restoring p ≡ true → with_claim p ≡ standing fail_state p.number (p.elapsed + 1)
with_restoring p e = rw e

pub without_kept : (chosen : List ℕ) (i : ℕ) (p : Port) → keeps_number chosen i p ≡ true
    → without_claim chosen i p ≡ standing ok_state p.state_number (p.elapsed + 1)
without_kept chosen i p e = rw e

pub without_failed : (chosen : List ℕ) (i : ℕ) (p : Port) → keeps_number chosen i p ≡ false → without_claim chosen i p ≡ standing fail_state p.number 0
without_failed chosen i p e = rw e
