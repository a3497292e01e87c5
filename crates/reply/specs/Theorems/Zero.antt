-- 'Zero and zero is today's behaviour' (02, 2026-03).
use Rattle.std.specs.Prelude.{◌≡◌, Bool, cond, not, ◌&&◌, ℕ, ◌≤◌, ◌<◌, eqb, replicate}
use Rattle.std.proofs.Math.Path.{refl, sym, ap}
use Rattle.std.proofs.Common.{◌∙◌, arith, eq-eqb, eqb-true}
use Rattle.std.proofs.Math.Bool.{true, false, beq}
use mathlib.Core.List.{List}
use Rattle.std.proofs.Math.ListN.{get_or}
use Rattle.std.proofs.lemmas.List.{length-replicate}
use Rattle.ground.specs.Counting.Each.{get_or_each}
use Rattle.ground.specs.Counting.Laws.Tests.{some_none}
use Rattle.ground.specs.Truth.{and_left, and_right, and-true, fails}
use Rattle.reply.specs.Reports.{NoTimes}
use Rattle.reply.specs.Theorems.Keeping.{rounds_still}
use Rattle.reply.specs.declared.members.Port.{Port}
use Rattle.reply.specs.declared.waiting.Standing.{Standing}
use Rattle.reply.specs.Choosing.{FREE, chooses, claims, holder_of, holders, all_free}
use Rattle.reply.specs.Laws.Claims.{claim_candidate, claim_lost, keeps_not, left_claim, left_idle, left_lost, with_rested, without_failed}
use Rattle.reply.specs.Laws.Granting.{granted_ext}
use Rattle.reply.specs.Laws.Members.{left_elapsed, rested}
use Rattle.reply.specs.Members.{fail_state, has_hold_off, idle_state, is_candidate, is_idle, is_restoring, ok_state, port_at, was_ok}
use Rattle.reply.specs.Theorems.States.{claim_has, standing_is}
use Rattle.reply.specs.Waiting.{chosen_of, has_claim, joins_kept, kept_numbers, must_keep, some_join, standing_at, standing_by}
use Rattle.reply.specs.Zero.{plain_claims, plain_holders, state_by, states_of}

unrested : (a b r : Bool) → r ≡ false → (a && not r && b) ≡ (a && b)
unrested true b r e = rw e
unrested false b r e = refl

same_state : (h : List ℕ) (i : ℕ) (p : Port) (t : Bool) → is_idle p ≡ false → (is_candidate p && eqb (holder_of h p.number) i) ≡ t
    → state_by h i p ≡ cond t ok_state fail_state
unfolding state_by
same_state h i p t e k = rw (k, e)

module _ (ports : List Port) (n : ℕ) (small : n ≤ 64) (none : NoTimes ports n) where
  none_must : (chosen kept : List ℕ) (i : ℕ) → i < n → joins_kept chosen kept i (port_at ports i) ≡ false
  none_must chosen kept i b =
      fails (joins_kept chosen kept i (port_at ports i))
      (λ (t : joins_kept chosen kept i (port_at ports i) ≡ true).
      let p : Port = port_at ports i in
      let left : has_hold_off p ≡ true =
      and_left (has_hold_off p) (not (has_claim chosen i p)) (and_left (must_keep chosen i p) (eqb (holder_of kept p.state_number) FREE) t) in
      let r = left_elapsed p left in
      let z = (none i b).0 in
      omega arith)

  -- nobody keeps a number
  all_free_lem : kept_numbers ports n ≡ all_free
  unfolding kept_numbers some_join
  all_free_lem =
      rounds_still ports n n all_free
      (some_none n (λ i. joins_kept (holders ports n all_free) all_free i (port_at ports i)) (none_must (holders ports n all_free) all_free))

  none_restores : (i : ℕ) → i < n → is_restoring (port_at ports i) ≡ false
  none_restores i b = rested (port_at ports i) (let z = (none i b).1 in omega arith)

  same_claims : (first : Bool) (h : List ℕ) → claims first ports n h ≡ plain_claims first ports n h
  unfolding claims plain_claims
  same_claims first h =
      granted_ext n (λ i. chooses first (port_at ports i)) (λ i. is_candidate (port_at ports i) && beq (was_ok (port_at ports i)) first)
      (λ i. (port_at ports i).number) h
      (λ i b. unrested (is_candidate (port_at ports i)) (beq (was_ok (port_at ports i)) first) (is_restoring (port_at ports i)) (none_restores i b))

  -- the candidates choose as in 01
  same_choice : chosen_of ports n ≡ plain_holders ports n
  unfolding chosen_of holders plain_holders
  same_choice =
      ap (λ (h : List ℕ). claims false ports n (claims true ports n h)) all_free_lem
      ∙ same_claims false (claims true ports n all_free)
      ∙ ap (λ (h : List ℕ). plain_claims false ports n h) (same_claims true all_free)

  abbrev C : List ℕ
  C = chosen_of ports n

  abbrev Same : ℕ → Standing → Type 0
  Same i s = (s.state ≡ state_by C i (port_at ports i)) × (s.number ≡ (port_at ports i).number)

  by_claim : (i : ℕ) → i < n → (c : Bool) → has_claim C i (port_at ports i) ≡ c → is_idle (port_at ports i) ≡ false → Same i (standing_by C i (port_at ports i))
  by_claim i b true c e =
      let p : Port = port_at ports i in
      rw (left_claim C i p e c ∙ with_rested p (none_restores i b)) (
        sym (same_state C i p true e
            (and-true (is_candidate p) _ (claim_candidate C i p c) (eq-eqb (holder_of C p.number) i (claim_has ports n i small b c (none_restores i b))))),
        refl,
      )
  by_claim i b false c e =
      let p : Port = port_at ports i in
      rw (left_lost C i p e c ∙ without_failed C i p (keeps_not C i p (let z = (none i b).0 in omega arith))) (
        sym
            (same_state C i p false e
            (fails (is_candidate p && eqb (holder_of C p.number) i)
            (λ t.
            (claim_lost C i p c (and_left (is_candidate p) (eqb (holder_of C p.number) i) t)).1
            (eqb-true (holder_of C p.number) i (and_right (is_candidate p) (eqb (holder_of C p.number) i) t))))),
        refl,
      )

  by_state : (i : ℕ) → i < n → (a : Bool) → is_idle (port_at ports i) ≡ a → Same i (standing_by C i (port_at ports i))
  unfolding state_by
  by_state i b true e = rw (left_idle C i (port_at ports i) e, e) (refl, refl)
  by_state i b false e = by_claim i b (has_claim C i (port_at ports i)) refl e

  -- with both counts 0 at every port the states are those of 01, each under the port's number, whatever the last report left
  pub zero_today : (i : ℕ) → i < n
      → ((standing_at ports n i).state ≡ get_or (states_of ports n) i idle_state) × ((standing_at ports n i).number ≡ (port_at ports i).number)
  unfolding states_of
  zero_today i b =
      let e : standing_at ports n i ≡ standing_by (chosen_of ports n) i (port_at ports i) = standing_is ports n i small b in
      let today : get_or (states_of ports n) i idle_state ≡ state_by (plain_holders ports n) i (port_at ports i) =
      get_or_each n (λ k. state_by (plain_holders ports n) k (port_at ports k)) (replicate 64 idle_state) i idle_state b
      (rw (length-replicate {A = ℕ} 64 0) (omega arith)) in (
        ap (λ (s : Standing). s.state) e ∙ (by_state i b (is_idle (port_at ports i)) refl).0 ∙ ap (λ (h : List ℕ). state_by h i (port_at ports i)) same_choice ∙ sym today,
        ap (λ (s : Standing). s.number) e ∙ (by_state i b (is_idle (port_at ports i)) refl).1,
      )
