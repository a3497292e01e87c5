-- 02, 2026-03, on the definitions: hold-off and restoring to the report, against others, never both, and IDLE at once.
-- The idea: the definitions ask of a claim by the table of who has which number as the rounds leave it, and that is the same as asking it of the states after the report (`claim_is`, `is_claim`). With it most sentences are one case of the definitions; `hold_kept` stands on `is_kept` of Laws/Keeping, `against_others` on `ok_apart`.
use Rattle.std.specs.Prelude.{◌≡◌, refl, ◌⊎◌, ◌≢◌, Bool, true, false, List, ℕ, ◌+◌, ◌≤◌, ◌<◌}
use Rattle.std.proofs.Math.Path.{sym}
use Rattle.std.proofs.Common.{ap, ◌∙◌, inl, inr, ⊎_elim, true≢false, arith}
use Rattle.ground.specs.Truth.{eq_or_ne, fails, le_or_lt}
use Rattle.reply.specs.Reports.{Apart, Claim, InHoldOff, InRestoring, Low, Other, Timed}
use Rattle.reply.specs.Theorems.Keeping.{is_kept, keeps_own, kept_by_lem}
use Rattle.reply.specs.declared.members.Port.{Port}
use Rattle.reply.specs.declared.waiting.Standing.{Standing}
use Rattle.reply.specs.Choosing.{FREE, holder_of}
use Rattle.reply.specs.Laws.Choosing.{holders_kept}
use Rattle.reply.specs.Laws.Claims.{claim_alone, claim_candidate, claim_free, claim_lost, claim_own, keeps, keeps_elapsed, keeps_none, keeps_not, keeps_state_lem, left_claim, left_idle, left_lost, with_rested, with_restoring, without_failed, without_kept}
use Rattle.reply.specs.Laws.Members.{candidate_not_idle, has_left_lem, ok_rested, rested, restoring, restoring_fail, restoring_left, was_number, was_state}
use Rattle.reply.specs.Members.{fail_state, idle_state, is_candidate, is_idle, is_restoring, ok_state, port_at, was_ok}
use Rattle.reply.specs.Theorems.States.{OkUnder, ok_after, ok_apart, ok_holds_lem, standing_is}
use Rattle.reply.specs.Waiting.{chosen_of, has_claim, keeps_number, kept_numbers, standing, standing_at, standing_by, with_claim, without_claim}

-- 'one that turns IDLE does so at once', from every state, and no timer runs
pub idle_at_once : (ports : List Port) (n i : ℕ) → n ≤ 64 → i < n → is_idle (port_at ports i) ≡ true
    → standing_at ports n i ≡ standing idle_state (port_at ports i).number 0
idle_at_once ports n i small b e = standing_is ports n i small b ∙ left_idle (chosen_of ports n) i (port_at ports i) e

module _ (ports : List Port) (n : ℕ) (small : n ≤ 64) (apart : Apart ports n) (i : ℕ) (b : i < n) where
  abbrev p : Port
  p = port_at ports i

  abbrev C : List ℕ
  C = chosen_of ports n

  -- the test of the definitions is the claim, asked of the numbers after the report
  pub claim_is : Claim ports n i → has_claim C i p ≡ true
  claim_is c =
      let x : ℕ = holder_of C p.number in
      ⊎_elim (λ (f : x ≡ FREE). claim_free C i p c.candidate f)
      (λ (some : x ≢ FREE).
      let o : OkUnder ports n p.number x = ok_after ports n p.number x small apart refl some in
      ⊎_elim (λ (e : x ≡ i). claim_own C i p c.candidate e) (λ (d : x ≢ i). absurd (c.alone x o.below d o.ok o.same)) (eq_or_ne x i))
      (eq_or_ne x FREE)

  pub is_claim : has_claim C i p ≡ true → Claim ports n i
  is_claim e =
      record {
        candidate = claim_candidate C i p e;
        alone = λ j bj d ok same.
            let h : holder_of C p.number ≡ j = ap (λ (q : ℕ). holder_of C q) (sym same) ∙ ok_holds_lem ports n j small bj ok in
            ⊎_elim (λ (f : holder_of C p.number ≡ FREE). let w : j ≡ FREE = sym h ∙ f in omega arith)
            (λ (o : holder_of C p.number ≡ i). d (sym h ∙ o))
            (claim_alone C i p e);
      }

  no_claim : (Claim ports n i → ⊥) → has_claim C i p ≡ false
  no_claim d = fails (has_claim C i p) (λ e. d (is_claim e))

  lost_claim : has_claim C i p ≡ false → Claim ports n i → ⊥
  lost_claim e c = true≢false (sym (claim_is c) ∙ e)

  pub claim_or_not : Claim ports n i ⊎ (Claim ports n i → ⊥)
  claim_or_not = go (has_claim C i p) refl
    where
      go : (c : Bool) → has_claim C i p ≡ c → Claim ports n i ⊎ (Claim ports n i → ⊥)
      go true e = inl (is_claim e)
      go false e = inr (lost_claim e)

  -- a port without its claim is no candidate, or another port is OK under its number
  pub really_lost : (Claim ports n i → ⊥) → (is_candidate p ≡ false) ⊎ Other ports n i
  really_lost d = go (is_candidate p) refl
    where
      go : (c : Bool) → is_candidate p ≡ c → (is_candidate p ≡ false) ⊎ Other ports n i
      go false c = inl c
      go true c =
          let lost = claim_lost C i p (no_claim d) c in
          let o : OkUnder ports n p.number (holder_of C p.number) = ok_after ports n p.number (holder_of C p.number) small apart refl lost.0 in
          inr (record { at = holder_of C p.number; below = o.below; ok = o.ok; same = o.same; other = lost.1 })

  module _ (live : is_idle p ≡ false) where
    claimed : Claim ports n i → standing_at ports n i ≡ with_claim p
    claimed c = standing_is ports n i small b ∙ left_claim C i p live (claim_is c)

    unclaimed : (Claim ports n i → ⊥) → standing_at ports n i ≡ without_claim C i p
    unclaimed d = standing_is ports n i small b ∙ left_lost C i p live (no_claim d)

    -- Hold-off. A port that was OK and has its claim is OK under its new number, and no timer runs;
    pub hold_claim : p.state ≡ ok_state → Claim ports n i → standing_at ports n i ≡ standing ok_state p.number 0
    hold_claim s c = claimed c ∙ with_rested p (ok_rested p s)

    -- without it, as long as hold-off is left, it is OK under its old number, and the counter is one more;
    pub hold_kept : Low ports n → p.state ≡ ok_state → (Claim ports n i → ⊥) → p.elapsed < p.hold_off
        → standing_at ports n i ≡ standing ok_state p.state_number (p.elapsed + 1)
    unfolding chosen_of
    hold_kept low s d r =
        let h : holder_of (kept_numbers ports n) p.state_number ≡ i = is_kept ports n small apart i b (has_left_lem p s r (low i b s) live) (no_claim d) in
        let kept : holder_of C p.state_number ≡ i =
        holders_kept ports n (kept_numbers ports n) p.state_number (λ (z : holder_of (kept_numbers ports n) p.state_number ≡ FREE). let w : i ≡ FREE = sym h ∙ z in omega arith)
        ∙ h in
        unclaimed d ∙ without_kept C i p (keeps C i p s r kept)

    -- and FAIL at the report at which the counter has reached the hold-off.
    pub hold_over : (Claim ports n i → ⊥) → p.hold_off ≤ p.elapsed → standing_at ports n i ≡ standing fail_state p.number 0
    hold_over d r = unclaimed d ∙ without_failed C i p (keeps_not C i p r)

    -- 'An OK port that loses its claim goes FAIL only when it has stayed so for the hold-off': then, and only then
    pub hold_exactly : Low ports n → p.state ≡ ok_state
        → ((standing_at ports n i).state ≡ fail_state → (Claim ports n i → ⊥) × (p.hold_off ≤ p.elapsed))
        × ((Claim ports n i → ⊥) × (p.hold_off ≤ p.elapsed) → (standing_at ports n i).state ≡ fail_state)
    hold_exactly low s = (only, λ w. ap (λ (t : Standing). t.state) (hold_over w.0 w.1))
      where
        only : (standing_at ports n i).state ≡ fail_state → (Claim ports n i → ⊥) × (p.hold_off ≤ p.elapsed)
        only f =
            ⊎_elim (λ (c : Claim ports n i). let w : ok_state ≡ fail_state = sym (ap (λ (t : Standing). t.state) (hold_claim s c)) ∙ f in absurd (omega arith))
            (λ (d : Claim ports n i → ⊥).
            ⊎_elim (λ (o : p.hold_off ≤ p.elapsed). (d, o))
            (λ (r : p.elapsed < p.hold_off). let w : ok_state ≡ fail_state = sym (ap (λ (t : Standing). t.state) (hold_kept low s d r)) ∙ f in absurd (omega arith))
            (le_or_lt p.hold_off p.elapsed))
            claim_or_not

    -- Restoring. A port that was FAIL and has had its claim long enough is OK;
    pub restore_over : Claim ports n i → p.restore ≤ p.elapsed → standing_at ports n i ≡ standing ok_state p.number 0
    restore_over c r = claimed c ∙ with_rested p (rested p r)

    -- until then it is FAIL, and the counter is one more;
    pub restore_waits : p.state ≡ fail_state → Claim ports n i → p.elapsed < p.restore → standing_at ports n i ≡ standing fail_state p.number (p.elapsed + 1)
    restore_waits s c r = claimed c ∙ with_restoring p (restoring p s r)

    -- without its claim it begins anew.
    pub restore_lost : p.state ≢ ok_state → (Claim ports n i → ⊥) → standing_at ports n i ≡ standing fail_state p.number 0
    restore_lost s d = unclaimed d ∙ without_failed C i p (keeps_none C i p s)

    -- 'A FAIL port goes OK only when its claim has stood for the wait-to-restore': then, and only then
    pub restore_exactly : p.state ≡ fail_state
        → ((standing_at ports n i).state ≡ ok_state → Claim ports n i × (p.restore ≤ p.elapsed))
        × (Claim ports n i × (p.restore ≤ p.elapsed) → (standing_at ports n i).state ≡ ok_state)
    restore_exactly s = (only, λ w. ap (λ (t : Standing). t.state) (restore_over w.0 w.1))
      where
        only : (standing_at ports n i).state ≡ ok_state → Claim ports n i × (p.restore ≤ p.elapsed)
        only f =
            ⊎_elim
            (λ (c : Claim ports n i).
            ⊎_elim (λ (o : p.restore ≤ p.elapsed). (c, o))
            (λ (r : p.elapsed < p.restore). let w : fail_state ≡ ok_state = sym (ap (λ (t : Standing). t.state) (restore_waits s c r)) ∙ f in absurd (omega arith))
            (le_or_lt p.restore p.elapsed))
            (λ (d : Claim ports n i → ⊥).
            let w : fail_state ≡ ok_state = sym (ap (λ (t : Standing). t.state) (restore_lost (λ (z : p.state ≡ ok_state). omega arith) d)) ∙ f in
            absurd (omega arith))
            claim_or_not

    -- From IDLE both ways are at once: hold-off is of OK ports, restoring of FAIL ones.
    pub idle_to_ok : p.state ≡ idle_state → Claim ports n i → standing_at ports n i ≡ standing ok_state p.number 0
    idle_to_ok s c = claimed c ∙ with_rested p (rw s)

    pub idle_to_fail : p.state ≡ idle_state → (Claim ports n i → ⊥) → standing_at ports n i ≡ standing fail_state p.number 0
    idle_to_fail s d = restore_lost (λ (z : p.state ≡ ok_state). omega arith) d

  -- 'Candidates that were OK under the same number choose first': such a one stays OK, whoever else asks for its number
  pub was_ok_stays : is_candidate p ≡ true → was_ok p ≡ true → standing_at ports n i ≡ standing ok_state p.number 0
  unfolding chosen_of
  was_ok_stays c w =
      standing_is ports n i small b
      ∙ left_claim C i p (candidate_not_idle p c)
      (claim_own C i p c (keeps_own ports n (kept_numbers ports n) i small apart (kept_by_lem ports n) b c (was_state p w) (was_number p w)))
      ∙ with_rested p (ok_rested p (was_state p w))

  -- 'One whose number is still free becomes OK; all else are FAIL': a candidate is FAIL only where another port is OK with its number, or where it
  -- waits to restore
  pub fail_other : is_candidate p ≡ true → (standing_at ports n i).state ≡ fail_state → (is_restoring p ≡ true) ⊎ Other ports n i
  fail_other c f = go (is_restoring p) refl
    where
      go : (r : Bool) → is_restoring p ≡ r → (is_restoring p ≡ true) ⊎ Other ports n i
      go true r = inl r
      go false r =
          inr
          (⊎_elim (λ (none : is_candidate p ≡ false). absurd (true≢false (sym c ∙ none))) (λ (o : Other ports n i). o)
          (really_lost
          (λ (k : Claim ports n i).
          let w : ok_state ≡ fail_state = sym (ap (λ (t : Standing). t.state) (claimed (candidate_not_idle p c) k ∙ with_rested p r)) ∙ f in
          omega arith)))

  -- 'During hold-off the port keeps its number against others': nobody else is OK under it
  pub against_others : (standing_at ports n i).state ≡ ok_state → (j : ℕ) → j < n → j ≢ i → (standing_at ports n j).state ≡ ok_state
      → (standing_at ports n j).number ≢ (standing_at ports n i).number
  against_others ok j bj d okj same = d (ok_apart ports n j i small bj b okj ok same)

-- 'Never are both running for one port (source document 002, annex C).'
pub never_both : (s : Standing) → InHoldOff s → InRestoring s → ⊥
never_both s h r = let e = h.0 in let f = r.0 in omega arith

still : (p : Port) (state : ℕ) → Timed p (standing state p.number 0)
still p state = record { idle = λ e. refl; holding = λ w. absurd (let z = w.1 in omega arith); restoring = λ w. absurd (let z = w.1 in omega arith) }

module _ (C : List ℕ) (i : ℕ) (p : Port) where
  timed_with : (r : Bool) → is_restoring p ≡ r → Timed p (with_claim p)
  timed_with true r =
      rw (with_restoring p r)
      (record {
        idle = λ (e : fail_state ≡ idle_state). absurd (omega arith);
        holding = λ w. absurd (let z : fail_state ≡ ok_state = w.0 in omega arith);
        restoring = λ w. (restoring_fail p r, let z = restoring_left p r in omega arith);
      })
  timed_with false r = rw (with_rested p r) (still p ok_state)

  timed_without : (k : Bool) → keeps_number C i p ≡ k → Timed p (without_claim C i p)
  timed_without true k =
      rw (without_kept C i p k)
      (record {
        idle = λ (e : ok_state ≡ idle_state). absurd (omega arith);
        holding = λ w. (keeps_state_lem C i p k, refl, let z = keeps_elapsed C i p k in omega arith);
        restoring = λ w. absurd (let z : ok_state ≡ fail_state = w.0 in omega arith);
      })
  timed_without false k = rw (without_failed C i p k) (still p fail_state)

  timed_live : (c : Bool) → has_claim C i p ≡ c → is_idle p ≡ false → Timed p (standing_by C i p)
  timed_live true c e = rw (left_claim C i p e c) (timed_with (is_restoring p) refl)
  timed_live false c e = rw (left_lost C i p e c) (timed_without (keeps_number C i p) refl)

  timed_any : (a : Bool) → is_idle p ≡ a → Timed p (standing_by C i p)
  timed_any true e = rw (left_idle C i p e) (still p idle_state)
  timed_any false e = timed_live (has_claim C i p) refl e

pub timed : (ports : List Port) (n i : ℕ) → n ≤ 64 → i < n → Timed (port_at ports i) (standing_at ports n i)
timed ports n i small b =
    rw (standing_is ports n i small b) (timed_any (chosen_of ports n) i (port_at ports i) (is_idle (port_at ports i)) refl)
