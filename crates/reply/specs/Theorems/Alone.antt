-- A port alone: what a report leaves of it hangs on itself, and so does RS-Ack.
use Rattle.std.specs.Prelude.{◌≡◌, ◌⊎◌, Bool, cond, not, ◌&&◌, List, [], ◌∷◌, get_or, length, replicate, set}
use Rattle.std.proofs.Math.Path.{refl}
use Rattle.std.proofs.Common.{◌∙◌, sym, ap, arith}
use Rattle.std.proofs.Math.Logic.{inl, inr, ⊎_elim}
use Rattle.std.proofs.Math.Bool.{true, false}
use Prim.Native.Nat.{ℕ, ◌+◌, ◌<◌}
use Rattle.std.proofs.Math.Dec.{eqb}
use Rattle.std.proofs.lemmas.List.{length-replicate}
use Rattle.ground.specs.Truth.{and_left, same_test}
use Rattle.ground.specs.Counting.Each.{get_or_each}
use Rattle.reply.specs.Choosing.{FREE, all_free, chooses, claims, grant, granted, holder_of, holders}
use Rattle.reply.specs.Laws.Choosing.{Chosen, holders_from}
use Rattle.reply.specs.Laws.Claims.{claim_free, claim_none, claim_own, keeps, keeps_own, left_claim, left_idle, left_lost}
use Rattle.reply.specs.Laws.Granting.{grant_from, grant_holds, length_grant}
use Rattle.reply.specs.Laws.Members.{left_elapsed, left_low, left_ok}
use Rattle.reply.specs.Members.{fail_state, has_hold_off, idle_state, is_candidate, is_idle, ok_state, port_at}
use Rattle.reply.specs.Telling.{ack_of, turns_over}
use Rattle.reply.specs.Theorems.Keeping.{all_free_lem}
use Rattle.reply.specs.Waiting.{chosen_of, has_claim, keeps_number, kept_numbers, more_kept, must_keep, no_standing, rounds, some_join, standing, standing_by, standings_of, with_claim}
use Rattle.reply.specs.declared.members.Port.{Port}
use Rattle.reply.specs.declared.waiting.Standing.{Standing}

-- nobody can take its number: it has its claim where it is a candidate, and keeps its number where it has hold-off left
unfoldable pub alone_leaves : Port → Standing
alone_leaves p =
    cond (is_idle p) (standing idle_state p.number 0)
    (cond (is_candidate p) (with_claim p) (cond (has_hold_off p) (standing ok_state p.state_number (p.elapsed + 1)) (standing fail_state p.number 0)))

twice : (b : Bool) (x y : List ℕ) → cond b (cond b x y) y ≡ cond b x y
twice true x y = refl
twice false x y = refl

grant_none : (asks : Bool) (q : ℕ) (h : List ℕ) (i : ℕ) → asks ≡ false → grant asks q h i ≡ h
unfolding grant
grant_none asks q h i e = rw e refl

module _ (ports : List Port) where
  abbrev p : Port
  p = port_at ports 0

  abbrev must : Bool
  must = must_keep (holders ports 1 all_free) 0 p

  kept_alone : kept_numbers ports 1 ≡ grant must p.state_number all_free 0
  unfolding kept_numbers rounds some_join more_kept granted grant
  kept_alone = twice (must && eqb (holder_of all_free p.state_number) FREE) (set all_free p.state_number 0) all_free

  length_kept : length (kept_numbers ports 1) ≡ 64
  length_kept = ap (λ (l : List ℕ). length l) kept_alone ∙ length_grant must p.state_number all_free 0 ∙ length-replicate {A = ℕ} 64 FREE

  must_left : must ≡ true → has_hold_off p ≡ true
  must_left e = and_left (has_hold_off p) (not (has_claim (holders ports 1 all_free) 0 p)) e

  kept_own : (q : ℕ) → (holder_of (kept_numbers ports 1) q ≡ FREE) ⊎ (holder_of (kept_numbers ports 1) q ≡ 0)
  kept_own q =
      let same : holder_of (kept_numbers ports 1) q ≡ holder_of (grant must p.state_number all_free 0) q = ap (λ (l : List ℕ). holder_of l q) kept_alone in
      ⊎_elim (λ (e : holder_of all_free q ≡ holder_of (grant must p.state_number all_free 0) q). inl (same ∙ sym e ∙ all_free_lem q))
      (λ (e : (0 ≡ holder_of (grant must p.state_number all_free 0) q) × (must ≡ true) × (p.state_number ≡ q)). inr (same ∙ sym e.0))
      (grant_from must p.state_number all_free 0 q (holder_of (grant must p.state_number all_free 0) q) (length-replicate {A = ℕ} 64 FREE)
      (λ (m : must ≡ true). left_low p (must_left m)) refl)

  chosen_own : (q : ℕ) → (holder_of (chosen_of ports 1) q ≡ FREE) ⊎ (holder_of (chosen_of ports 1) q ≡ 0)
  unfolding chosen_of
  chosen_own q =
      let x : ℕ = holder_of (holders ports 1 (kept_numbers ports 1)) q in
      ⊎_elim
      (λ (e : holder_of (kept_numbers ports 1) q ≡ x).
      ⊎_elim (λ (f : holder_of (kept_numbers ports 1) q ≡ FREE). inl (sym e ∙ f)) (λ (f : holder_of (kept_numbers ports 1) q ≡ 0). inr (sym e ∙ f)) (kept_own q))
      (λ (c : Chosen ports 1 q x). let b : x < 1 = c.below in inr (omega arith))
      (holders_from ports 1 (kept_numbers ports 1) q x length_kept refl)

  claims_alone : is_candidate p ≡ true → has_claim (chosen_of ports 1) 0 p ≡ true
  claims_alone c =
      ⊎_elim (λ (e : holder_of (chosen_of ports 1) p.number ≡ FREE). claim_free (chosen_of ports 1) 0 p c e)
      (λ (e : holder_of (chosen_of ports 1) p.number ≡ 0). claim_own (chosen_of ports 1) 0 p c e)
      (chosen_own p.number)

  module _ (lost : is_candidate p ≡ false) where
    chosen_kept : chosen_of ports 1 ≡ grant must p.state_number all_free 0
    unfolding chosen_of holders claims granted
    chosen_kept =
        grant_none (chooses false p) p.number (grant (chooses true p) p.number (kept_numbers ports 1) 0) 0 (rw lost refl)
        ∙ grant_none (chooses true p) p.number (kept_numbers ports 1) 0 (rw lost refl)
        ∙ kept_alone

    must_is : must ≡ (has_hold_off p && true)
    must_is = rw (claim_none (holders ports 1 all_free) 0 p lost) refl

    must_keep_lem : has_hold_off p ≡ true → must ≡ true
    must_keep_lem e = must_is ∙ rw e refl

    holder : holder_of (chosen_of ports 1) p.state_number ≡ holder_of (grant must p.state_number all_free 0) p.state_number
    holder = ap (λ (l : List ℕ). holder_of l p.state_number) chosen_kept

    to : keeps_number (chosen_of ports 1) 0 p ≡ true → has_hold_off p ≡ true
    to k =
        ⊎_elim
        (λ (e : holder_of all_free p.state_number ≡ 0). absurd (let z : FREE ≡ 0 = sym (all_free_lem p.state_number) ∙ e in omega arith))
        (λ (e : (0 ≡ 0) × (must ≡ true) × (p.state_number ≡ p.state_number)). must_left e.1)
        (grant_from must p.state_number all_free 0 p.state_number 0 (length-replicate {A = ℕ} 64 FREE)
        (λ (m : must ≡ true). left_low p (must_left m)) (sym holder ∙ keeps_own (chosen_of ports 1) 0 p k))

    back : has_hold_off p ≡ true → keeps_number (chosen_of ports 1) 0 p ≡ true
    back e =
        keeps (chosen_of ports 1) 0 p (left_ok p e) (left_elapsed p e)
        (holder ∙ grant_holds must p.state_number all_free 0 (length-replicate {A = ℕ} 64 FREE) (left_low p e) (must_keep_lem e) (all_free_lem p.state_number))

    keeps_alone : keeps_number (chosen_of ports 1) 0 p ≡ has_hold_off p
    keeps_alone = same_test _ _ to back

  leaves_alone : standing_by (chosen_of ports 1) 0 p ≡ alone_leaves p
  unfolding alone_leaves
  leaves_alone = go (is_idle p) (is_candidate p) refl refl
    where
      go : (i c : Bool) → is_idle p ≡ i → is_candidate p ≡ c → standing_by (chosen_of ports 1) 0 p ≡ alone_leaves p
      go true c ei ec = left_idle (chosen_of ports 1) 0 p ei ∙ rw ei refl
      go false true ei ec = left_claim (chosen_of ports 1) 0 p ei (claims_alone ec) ∙ rw (ec, ei) refl
      go false false ei ec =
          left_lost (chosen_of ports 1) 0 p ei (claim_none (chosen_of ports 1) 0 p ec) ∙ rw (keeps_alone ec, ec, ei) refl

  pub standing_alone : get_or (standings_of ports 1) 0 no_standing ≡ alone_leaves p
  unfolding standings_of
  standing_alone =
      get_or_each 1 (λ (i : ℕ). standing_by (chosen_of ports 1) i (port_at ports i)) (replicate 64 no_standing) 0 no_standing (omega arith)
      (rw (length-replicate {A = Standing} 64 no_standing) (omega arith))
      ∙ leaves_alone

-- nothing but the first port is asked for
module _ (ports : List Port) where
  pub leaves_first : get_or (standings_of (port_at ports 0 ∷ []) 1) 0 no_standing ≡ get_or (standings_of ports 1) 0 no_standing
  leaves_first = standing_alone (port_at ports 0 ∷ []) ∙ sym (standing_alone ports)

  pub ack_first : (bit : ℕ) → ack_of (port_at ports 0 ∷ []) 1 bit ≡ ack_of ports 1 bit
  unfolding ack_of turns_over
  ack_first bit = refl
