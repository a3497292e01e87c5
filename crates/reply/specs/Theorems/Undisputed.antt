-- Ports that are IDLE, or candidates under numbers of their own of which none waits to restore: each candidate is OK under its number at once.
-- The idea: in the first round each gets its number, so all have their claims, nobody has to keep an old number, and there is no second round.
use Rattle.std.specs.Prelude.{◌≡◌, refl, ◌≢◌, true, false, not, ℕ, ◌≤◌, ◌<◌}
use Rattle.std.proofs.Common.{sym, ◌∙◌, ⊎_elim, true≢false}
use Rattle.std.proofs.Math.Path.{ap}
use mathlib.Core.List.{List}
use Rattle.std.proofs.lemmas.List.{length-replicate}
use Rattle.ground.specs.Truth.{and_left, fails}
use Rattle.ground.specs.Counting.Laws.Tests.{some_none}
use Rattle.reply.specs.Members.{has_hold_off, is_idle, ok_state, port_at}
use Rattle.reply.specs.Reports.{Undisputed}
use Rattle.reply.specs.Theorems.Keeping.{all_free_lem, rounds_still}
use Rattle.reply.specs.declared.members.Port.{Port}
use Rattle.reply.specs.Choosing.{FREE, all_free, holder_of, holders}
use Rattle.reply.specs.Laws.Choosing.{Chosen, holders_after, holders_from}
use Rattle.reply.specs.Laws.Claims.{claim_own, left_claim, with_rested}
use Rattle.reply.specs.Laws.Members.{candidate_not_idle, left_not_idle}
use Rattle.reply.specs.Theorems.States.{standing_is}
use Rattle.reply.specs.Waiting.{chosen_of, has_claim, joins_kept, kept_numbers, must_keep, some_join, standing, standing_at}

module _ (ports : List Port) (n : ℕ) (small : n ≤ 64) (o : Undisputed ports n) where
  abbrev first : List ℕ
  first = holders ports n all_free

  gets_own : (i : ℕ) → i < n → is_idle (port_at ports i) ≡ false → holder_of first (port_at ports i).number ≡ i
  gets_own i b live =
      let x : ℕ = holder_of first (port_at ports i).number in
      let some : x ≢ FREE = holders_after ports n all_free i (length-replicate {A = ℕ} 64 FREE) small b (o.candidate i b live) (o.rested i b live) in
      ⊎_elim (λ (f : holder_of all_free (port_at ports i).number ≡ x). absurd (some (sym f ∙ all_free_lem (port_at ports i).number)))
      (λ (c : Chosen ports n (port_at ports i).number x). o.own x i c.below b (candidate_not_idle (port_at ports x) c.candidate) live c.same)
      (holders_from ports n all_free (port_at ports i).number x (length-replicate {A = ℕ} 64 FREE) refl)

  has_claim_lem : (i : ℕ) → i < n → is_idle (port_at ports i) ≡ false → has_claim first i (port_at ports i) ≡ true
  has_claim_lem i b live = claim_own first i (port_at ports i) (o.candidate i b live) (gets_own i b live)

  none_keeps : (i : ℕ) → i < n → joins_kept first all_free i (port_at ports i) ≡ false
  none_keeps i b =
      fails (joins_kept first all_free i (port_at ports i)) (λ j.
      let m : must_keep first i (port_at ports i) ≡ true = and_left (must_keep first i (port_at ports i)) _ j in
      let h : has_hold_off (port_at ports i) ≡ true = and_left (has_hold_off (port_at ports i)) (not (has_claim first i (port_at ports i))) m in
      true≢false (sym m ∙ rw (has_claim_lem i b (left_not_idle (port_at ports i) h), h) refl))

  kept_none : kept_numbers ports n ≡ all_free
  unfolding kept_numbers some_join
  kept_none = rounds_still ports n n all_free (some_none n (λ i. joins_kept first all_free i (port_at ports i)) none_keeps)

  chosen_is : chosen_of ports n ≡ first
  unfolding chosen_of
  chosen_is = ap (λ (k : List ℕ). holders ports n k) kept_none

  pub ok_at_once : (i : ℕ) → i < n → is_idle (port_at ports i) ≡ false → standing_at ports n i ≡ standing ok_state (port_at ports i).number 0
  ok_at_once i b live =
      standing_is ports n i small b
      ∙ left_claim (chosen_of ports n) i (port_at ports i) live (ap (λ (c : List ℕ). has_claim c i (port_at ports i)) chosen_is ∙ has_claim_lem i b live)
      ∙ with_rested (port_at ports i) (o.rested i b live)
