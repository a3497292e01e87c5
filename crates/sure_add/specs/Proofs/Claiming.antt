-- A candidate at a report: with its claim it is what its waiting leaves of it, and where it does not wait to restore some OK port holds its number afterwards, itself or another.
use Rattle.std.specs.Prelude.{◌≡◌, true, false, List, ℕ, ◌≤◌, ◌<◌}
use Rattle.std.proofs.Common.{sym, ap, ◌∙◌, ⊎_elim, true≢false, arith}
use Rattle.reply.specs.Reports.{Apart, Claim, Other}
use Rattle.reply.specs.Theorems.Waiting.{claim_is, claim_or_not, really_lost, restore_over}
use Rattle.reply.specs.declared.members.Port.{Port}
use Rattle.reply.specs.declared.waiting.Standing.{Standing}
use Rattle.reply.specs.Laws.Claims.{left_claim}
use Rattle.reply.specs.Laws.Members.{candidate_not_idle}
use Rattle.reply.specs.Members.{is_candidate, port_at}
use Rattle.reply.specs.Theorems.States.{Holder, standing_is}
use Rattle.reply.specs.Waiting.{chosen_of, standing_at, with_claim}

module _ (ports : List Port) (n : ℕ) (small : n ≤ 64) (apart : Apart ports n) (i : ℕ) (b : i < n) where
  abbrev p : Port
  p = port_at ports i

  pub claimed : Claim ports n i → standing_at ports n i ≡ with_claim p
  claimed c = standing_is ports n i small b ∙ left_claim (chosen_of ports n) i p (candidate_not_idle p c.candidate) (claim_is ports n small apart i b c)

  pub has_holder_lem : is_candidate p ≡ true → p.restore ≡ 0 → Holder ports n p.number
  has_holder_lem c r =
      ⊎_elim
      (λ (k : Claim ports n i).
      let e = restore_over ports n small apart i b (candidate_not_idle p c) k (omega arith) in
      record { at = i; below = b; ok = ap (λ (s : Standing). s.state) e; same = ap (λ (s : Standing). s.number) e })
      (λ (d : Claim ports n i → ⊥).
      ⊎_elim (λ (none : is_candidate p ≡ false). absurd (true≢false (sym c ∙ none)))
      (λ (o : Other ports n i). record { at = o.at; below = o.below; ok = o.ok; same = o.same })
      (really_lost ports n small apart i b d))
      (claim_or_not ports n small apart i b)
