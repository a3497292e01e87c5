-- A call goes one of three ways: it is refused, it gives a slot another owner, or it is a call of the group's sender. The latter two are those of the groups 0 and 1 alone.
use Rattle.std.specs.Prelude.{ℕ, ◌<◌, ltb}
use Rattle.std.proofs.Common.{ltb-true}
use Rattle.ground.specs.Truth.{cond_by}
use Rattle.sender.specs.Epochs.{SenderCall}
use Rattle.cards.specs.Answers.{Answer, CardOutcome}
use Rattle.cards.specs.Answers.Answer.{NoSlot, Owned, Used}
use Rattle.cards.specs.declared.card.Card.{Card}
use Rattle.cards.specs.Calls.{Call, outcome_of}
use Rattle.cards.specs.Calls.Call.{Claim, Release, AddSlot, RemoveSlot, Report, Lapse, StartEpoch}
use Rattle.cards.specs.Commands.{claim_of, command_of, group_call_of, release_of, sent_of}
use Rattle.cards.specs.Laws.EachCall.{slot_group}
use Rattle.cards.specs.Owners.{has_owner, mark_of}
use Rattle.cards.specs.Parts.{is_slot, is_used, marked, owns, refused}

module _ (Q : CardOutcome → Type 0) (c : Card) (g : ℕ) (no_way : (a : Answer) → Q (refused c a)) (mark : (i m : ℕ) → g < 2 → Q (marked c i m)) (send : (k : SenderCall) → g < 2 → Q (sent_of c g k)) where
  by_claim : (i : ℕ) → Q (claim_of c g i)
  unfolding claim_of
  by_claim i =
      cond_by Q (is_slot c g i) _ _
      (λ s. cond_by Q (has_owner c.owners i) _ _ (λ o. no_way Owned) (λ o. mark i (mark_of g) (slot_group c g i s)))
      (λ s. no_way NoSlot)

  by_release : (i : ℕ) → Q (release_of c g i)
  unfolding release_of
  by_release i =
      cond_by Q (is_slot c g i) _ _
      (λ s. cond_by Q (owns c g i) _ _ (λ o. cond_by Q (is_used c g i) _ _ (λ u. no_way Used) (λ u. mark i 0 (slot_group c g i s))) (λ o. no_way Owned))
      (λ s. no_way NoSlot)

  by_command : (i : ℕ) (k : SenderCall) → Q (command_of c g i k)
  unfolding command_of
  by_command i k =
      cond_by Q (is_slot c g i) _ _ (λ s. cond_by Q (owns c g i) _ _ (λ o. send k (slot_group c g i s)) (λ o. no_way Owned)) (λ s. no_way NoSlot)

  by_group_call : (k : SenderCall) → Q (group_call_of c g k)
  unfolding group_call_of
  by_group_call k = cond_by Q (ltb g 2) _ _ (λ l. send k (ltb-true g 2 l)) (λ l. no_way NoSlot)

  pub by_ways : (k : Call) → Q (outcome_of c g k)
  by_ways (Claim i) = by_claim i
  by_ways (Release i) = by_release i
  by_ways (AddSlot i) = by_command i _
  by_ways (RemoveSlot i) = by_command i _
  by_ways (Report e mst ack) = by_group_call _
  by_ways Lapse = by_group_call _
  by_ways (StartEpoch gid mst ack) = by_group_call _
