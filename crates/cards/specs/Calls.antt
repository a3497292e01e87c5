-- The calls that change a card, and what each gives.
use Rattle.std.specs.Prelude.{ℕ}
use Rattle.sender.specs.Calls.{Call as T}
use Rattle.sender.specs.Epochs.{SenderCall as E}
use Rattle.cards.specs.declared.card.Card.{Card}
use Rattle.cards.specs.Answers.{CardOutcome}
use Rattle.cards.specs.Commands.{claim_of, command_of, group_call_of, release_of}

pub data Call : Type 0 where
  Claim : ℕ → Call
  Release : ℕ → Call
  AddSlot : ℕ → Call
  RemoveSlot : ℕ → Call
  Report : (epoch mst ack : ℕ) → Call
  Lapse : Call
  StartEpoch : (gid mst ack : ℕ) → Call

abbrev pub outcome_of : (c : Card) (group : ℕ) (call : Call) → CardOutcome
outcome_of c g (Claim i) = claim_of c g i
outcome_of c g (Release i) = release_of c g i
outcome_of c g (AddSlot i) = command_of c g i (E.OnTable (T.AddSlot i))
outcome_of c g (RemoveSlot i) = command_of c g i (E.OnTable (T.RemoveSlot i))
outcome_of c g (Report e mst ack) = group_call_of c g (E.OnTable (T.Report e mst ack))
outcome_of c g Lapse = group_call_of c g (E.OnTable T.Lapse)
outcome_of c g (StartEpoch gid mst ack) = group_call_of c g (E.StartEpoch gid mst ack)
