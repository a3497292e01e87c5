-- Start, claim and release, and what the other calls ask first (02, 2026-06): 'order 1, 14, 15, 3, 2'.
use Rattle.std.specs.Prelude.{ℕ, replicate, if◌then◌else◌}
use Rattle.ground.specs.Plain.{◌<?◌}
use Rattle.sender.specs.Epochs.{SenderCall, begin_of, sender_outcome_of}
use Rattle.cards.specs.Answers.Answer.{NoSlot, Owned, Used}
use Rattle.cards.specs.declared.card.Card.{Card}
use Rattle.cards.specs.Answers.{CardOutcome, from_sender}
use Rattle.cards.specs.Owners.{has_owner, mark_of}
use Rattle.cards.specs.Parts.{group_outcome, is_slot, is_used, marked, owns, refused, sender_of}

-- a first epoch for each group, no slot owned; a count out of range is 4, and both groups are empty
unfoldable pub start_of : (kind count e₀ e₁ : ℕ) → CardOutcome
start_of kind count e₀ e₁ =
    record {
      card = record { owners = replicate 64 0; first = (begin_of kind count e₀).sender; second = (begin_of kind count e₁).sender };
      answer = from_sender (begin_of kind count e₀).answer;
    }

-- '14, .. on claim already owned by anyone', also by the group itself
unfoldable pub claim_of : (c : Card) (group slot : ℕ) → CardOutcome
claim_of c g i = if is_slot c g i then (if has_owner c.owners i then refused c Owned else marked c i (mark_of g)) else refused c NoSlot

-- 1, then 14: 'slot owned by another group', and 'A command on a slot nobody owns is 14'
abbrev pub of_own : (c : Card) (group slot : ℕ) (r : CardOutcome) → CardOutcome
of_own c g i r = if is_slot c g i then (if owns c g i then r else refused c Owned) else refused c NoSlot

-- '15, release of a slot that isn't IDLE'
unfoldable pub release_of : (c : Card) (group slot : ℕ) → CardOutcome
release_of c g i = of_own c g i (if is_used c g i then refused c Used else marked c i 0)

abbrev pub sent_of : (c : Card) (group : ℕ) (k : SenderCall) → CardOutcome
sent_of c g k = group_outcome c g (sender_outcome_of (sender_of c g) k)

-- a command on a slot: 1, 14, then the sender's 3, 2
unfoldable pub command_of : (c : Card) (group slot : ℕ) (k : SenderCall) → CardOutcome
command_of c g i k = of_own c g i (sent_of c g k)

-- a call on the whole group: 1 for the group, then as the sender has it
unfoldable pub group_call_of : (c : Card) (group : ℕ) (k : SenderCall) → CardOutcome
group_call_of c g k = if g <? 2 then sent_of c g k else refused c NoSlot
