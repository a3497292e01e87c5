-- A group's part of the card, and what is asked of a slot before the sender's own calls (02, 2026-06).
use Rattle.std.specs.Prelude.{Bool, ◌&&◌, ℕ, if◌then◌else◌, ◌==◌}
use Rattle.ground.specs.Plain.{◌<?◌}
use Rattle.sender.specs.declared.epochs.Sender.{Sender}
use Rattle.sender.specs.Answers.{SenderOutcome}
use Rattle.sender.specs.Epochs.{begin_of}
use Rattle.sender.specs.Table.{is_member, slot_count, slot_at}
use Rattle.cards.specs.Answers.{Answer, CardOutcome, from_sender}
use Rattle.cards.specs.Answers.Answer.{Done, NoSlot, Owned}
use Rattle.cards.specs.declared.card.Card.{Card}
use Rattle.cards.specs.Owners.{is_marked, with_owner}

-- groups are 0 and 1
unfoldable pub sender_of : Card → ℕ → Sender
sender_of c g = if g == 0 then c.first else c.second

unfoldable pub with_sender : (c : Card) (group : ℕ) (s : Sender) → Card
with_sender c g s =
    if g == 0 then (record { owners = c.owners; first = s; second = c.second }) else (record { owners = c.owners; first = c.first; second = s })

-- what no group is shown
unfoldable pub empty_sender : Sender
empty_sender = (begin_of 0 0 0).sender

unfoldable pub shown_sender : Card → ℕ → Sender
shown_sender c g = if g <? 2 then sender_of c g else empty_sender

-- 1: 'a group other than the two', or a slot not below that group's own count
unfoldable pub is_slot : (c : Card) (group slot : ℕ) → Bool
is_slot c g i = g <? 2 && i <? slot_count (sender_of c g).table.count

unfoldable pub owns : (c : Card) (group slot : ℕ) → Bool
owns c g i = is_marked c.owners g i

-- what is asked of a slot first: 1, and of a command 14
abbrev pub slot_answer : (c : Card) (group slot : ℕ) → Answer
slot_answer c g i = if is_slot c g i then Done else NoSlot

abbrev pub own_answer : (c : Card) (group slot : ℕ) → Answer
own_answer c g i = if is_slot c g i then (if owns c g i then Done else Owned) else NoSlot

-- not IDLE in the group's table
unfoldable pub is_used : (c : Card) (group slot : ℕ) → Bool
is_used c g i = is_member (slot_at (sender_of c g).table.slots i).state

abbrev pub refused : Card → Answer → CardOutcome
refused c a = record { card = c; answer = a }

-- slot i has another owner, and all else stays
unfoldable pub marked : (c : Card) (slot mark : ℕ) → CardOutcome
marked c i m = record { card = record { owners = with_owner c.owners i m; first = c.first; second = c.second }; answer = Done }

-- a call of the group's sender, and all else stays
unfoldable pub group_outcome : (c : Card) (group : ℕ) (r : SenderOutcome) → CardOutcome
group_outcome c g r = record { card = with_sender c g r.sender; answer = from_sender r.answer }
