-- What is read of a group: packets and payload of its own slots, its boards and ranks of all slots, and which slots it owns.
use Rattle.std.specs.Prelude.{◌&&◌, ℕ, if◌then◌else◌}
use Rattle.ground.specs.Types.{Bytes}
use Rattle.sender.specs.Board.{board_of}
use Rattle.sender.specs.Epochs as E
use Rattle.cards.specs.Answers.{Answer, BoardOutcome, OwnedOutcome, RanksOutcome, group_answer, from_sender}
use Rattle.cards.specs.Answers.Answer.{NoSlot, Owned}
use Rattle.cards.specs.declared.card.Card.{Card}
use Rattle.cards.specs.Owners.{owned_bytes}
use Rattle.cards.specs.Parts.{is_slot, owns, sender_of, shown_sender}

-- 1, 14, then as the sender has it
unfoldable pub packet_answer : (c : Card) (group slot : ℕ) (h4 : Bytes) → Answer
packet_answer c g i h4 = if is_slot c g i then (if owns c g i then from_sender (E.packet_answer (sender_of c g) i h4) else Owned) else NoSlot

unfoldable pub packet_bytes : (c : Card) (group slot : ℕ) (h4 : Bytes) → Bytes
packet_bytes c g i h4 = if is_slot c g i && owns c g i then E.packet_bytes (sender_of c g) i h4 else h4

unfoldable pub payload_answer : (c : Card) (group slot P frame member : ℕ) → Answer
payload_answer c g i P frame member = if is_slot c g i then (if owns c g i then from_sender (E.payload_answer (sender_of c g) i P frame member) else Owned) else NoSlot

unfoldable pub payload_bytes : (c : Card) (group slot P : ℕ) (frame member : Bytes) → Bytes
payload_bytes c g i P frame member = if is_slot c g i && owns c g i then E.payload_bytes (sender_of c g) i P frame member else member

-- nothing is masked: in the table now a slot that the group does not own is IDLE
unfoldable pub board_shown : Card → ℕ → BoardOutcome
board_shown c g = record { board = board_of (shown_sender c g).table; answer = group_answer g }

unfoldable pub outgoing_shown : Card → ℕ → BoardOutcome
outgoing_shown c g = record { board = (shown_sender c g).outgoing; answer = group_answer g }

unfoldable pub ranks_shown : Card → ℕ → RanksOutcome
ranks_shown c g = record { ranks = E.ranks_of (shown_sender c g); answer = group_answer g }

unfoldable pub owned_shown : Card → ℕ → OwnedOutcome
owned_shown c g = record { owned = owned_bytes c.owners g; answer = group_answer g }
