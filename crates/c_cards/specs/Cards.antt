-- Two circuits on one card (02, 2026-06) for C, in terms of the card's own calls. The state is 858 bytes: the owner row in bytes 0 to 63, then the state of each group's sender.
-- Any bytes are a card. A state of another length is refused with 9 before all else (at starting 4 comes before it), then a group other than the two with 1, a number that is
-- no byte with 8, and then the card's own refusals follow.
use Rattle.std.specs.Prelude.{Bool, ◌&&◌, List, ℕ, ◌+◌, get_or, length, if◌then◌else◌, ◌==◌, Result, Ok, Err}
use Rattle.ground.specs.Drawn.{fill_at}
use Rattle.ground.specs.Plain.{◌<?◌}
use Rattle.ground.specs.Table.{tabulate}
use Rattle.ground.specs.Types.{Bytes, Epoch}
use Rattle.cards.specs.declared.card.Card.{Card}
use Rattle.cards.specs.declared.refusals.Refusal.{Refusal}
use Rattle.cards.specs.Answers.{CardOutcome, answer_number}
use Rattle.cards.specs.Calls.{Call, outcome_of}
use Rattle.cards.specs.Commands.{start_of}
use Rattle.cards.specs.Owners.{owner_in}
use Rattle.cards.specs.Parts as P
use Rattle.cards.specs.Readings.{board_shown, outgoing_shown, owned_shown, packet_answer, packet_bytes, payload_answer, payload_bytes, ranks_shown}
use Rattle.c_face.specs.Boards.{board_bytes, board_bytes_of, ranks_bytes, ranks_bytes_of}
use Rattle.c_face.specs.Keeping.{byte_at, sender_of, state_bytes}
use Rattle.c_face.specs.Senders.{is_epoch, no_start}

-- how many bytes a card's state has
abbrev pub card_bytes : ℕ
card_bytes = 858

abbrev pub is_card : Bytes → Bool
is_card state = length state == card_bytes

-- Reading.

unfoldable pub owners_in : Bytes → List ℕ
owners_in state = tabulate 64 (λ i. get_or state i 0)

-- where a group's part begins: the state of its sender
abbrev pub part_at : ℕ → ℕ
part_at g = if g == 0 then 64 else 461

unfoldable pub part_in : ℕ → Bytes → Bytes
part_in g state = tabulate state_bytes (λ k. get_or state (part_at g + k) 0)

unfoldable pub card_of : Bytes → Card
card_of state = record { owners = owners_in state; first = sender_of (part_in 0 state); second = sender_of (part_in 1 state) }

-- the card as one group may know it: its own sender stands in the other's place too
abbrev pub alone : ℕ → Card → Card
alone g c = record { owners = c.owners; first = P.sender_of c g; second = P.sender_of c g }

-- Writing: the owner row and the group's own part. All else stays.

unfoldable pub put_own : (group : ℕ) (c : Card) (state : Bytes) → Bytes
put_own g c state = fill_at (part_at g) state_bytes (byte_at (P.sender_of c g)) (fill_at 0 64 (owner_in c.owners) state)

-- both groups' parts
abbrev pub put_card : Card → Bytes → Bytes
put_card c state = put_own 1 c (put_own 0 c state)

-- a refusal encodes nothing anew
abbrev pub kept_card : (group : ℕ) (outcome : CardOutcome) (state : Bytes) → Bytes
kept_card g outcome state = if answer_number outcome.answer == 0 then put_own g outcome.card state else state

-- the same of what the call tells
abbrev pub told_card : (group : ℕ) (told : Result Card Refusal) (state : Bytes) → Bytes
told_card g (Ok c) state = put_own g c state
told_card g (Err e) state = state

abbrev pub are_epochs : (kind e₀ e₁ : ℕ) → Bool
are_epochs kind e₀ e₁ = is_epoch kind e₀ && is_epoch kind e₁

-- Starting, both groups of a kind: 4, 9, 8. 4 gives two empty groups of H4, where there is room for them; their first epochs have the number 0.
unfoldable pub start_answer_on : (kind count : ℕ) (e₀ e₁ : Epoch) (state : Bytes) → ℕ
start_answer_on kind count e₀ e₁ state = if no_start kind count then 4 else if is_card state then (if are_epochs kind e₀ e₁ then 0 else 8) else 9

unfoldable pub start_state_on : (kind count : ℕ) (e₀ e₁ : Epoch) (state : Bytes) → Bytes
start_state_on kind count e₀ e₁ state =
    if is_card state
    then (if no_start kind count then put_card (start_of 0 0 0 0).card state else if are_epochs kind e₀ e₁ then put_card (start_of kind count e₀ e₁).card state else state)
    else state

-- 9, then 1 for the group: what a call tests first
unfoldable pub refusal_of : ℕ → ℕ → ℕ
refusal_of n g = if n == card_bytes then (if g <? 2 then 0 else 1) else 9

abbrev pub behind : (state : Bytes) (group n : ℕ) → ℕ
behind state g n = if is_card state then (if g <? 2 then n else 1) else 9

abbrev pub bytes_behind : (state : Bytes) (group : ℕ) (new old : Bytes) → Bytes
bytes_behind state g new old = if is_card state then (if g <? 2 then new else old) else old

-- The calls that change a card: 9, 1, 8 where the numbers given do not fit, then the card's own.
unfoldable pub call_answer_on : (fits : Bool) (group : ℕ) (call : Call) (state : Bytes) → ℕ
call_answer_on fits g call state = behind state g (if fits then answer_number (outcome_of (card_of state) g call).answer else 8)

unfoldable pub call_state_on : (fits : Bool) (group : ℕ) (call : Call) (state : Bytes) → Bytes
call_state_on fits g call state = bytes_behind state g (if fits then kept_card g (outcome_of (card_of state) g call) state else state) state

-- What a slot sends: 9, 1, then the card's own.
unfoldable pub packet_answer_on : (state : Bytes) (group slot : ℕ) (h4 : Bytes) → ℕ
packet_answer_on state g slot h4 = behind state g (answer_number (packet_answer (card_of state) g slot h4))

unfoldable pub packet_bytes_on : (state : Bytes) (group slot : ℕ) (h4 : Bytes) → Bytes
packet_bytes_on state g slot h4 = bytes_behind state g (packet_bytes (card_of state) g slot h4) h4

unfoldable pub payload_answer_on : (state : Bytes) (group slot p : ℕ) (frame member : Bytes) → ℕ
payload_answer_on state g slot p frame member = behind state g (answer_number (payload_answer (card_of state) g slot p (length frame) (length member)))

unfoldable pub payload_bytes_on : (state : Bytes) (group slot p : ℕ) (frame member : Bytes) → Bytes
payload_bytes_on state g slot p frame member = bytes_behind state g (payload_bytes (card_of state) g slot p frame member) member

-- The boards, the ranks and which slots the group owns, each whole into one buffer: 9, 1, then 9 for a buffer of another length.
unfoldable pub shown_answer_on : (n : ℕ) (state : Bytes) (group : ℕ) (out : Bytes) → ℕ
shown_answer_on n state g out = behind state g (if length out == n then 0 else 9)

unfoldable pub shown_bytes_on : (n : ℕ) (state : Bytes) (group : ℕ) (new out : Bytes) → Bytes
shown_bytes_on n state g new out = bytes_behind state g (if length out == n then new else out) out

abbrev pub board_bytes_on : (state : Bytes) (group : ℕ) (out : Bytes) → Bytes
board_bytes_on state g out = shown_bytes_on board_bytes state g (board_bytes_of (board_shown (card_of state) g).board) out

abbrev pub outgoing_bytes_on : (state : Bytes) (group : ℕ) (out : Bytes) → Bytes
outgoing_bytes_on state g out = shown_bytes_on board_bytes state g (board_bytes_of (outgoing_shown (card_of state) g).board) out

abbrev pub ranks_bytes_on : (state : Bytes) (group : ℕ) (out : Bytes) → Bytes
ranks_bytes_on state g out = shown_bytes_on ranks_bytes state g (ranks_bytes_of (ranks_shown (card_of state) g).ranks) out

abbrev pub owned_bytes_on : (state : Bytes) (group : ℕ) (out : Bytes) → Bytes
owned_bytes_on state g out = shown_bytes_on 64 state g (owned_shown (card_of state) g).owned out
