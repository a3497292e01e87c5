-- The changes of the board going out since the board told last (02, 2026-10): 'A board is taken only at an epoch's start, so no list ever mixes two orders.' The call takes the board from the state itself: the one that the epoch's
-- start has fixed, whenever it is made. It comes back as the board told last.
use Rattle.std.specs.Prelude.{◌&&◌, List, ℕ, if◌then◌else◌, ◌==◌}
use Rattle.cards.specs.Readings.{outgoing_shown}
use Rattle.sender.specs.declared.board.Board.{Board}
use Rattle.spoken.specs.Changes.{answer_number, compared_of}
use Rattle.spoken.specs.Taking.{taken_of}
use Rattle.c_face.specs.Boards.{board_bytes_of}
use Rattle.c_cards.specs.Cards.{behind, bytes_behind, card_of}
use Rattle.c_cards.specs.Changes.{are_changes, board_from, changes_bytes_of, is_board}
use Rattle.c_face.specs.Keeping.{sender_of}
use Rattle.c_face.specs.Senders.{is_state}

-- 9 for the board told or the changes, then 4 for another count
unfoldable pub going_answer : (going : Board) (told changes : List ℕ) → ℕ
going_answer going told changes = if is_board told && are_changes changes then answer_number (compared_of (board_from told) going).answer else 9

unfoldable pub going_changes : (going : Board) (told changes : List ℕ) → List ℕ
going_changes going told changes = if going_answer going told changes == 0 then changes_bytes_of (compared_of (board_from told) going).changes else changes

unfoldable pub going_told : (going : Board) (told changes : List ℕ) → List ℕ
going_told going told changes = if going_answer going told changes == 0 then board_bytes_of going else told

-- of a sender: 9 for the state first
unfoldable pub changes_answer_c : (state told changes : List ℕ) → ℕ
changes_answer_c state told changes = if is_state state then going_answer (taken_of (sender_of state)) told changes else 9

unfoldable pub changes_bytes_c : (state told changes : List ℕ) → List ℕ
changes_bytes_c state told changes = if is_state state then going_changes (taken_of (sender_of state)) told changes else changes

unfoldable pub changes_told_c : (state told changes : List ℕ) → List ℕ
changes_told_c state told changes = if is_state state then going_told (taken_of (sender_of state)) told changes else told

-- of a card's group: 9 for the state, 1 for the group first
unfoldable pub changes_answer_on : (state : List ℕ) (group : ℕ) (told changes : List ℕ) → ℕ
changes_answer_on state g told changes = behind state g (going_answer (outgoing_shown (card_of state) g).board told changes)

unfoldable pub changes_bytes_on : (state : List ℕ) (group : ℕ) (told changes : List ℕ) → List ℕ
changes_bytes_on state g told changes = bytes_behind state g (going_changes (outgoing_shown (card_of state) g).board told changes) changes

unfoldable pub changes_told_on : (state : List ℕ) (group : ℕ) (told changes : List ℕ) → List ℕ
changes_told_on state g told changes = bytes_behind state g (going_told (outgoing_shown (card_of state) g).board told changes) told
