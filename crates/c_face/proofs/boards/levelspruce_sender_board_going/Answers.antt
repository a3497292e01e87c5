use mathlib.Core.Path.{◌∙◌, ap}
use Rattle.c_face.specs.Boards.{board_bytes_of}
use Rattle.c_face.proofs.Showing.{shown_state, shown_room, shown_done}
use Rattle.sender.specs.declared.epochs.Sender.{Sender}
use Rattle.c_face.proofs.boards.levelspruce_sender_board_going.Goals as goal

pub returns-then-state-ne-SENDER_BYTES : goal.returns-then-state-ne-SENDER_BYTES
returns-then-state-ne-SENDER_BYTES c = shown_state 130 _ _ _ c.if-state-ne-SENDER_BYTES.true

pub returns-then-board-ne-BOARD_BYTES : goal.returns-then-board-ne-BOARD_BYTES
returns-then-board-ne-BOARD_BYTES c = shown_room 130 _ _ _ c.if-state-ne-SENDER_BYTES.false c.if-board-ne-BOARD_BYTES.true

pub returns : goal.returns
returns c = shown_done 130 _ _ _ _ c.if-state-ne-SENDER_BYTES.false c.if-board-ne-BOARD_BYTES.false (c.put_board.ensures ∙ ap (λ (s : Sender). board_bytes_of s.outgoing) c.sender_of-sender.ensures)
