use mathlib.Core.Path.{◌∙◌, ap}
use Rattle.c_face.specs.Boards.{ranks_bytes_of}
use Rattle.c_face.proofs.Showing.{shown_state, shown_room, shown_done}
use Rattle.sender.specs.Epochs.{ranks_of}
use Rattle.c_face.proofs.boards.levelspruce_sender_ranks.Goals as goal

pub returns-then-state-ne-SENDER_BYTES : goal.returns-then-state-ne-SENDER_BYTES
returns-then-state-ne-SENDER_BYTES c = shown_state 68 _ _ _ c.if-state-ne-SENDER_BYTES.true

pub returns-then-ranks-ne-RANKS_BYTES : goal.returns-then-ranks-ne-RANKS_BYTES
returns-then-ranks-ne-RANKS_BYTES c = shown_room 68 _ _ _ c.if-state-ne-SENDER_BYTES.false c.if-ranks-ne-RANKS_BYTES.true

pub returns : goal.returns
returns c = shown_done 68 _ _ _ _ c.if-state-ne-SENDER_BYTES.false c.if-ranks-ne-RANKS_BYTES.false (c.put_ranks.ensures ∙ ap ranks_bytes_of (c.ranks-told.ensures ∙ ap ranks_of c.sender_of-sender.ensures))
