use mathlib.Core.Path.{◌∙◌, ap}
use Rattle.c_face.specs.Settings.{sender_settings}
use Rattle.c_face.proofs.Showing.{shown_state, shown_room, shown_done}
use Rattle.c_face.proofs.seeing.levelspruce_sender_settings.Goals as goal

pub returns-then-state-ne-SENDER_BYTES : goal.returns-then-state-ne-SENDER_BYTES
returns-then-state-ne-SENDER_BYTES c = shown_state 5 _ _ _ c.if-state-ne-SENDER_BYTES.true

pub returns-then-settings-ne5 : goal.returns-then-settings-ne5
returns-then-settings-ne5 c = shown_room 5 _ _ _ c.if-state-ne-SENDER_BYTES.false c.if-settings-ne5.true

pub returns : goal.returns
returns c =
    shown_done 5 _ _ _ _ c.if-state-ne-SENDER_BYTES.false c.if-settings-ne5.false (c.put_settings.ensures ∙ ap sender_settings c.sender_of-sender.ensures)
