-- All that this crate and those below it define, opened under one name for examples that are computed. A new definition is named here, and nowhere else.
use Rattle.std.specs.Prelude.{ℕ}
use Rattle.sender.specs.Opened.{sender_open}
use Rattle.cards.specs.Commands.{claim_of, command_of, group_call_of, release_of, start_of}
use Rattle.cards.specs.Owners.{owned_bytes, with_owner}
use Rattle.cards.specs.Parts.{empty_sender, group_outcome, is_slot, is_used, marked, owns, sender_of, shown_sender, with_sender}
use Rattle.cards.specs.Readings.{board_shown, outgoing_shown, owned_shown, packet_answer, packet_bytes, payload_answer, payload_bytes, ranks_shown}
use Rattle.cards.specs.Views.{view_of}

unfoldable pub circuits_open : ℕ
unfolding sender_open claim_of command_of group_call_of release_of start_of owned_bytes with_owner empty_sender group_outcome is_slot is_used marked owns sender_of
    shown_sender with_sender board_shown outgoing_shown owned_shown packet_answer packet_bytes payload_answer payload_bytes ranks_shown view_of
circuits_open = 0
