-- The refusals of every entry point that can refuse (demand 1), in one table: each row is an entry point's name, its call and the proof that it copes. host/checks/refusals.py holds each row to the entry point's contract.
pub mod Cards
pub mod CardStates
pub mod Entries
pub mod Epochs
pub mod Going
pub mod Lines
pub mod Mending
pub mod Orders
pub mod Packets
pub mod Paths
pub mod Payloads
pub mod Receivers
pub mod Replays
pub mod Seeing
pub mod Senders
pub mod Spoken
pub mod Tables
pub mod Wrong
use Rattle.std.specs.Prelude.{List, [], ◌∷◌}
use Entries.{Coping, row}
use Cards as card
use CardStates as card_state
use Epochs as sender
use Going as going
use Lines as console
use Mending as mending
use Orders as orders
use Packets as packet
use Paths as paths
use Payloads as payload
use Receivers as receiver
use Replays as replay
use Seeing as seeing
use Senders as state
use Spoken as spoken
use Tables as table

pub entries : List Coping
entries =
    row "packet::write" packet.write packet.write_copes
    ∷ row "packet::read" packet.read packet.read_copes
    ∷ row "packet::read_nibbles" packet.read_sixteen packet.read_sixteen_copes
    ∷ row "packet::write_fixed" packet.write_fixed packet.write_fixed_copes
    ∷ row "packet::read_fixed" packet.read_fixed packet.read_fixed_copes
    ∷ row "packet::read_fixed_nibbles" packet.read_fixed_sixteen packet.read_fixed_sixteen_copes
    ∷ row "packet::write_vc12" packet.write_vc12 packet.write_vc12_copes
    ∷ row "packet::read_vc12" packet.read_vc12 packet.read_vc12_copes
    ∷ row "packet::read_vc12_row" packet.read_vc12_entries packet.read_vc12_entries_copes
    ∷ row "packet::write_by" packet.write_by packet.write_by_copes
    ∷ row "packet::read_row" packet.read_row_by packet.read_row_by_copes
    ∷ row "payload::spread" payload.spread payload.spread_copes
    ∷ row "payload::join" payload.join payload.join_copes
    ∷ row "payload::spread_one" payload.spread_one_member payload.spread_one_copes
    ∷ row "payload::join_from" payload.join_from payload.join_from_copes
    ∷ row "payload::one_answer" payload.one_answer_call payload.one_answer_copes
    ∷ row "paths::plan" paths.plan paths.plan_copes
    ∷ row "paths::check" paths.check paths.check_copes
    ∷ row "sender::start" table.start table.start_copes
    ∷ row "sender::add" table.add table.add_copes
    ∷ row "sender::remove" table.remove table.remove_copes
    ∷ row "sender::report" table.report table.report_copes
    ∷ row "sender::lapse" table.lapse table.lapse_copes
    ∷ row "sender::Sender::start" sender.start sender.start_copes
    ∷ row "sender::Sender::add" sender.add sender.add_copes
    ∷ row "sender::Sender::remove" sender.remove sender.remove_copes
    ∷ row "sender::Sender::report" sender.report sender.report_copes
    ∷ row "sender::Sender::lapse" sender.lapse sender.lapse_copes
    ∷ row "sender::Sender::start_epoch" sender.start_epoch sender.start_epoch_copes
    ∷ row "sender::Sender::packet" sender.packet sender.packet_copes
    ∷ row "sender::Sender::payload" sender.payload sender.payload_copes
    ∷ row "cards::Card::start" card.start card.start_copes
    ∷ row "cards::Card::claim" card.claim card.claim_copes
    ∷ row "cards::Card::release" card.release card.release_copes
    ∷ row "cards::Card::add" card.add card.add_copes
    ∷ row "cards::Card::remove" card.remove card.remove_copes
    ∷ row "cards::Card::report" card.report card.report_copes
    ∷ row "cards::Card::lapse" card.lapse card.lapse_copes
    ∷ row "cards::Card::start_epoch" card.start_epoch card.start_epoch_copes
    ∷ row "cards::Card::packet" card.packet card.packet_copes
    ∷ row "cards::Card::payload" card.payload card.payload_copes
    ∷ row "cards::Card::board" card.board card.board_copes
    ∷ row "cards::Card::outgoing" card.outgoing card.outgoing_copes
    ∷ row "cards::Card::ranks" card.ranks card.ranks_copes
    ∷ row "cards::Card::owned" card.owned card.owned_copes
    ∷ row "orders::order" orders.order orders.order_copes
    ∷ row "orders::order_of" orders.order_of orders.order_of_copes
    ∷ row "spoken::changes_between" spoken.changes spoken.changes_copes
    ∷ row "spoken::apply" spoken.apply spoken.apply_copes
    ∷ row "spoken::speak" spoken.speak spoken.speak_copes
    ∷ row "spoken::speak_runs" spoken.speak_runs spoken.speak_runs_copes
    ∷ row "spoken::speak_whole" spoken.speak_whole spoken.speak_whole_copes
    ∷ row "session_lines::feed" console.feed console.feed_copes
    ∷ row "session_lines::finish" console.finish console.finish_copes
    ∷ row "session_lines::reply_to" console.reply console.reply_copes
    ∷ row "step::reading_of" packet.reading_of packet.reading_of_copes
    ∷ row "step::decide" receiver.decide receiver.decide_copes
    ∷ row "receiver::start" receiver.start receiver.start_copes
    ∷ row "receiver::start_as" receiver.start_as receiver.start_as_copes
    ∷ row "receiver::frame" receiver.frame receiver.frame_copes
    ∷ row "receiver::fetch" receiver.fetch receiver.fetch_copes
    ∷ row "receiver::ports" receiver.ports receiver.ports_copes
    ∷ row "receiver::reply" receiver.reply receiver.reply_copes
    ∷ row "receiver::seen" seeing.seen seeing.seen_copes
    ∷ row "receiver::cause" seeing.cause seeing.cause_copes
    ∷ row "receiver::heard" seeing.heard seeing.heard_copes
    ∷ row "receiver::behind" seeing.behind seeing.behind_copes
    ∷ row "receiver::anew" seeing.anew seeing.anew_copes
    ∷ row "receiver::settings" seeing.settings seeing.settings_copes
    ∷ row "replay_lines::turn" replay.turn replay.turn_copes
    ∷ row "replay_lines::replay_lengths" replay.lengths replay.lengths_copes
    ∷ row "mending::mend_lengths" mending.lengths mending.lengths_copes
    ∷ row "mending::mend" mending.mend mending.mend_copes
    ∷ row "levelspruce_packet_write" packet.write_c packet.write_c_copes
    ∷ row "levelspruce_packet_read" packet.read_c packet.read_c_copes
    ∷ row "levelspruce_packet_write_fixed" packet.write_fixed_c packet.write_fixed_c_copes
    ∷ row "levelspruce_packet_read_fixed" packet.read_fixed_c packet.read_fixed_c_copes
    ∷ row "levelspruce_packet_write_vc12" packet.write_vc12_c packet.write_vc12_c_copes
    ∷ row "levelspruce_packet_read_vc12" packet.read_vc12_c packet.read_vc12_c_copes
    ∷ row "levelspruce_spread" payload.spread_c payload.spread_copes
    ∷ row "levelspruce_join" payload.join_c payload.join_copes
    ∷ row "levelspruce_paths_plan" paths.plan_c paths.plan_c_copes
    ∷ row "levelspruce_paths_check" paths.check_c paths.check_c_copes
    ∷ row "levelspruce_sender_start" state.start state.start_copes
    ∷ row "levelspruce_sender_start_as" state.start_as state.start_as_copes
    ∷ row "levelspruce_sender_add" state.add state.add_copes
    ∷ row "levelspruce_sender_remove" state.remove state.remove_copes
    ∷ row "levelspruce_sender_report" state.report state.report_copes
    ∷ row "levelspruce_sender_lapse" state.lapse state.lapse_copes
    ∷ row "levelspruce_sender_start_epoch" state.start_epoch state.start_epoch_copes
    ∷ row "levelspruce_sender_packet" state.packet state.packet_copes
    ∷ row "levelspruce_sender_payload" state.payload state.payload_copes
    ∷ row "levelspruce_sender_board" state.shown state.shown_copes
    ∷ row "levelspruce_sender_board_going" state.outgoing state.outgoing_copes
    ∷ row "levelspruce_sender_ranks" state.ranked state.ranked_copes
    ∷ row "levelspruce_sender_settings" seeing.sender_settings seeing.sender_settings_copes
    ∷ row "levelspruce_card_start" card_state.start card_state.start_copes
    ∷ row "levelspruce_card_start_as" card_state.start_as card_state.start_as_copes
    ∷ row "levelspruce_card_claim" card_state.claim card_state.claim_copes
    ∷ row "levelspruce_card_release" card_state.release card_state.release_copes
    ∷ row "levelspruce_card_add" card_state.add card_state.add_copes
    ∷ row "levelspruce_card_remove" card_state.remove card_state.remove_copes
    ∷ row "levelspruce_card_report" card_state.report card_state.report_copes
    ∷ row "levelspruce_card_lapse" card_state.lapse card_state.lapse_copes
    ∷ row "levelspruce_card_start_epoch" card_state.start_epoch card_state.start_epoch_copes
    ∷ row "levelspruce_card_packet" card_state.packet card_state.packet_copes
    ∷ row "levelspruce_card_payload" card_state.payload card_state.payload_copes
    ∷ row "levelspruce_card_board" card_state.shown card_state.shown_copes
    ∷ row "levelspruce_card_board_going" card_state.outgoing card_state.outgoing_copes
    ∷ row "levelspruce_card_ranks" card_state.ranked card_state.ranked_copes
    ∷ row "levelspruce_card_owned" card_state.owned card_state.owned_copes
    ∷ row "levelspruce_card_order" orders.order_c orders.order_c_copes
    ∷ row "levelspruce_sender_changes" going.sender going.sender_copes
    ∷ row "levelspruce_card_changes" going.card going.card_copes
    ∷ row "levelspruce_board_changes" spoken.changes_c spoken.changes_c_copes
    ∷ row "levelspruce_board_apply" spoken.apply_c spoken.apply_c_copes
    ∷ row "levelspruce_board_speak" spoken.speak_c spoken.speak_c_copes
    ∷ row "levelspruce_board_speak_runs" spoken.speak_runs_c spoken.speak_runs_c_copes
    ∷ row "levelspruce_board_speak_whole" spoken.speak_whole_c spoken.speak_whole_c_copes
    ∷ row "levelspruce_mend_lengths" mending.lengths_c mending.lengths_c_copes
    ∷ row "levelspruce_mend" mending.mend_c mending.mend_copes
    ∷ row "levelspruce_replay_lengths" replay.lengths_c replay.lengths_c_copes
    ∷ row "levelspruce_replay_begin" replay.begin_c replay.begin_c_copes
    ∷ row "levelspruce_replay_turn" replay.turn_c replay.turn_c_copes
    ∷ row "levelspruce_receiver_start" receiver.start_c receiver.start_c_copes
    ∷ row "levelspruce_receiver_start_as" receiver.start_as_c receiver.start_as_c_copes
    ∷ row "levelspruce_receiver_frame" receiver.frame_c receiver.frame_c_copes
    ∷ row "levelspruce_receiver_fetch" receiver.fetch receiver.fetch_copes
    ∷ row "levelspruce_receiver_ports" receiver.ports receiver.ports_copes
    ∷ row "levelspruce_receiver_reply" receiver.reply receiver.reply_copes
    ∷ row "levelspruce_receiver_seen" seeing.seen seeing.seen_copes
    ∷ row "levelspruce_receiver_cause" seeing.cause seeing.cause_copes
    ∷ row "levelspruce_receiver_heard" seeing.heard seeing.heard_copes
    ∷ row "levelspruce_receiver_behind" seeing.behind seeing.behind_copes
    ∷ row "levelspruce_receiver_anew" seeing.anew seeing.anew_copes
    ∷ row "levelspruce_receiver_settings" seeing.settings seeing.settings_copes
    ∷ []
