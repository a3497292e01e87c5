-- All that this crate and those below it define, opened under one name for examples that are computed. A new definition is named here, and nowhere else.
use Rattle.std.specs.Prelude.{ℕ}
use Rattle.sender.specs.Opened.{sender_open}
use Rattle.c_face.specs.Boards.{board_byte, board_bytes_of, rank_byte, ranks_bytes_of, shown_answer_c, shown_bytes}
use Rattle.c_face.specs.Keeping.{byte_at, bytes_of, rows_in, sender_of, slots_in}
use Rattle.c_face.specs.Packets.{read_answer_c, read_fields_c, read_fixed_answer_c, read_fixed_fields_c, read_vc12_answer_c, read_vc12_fields_c}
use Rattle.c_face.specs.Senders.{call_answer_c, call_state_c, packet_answer_c, packet_bytes_c, payload_answer_c, payload_bytes_c, sends, start_answer_c, start_state_c}
use Rattle.c_face.specs.Settings.{sender_settings}

unfoldable pub c_face_open : ℕ
unfolding sender_open board_byte board_bytes_of rank_byte ranks_bytes_of shown_answer_c shown_bytes byte_at bytes_of rows_in sender_of slots_in
    read_answer_c read_fields_c read_fixed_answer_c read_fixed_fields_c read_vc12_answer_c read_vc12_fields_c call_answer_c call_state_c packet_answer_c packet_bytes_c
    payload_answer_c payload_bytes_c sends start_answer_c start_state_c sender_settings
c_face_open = 0
