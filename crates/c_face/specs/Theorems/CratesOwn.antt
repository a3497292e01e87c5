-- Each C call is the crate's own function: the same answer, by its number, and the same lent bytes.
use Rattle.std.specs.Prelude.{◌≡◌, Bool, ◌||◌, List, ℕ, ltb, length}
use Rattle.std.proofs.Math.Path.{refl}
use Rattle.std.proofs.Math.Bool.{true, false, cond}
use Rattle.std.proofs.Common.{eq-eqb}
use Rattle.packet.specs.Laws.Clock.{h4_clock}
use Rattle.packet.specs.declared.layout.Fields.{Fields}
use Rattle.packet.specs.Fixed.{read_fixed_answer, write_fixed_answer}
use Rattle.packet.specs.Kinds.{epochs}
use Rattle.packet.specs.Laws.Known.{h4_known}
use Rattle.packet.specs.Reading.{read_answer, reading_number}
use Rattle.packet.specs.Vc12.{read_vc12_answer, write_vc12_answer, write_vc12_bytes}
use Rattle.packet.specs.Writing.{write_answer, write_bytes, writing_number}
use Rattle.payload.specs.Answers.{number_of}
use Rattle.payload.specs.Joining.{joined, whole_answer}
use Rattle.payload.specs.Spreading.{spread_all}
use Rattle.sender.specs.Board.{board_of}
use Rattle.sender.specs.Commands.{answered, fresh_of, start_of}
use Rattle.sender.specs.Answers.Answer.{Done, OutOfRange}
use Rattle.sender.specs.Answers.{Outcome}
use Rattle.sender.specs.Epochs.{SenderCall, begin_of, packet_answer, packet_bytes, payload_answer, payload_bytes, ranks_of, sender_outcome_of}
use Rattle.sender.specs.Table.{answer_number}
use Rattle.c_face.specs.Boards.{board_bytes_c, board_bytes_of, outgoing_bytes_c, ranks_bytes_c, ranks_bytes_of, shown_answer_c, shown_bytes}
use Rattle.c_face.specs.Keeping.{bytes_of, sender_of}
use Rattle.c_face.specs.Payloads.{join_answer_c, join_frame_c, spread_answer_c, spread_members_c}
use Rattle.c_face.specs.Packets.{read_answer_c, read_fields_c, read_fixed_answer_c, read_fixed_fields_c, read_vc12_answer_c, read_vc12_fields_c, values_or, write_answer_c, write_bytes_c, write_fixed_answer_c, write_vc12_answer_c, write_vc12_bytes_c}
use Rattle.c_face.specs.Senders.{H4, call_answer_c, call_state_c, is_epoch, is_state, kept_bytes, no_start, outside, packet_answer_c, packet_bytes_c, payload_answer_c, payload_bytes_c, sends, start_answer_c, start_state_c}

-- levelspruce_packet_write is packet::write on fields that are bytes
pub write_own : (f : Fields) (h4 : List ℕ)
    → (write_answer_c f.epoch f.word.0 f.gid f.mst f.rs_ack f.sq f.reserved h4 ≡ writing_number (write_answer f h4))
    × (write_bytes_c f.epoch f.word.0 f.gid f.mst f.rs_ack f.sq f.reserved h4 ≡ write_bytes f h4)
write_own f h4 = (refl, refl)

-- levelspruce_packet_read is packet::read, with room for its values
pub read_own : (h4 fields : List ℕ) → length fields ≡ 10
    → (read_answer_c h4 fields ≡ reading_number (read_answer h4)) × (read_fields_c h4 fields ≡ values_or (read_answer h4) fields)
unfolding read_answer_c read_fields_c
read_own h4 fields h = rw (eq-eqb (length fields) 10 h) (refl, refl)

-- levelspruce_packet_write_fixed and levelspruce_packet_read_fixed are packet::write_fixed and packet::read_fixed
pub write_fixed_own : (epoch sq : ℕ) (h4 : List ℕ) → write_fixed_answer_c epoch sq h4 ≡ writing_number (write_fixed_answer epoch sq h4)
write_fixed_own epoch sq h4 = refl

pub read_fixed_own : (h4 fields : List ℕ) → length fields ≡ 10
    → (read_fixed_answer_c h4 fields ≡ reading_number (read_fixed_answer h4)) × (read_fixed_fields_c h4 fields ≡ values_or (read_fixed_answer h4) fields)
unfolding read_fixed_answer_c read_fixed_fields_c
read_fixed_own h4 fields h = rw (eq-eqb (length fields) 10 h) (refl, refl)

-- levelspruce_packet_write_vc12 and levelspruce_packet_read_vc12 are packet::write_vc12 and packet::read_vc12, as those of H4 are
pub write_vc12_own : (f : Fields) (bits : List ℕ)
    → (write_vc12_answer_c f.epoch f.word.0 f.gid f.mst f.rs_ack f.sq f.reserved bits ≡ writing_number (write_vc12_answer f bits))
    × (write_vc12_bytes_c f.epoch f.word.0 f.gid f.mst f.rs_ack f.sq f.reserved bits ≡ write_vc12_bytes f bits)
write_vc12_own f bits = (refl, refl)

pub read_vc12_own : (bits fields : List ℕ) → length fields ≡ 10
    → (read_vc12_answer_c bits fields ≡ reading_number (read_vc12_answer bits)) × (read_vc12_fields_c bits fields ≡ values_or (read_vc12_answer bits) fields)
unfolding read_vc12_answer_c read_vc12_fields_c
read_vc12_own bits fields h = rw (eq-eqb (length fields) 10 h) (refl, refl)

-- levelspruce_spread and levelspruce_join are payload::spread and payload::join
pub spread_own : (x p : ℕ) (frame members : List ℕ)
    → (spread_answer_c x p frame members ≡ number_of (whole_answer x p (length frame) (length members)))
    × (spread_members_c x p frame members ≡ spread_all x p frame members)
spread_own x p frame members = (refl, refl)

pub join_own : (x p : ℕ) (members frame : List ℕ)
    → (join_answer_c x p members frame ≡ number_of (whole_answer x p (length members) (length frame)))
    × (join_frame_c x p members frame ≡ joined x p members frame)
join_own x p members frame = (refl, refl)

-- levelspruce_sender_start_as is Sender::start of a kind that has senders, where the state has its length and the first epoch is one of the kind. An empty group is of H4, and its first epoch has the number 0.
module _ (kind count first : ℕ) (state : List ℕ) (sized : length state ≡ 397) where
  pub start_own : sends kind ≡ true → is_epoch kind first ≡ true → start_answer_c kind count first state ≡ answer_number (begin_of kind count first).answer
  unfolding start_answer_c begin_of start_of
  start_own s f = rw (eq-eqb (length state) 397 sized, s, f) (go (outside count))
    where
      go : (b : Bool) → cond (b || false) 4 0 ≡ answer_number (cond {A = Outcome} b (answered (fresh_of kind 0) OutOfRange) (answered (fresh_of kind count) Done)).answer
      go true = refl
      go false = refl

  pub start_state_own : no_start kind count ≡ false → is_epoch kind first ≡ true → start_state_c kind count first state ≡ bytes_of (begin_of kind count first).sender
  unfolding start_state_c
  start_state_own o f = rw (eq-eqb (length state) 397 sized, o, f) refl

  pub start_empty_own : no_start kind count ≡ true → start_state_c kind count first state ≡ bytes_of (begin_of 0 0 0).sender
  unfolding start_state_c
  start_empty_own o = rw (eq-eqb (length state) 397 sized, o) refl

-- there are senders of H4
pub h4_sent : sends H4 ≡ true
unfolding sends
h4_sent = rw h4_known refl

pub h4_epochs : epochs H4 ≡ 256
h4_epochs = h4_clock (λ f e t l. e ≡ 256) refl H4 refl

-- levelspruce_sender_start is levelspruce_sender_start_as with the kind H4, by one definition. So it is, byte for byte, what it was before there were kinds: 4 for the count alone, with the empty group of that count, 9, and 8 above 255.
pub start_as_h4 : (count first : ℕ) (state : List ℕ)
    → (start_answer_c H4 count first state ≡ cond (outside count) 4 (cond (is_state state) (cond (ltb first 256) 0 8) 9))
    × (start_state_c H4 count first state ≡ cond (is_state state) (cond (outside count) (bytes_of (begin_of H4 count 0).sender) (cond (ltb first 256) (bytes_of (begin_of H4 count first).sender) state)) state)
unfolding start_answer_c start_state_c begin_of start_of
start_as_h4 count first state = rw (h4_sent, h4_epochs) (go (outside count) refl)
  where
    go : (b : Bool) → outside count ≡ b
        → (◌≡◌ {A = ℕ} (cond (outside count || false) 4 (cond (is_state state) (cond (ltb first 256) 0 8) 9)) (cond (outside count) 4 (cond (is_state state) (cond (ltb first 256) 0 8) 9)))
        × (cond (is_state state) (cond (outside count || false) (bytes_of (begin_of 0 0 0).sender) (cond (ltb first 256) (bytes_of (begin_of H4 count first).sender) state)) state
        ≡ cond (is_state state) (cond (outside count) (bytes_of (begin_of H4 count 0).sender) (cond (ltb first 256) (bytes_of (begin_of H4 count first).sender) state)) state)
    go true e = rw e (refl, refl)
    go false e = rw e (refl, refl)

-- levelspruce_sender_add, _remove, _report, _lapse and _start_epoch are the sender's own calls on the sender in the state; a refusal encodes nothing anew.
pub call_own : (call : SenderCall) (state : List ℕ) → length state ≡ 397
    → (call_answer_c true call state ≡ answer_number (sender_outcome_of (sender_of state) call).answer) × (call_state_c true call state ≡ kept_bytes (sender_outcome_of (sender_of state) call) state)
unfolding call_answer_c call_state_c
call_own call state h = rw (eq-eqb (length state) 397 h) (refl, refl)

-- levelspruce_sender_packet and levelspruce_sender_payload are Sender::packet and Sender::payload
pub packet_own : (state : List ℕ) (slot : ℕ) (h4 : List ℕ) → length state ≡ 397
    → (packet_answer_c state slot h4 ≡ answer_number (packet_answer (sender_of state) slot h4)) × (packet_bytes_c state slot h4 ≡ packet_bytes (sender_of state) slot h4)
unfolding packet_answer_c packet_bytes_c
packet_own state slot h4 h = rw (eq-eqb (length state) 397 h) (refl, refl)

pub payload_own : (state : List ℕ) (slot P : ℕ) (frame member : List ℕ) → length state ≡ 397
    → (payload_answer_c state slot P frame member ≡ answer_number (payload_answer (sender_of state) slot P (length frame) (length member)))
    × (payload_bytes_c state slot P frame member ≡ payload_bytes (sender_of state) slot P frame member)
unfolding payload_answer_c payload_bytes_c
payload_own state slot P frame member h = rw (eq-eqb (length state) 397 h) (refl, refl)

-- levelspruce_sender_board is board_of the table, levelspruce_sender_board_going the board going out, levelspruce_sender_ranks is Sender::ranks
pub board_own : (state board : List ℕ) → length state ≡ 397 → length board ≡ 130
    → (shown_answer_c 130 state board ≡ 0) × (board_bytes_c state board ≡ board_bytes_of (board_of (sender_of state).table)) × (outgoing_bytes_c state board ≡ board_bytes_of (sender_of state).outgoing)
unfolding shown_answer_c shown_bytes
board_own state board h l = rw (eq-eqb (length state) 397 h, eq-eqb (length board) 130 l) (refl, refl, refl)

pub ranks_own : (state ranks : List ℕ) → length state ≡ 397 → length ranks ≡ 68
    → (shown_answer_c 68 state ranks ≡ 0) × (ranks_bytes_c state ranks ≡ ranks_bytes_of (ranks_of (sender_of state)))
unfolding shown_answer_c shown_bytes
ranks_own state ranks h l = rw (eq-eqb (length state) 397 h, eq-eqb (length ranks) 68 l) (refl, refl)
