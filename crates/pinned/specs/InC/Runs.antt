-- A sender run by its C calls alone, each on the 397 bytes that the call before it left, then read out. And what any bytes of a sender, or any 858 of a card, are answered.
use Rattle.std.specs.Prelude.{◌≡◌, refl, true, false, List, [], ◌∷◌, ◌++◌, ℕ, replicate, take}
use Rattle.ground.specs.Types.{Bytes}
use Rattle.c_face.specs.Boards.{board_bytes_c, outgoing_bytes_c, ranks_bytes_c, shown_answer_c}
use Rattle.c_cards.specs.Cards.{board_bytes_on, call_answer_on, call_state_on, outgoing_bytes_on, owned_bytes_on, packet_answer_on, packet_bytes_on, payload_answer_on, payload_bytes_on, put_card, ranks_bytes_on, refusal_of, shown_answer_on}
use Rattle.c_cards.specs.Orders.{command_answer_on, command_state_on, kind_answer_on, kind_state_on, order_answer_on, order_answers_on, order_state_on}
use Rattle.c_face.specs.Senders.{are_bytes, call_answer_c, call_state_c, packet_answer_c, packet_bytes_c, payload_answer_c, payload_bytes_c, start_state_c}
use Rattle.cards.specs.Calls.{Call as C}
use Rattle.pinned.specs.Filled.{nines}
use Rattle.sender.specs.Calls.Call.{AddSlot, Lapse}
use Rattle.sender.specs.Epochs.{SenderCall, begin_of, sender_run}
use Rattle.sender.specs.Epochs.SenderCall.{OnTable, StartEpoch}
use Rattle.pinned.specs.Opened.{all_open}
use Rattle.tables.specs.Rows.{Pinned, pins, row, same}

abbrev called : Bytes → List SenderCall → List ℕ
called state [] = state
called state (c ∷ cs) = called (call_state_c true c state) cs

-- Three slots from epoch 7 on: slot 0 is added, epoch 7 starts, slot 1 is added.
abbrev sender : List ℕ
sender = called (start_state_c 0 3 7 (nines 397)) (OnTable (AddSlot 0) ∷ StartEpoch 1 0x3C 0 ∷ OnTable (AddSlot 1) ∷ [])

abbrev read_out : List ℕ → Bytes
read_out s =
    take 8 (board_bytes_c s (nines 130))
    ++ take 8 (outgoing_bytes_c s (nines 130))
    ++ take 8 (ranks_bytes_c s (nines 68))
    ++ packet_bytes_c s 0 (nines 16)
    ++ packet_bytes_c s 1 (nines 16)
    ++ payload_bytes_c s 0 2 [] (nines 2)
    ++ payload_bytes_c s 1 2 [] (nines 2)

a_sender : Pinned
unfolding all_open
a_sender =
    pins "A sender is run by its C calls alone, each on the bytes that the call before it left. The board now: ADD 0, ADD 1, IDLE; the one going out: ADD 0, IDLE, IDLE; X is 0; the packets' CRCs are B9 and 33 (include/levelspruce.h)."
    (row "board, board going out, ranks, packets and payload" (read_out sender) (3 ∷ 0 ∷ 1 ∷ 0 ∷ 1 ∷ 1 ∷ 5 ∷ 255 ∷ 3 ∷ 0 ∷ 1 ∷ 0 ∷ 5 ∷ 255 ∷ 5 ∷ 255 ∷ 3 ∷ 1 ∷ 7 ∷ 0 ∷ 255 ∷ 255 ∷ 255 ∷ 255 ∷ 0x38 ∷ 0xC9 ∷ 0x0A ∷ 0x0B ∷ 0x0C ∷ 0x0D ∷ 0x0E ∷ 0x0F ∷ 0x00 ∷ 0x71 ∷ 0x12 ∷ 0x13 ∷ 0x04 ∷ 0x05 ∷ 0xB6 ∷ 0x97 ∷ 0x38 ∷ 0xC9 ∷ 0x0A ∷ 0x0B ∷ 0x0C ∷ 0x0D ∷ 0xFE ∷ 0xFF ∷ 0x00 ∷ 0x71 ∷ 0x52 ∷ 0x13 ∷ 0x04 ∷ 0x05 ∷ 0x36 ∷ 0x37 ∷ 0 ∷ 0 ∷ 0 ∷ 0 ∷ []) same
    ∷ [])

sender_answers : Pinned
unfolding all_open
sender_answers =
    pins "Any 397 bytes are a sender: nines are nine slots and an open wait, with no member, and a GID that is none (include/levelspruce.h)"
    (row "an add while the wait is open" (call_answer_c true (OnTable (AddSlot 0)) (nines 397)) 3 same
    ∷ row "an add of slot 9 of nine" (call_answer_c true (OnTable (AddSlot 9)) (nines 397)) 1 same
    ∷ row "with a number that is no byte it is 8" (call_answer_c false (OnTable (AddSlot 9)) (nines 397)) 8 same
    ∷ row "255 is a byte" (are_bytes 255 255 255) true same
    ∷ row "256 is none, the first" (are_bytes 256 0 0) false same
    ∷ row "the second" (are_bytes 0 256 0) false same
    ∷ row "the third" (are_bytes 0 0 256) false same
    ∷ row "396 bytes are 9, before 8" (call_answer_c false (OnTable (AddSlot 9)) (nines 396)) 9 same
    ∷ row "a refused call leaves the bytes" (call_state_c true (OnTable (AddSlot 9)) (nines 397)) (nines 397) same
    ∷ row "8 leaves them" (call_state_c false (OnTable Lapse) (nines 397)) (nines 397) same
    ∷ row "9 leaves them" (call_state_c true (OnTable Lapse) (nines 396)) (nines 396) same
    ∷ row "a GID that is none is 8" (packet_answer_c (nines 397) 0 (nines 16)) 8 same
    ∷ row "a packet of slot 9 is 1" (packet_answer_c (nines 397) 9 (nines 16)) 1 same
    ∷ row "in 396 bytes it is 9" (packet_answer_c (nines 396) 9 (nines 16)) 9 same
    ∷ row "9 leaves the packet's bytes" (packet_bytes_c (nines 396) 0 (nines 16)) (nines 16) same
    ∷ row "a payload with X 0" (payload_answer_c (nines 397) 0 2 [] (nines 2)) 0 same
    ∷ row "with a frame of one byte" (payload_answer_c (nines 397) 0 2 (nines 1) (nines 2)) 9 same
    ∷ row "with three bytes lent" (payload_answer_c (nines 397) 0 2 [] (nines 3)) 9 same
    ∷ row "with a P of 2,341" (payload_answer_c (nines 397) 0 2341 [] (nines 2)) 4 same
    ∷ row "of slot 9" (payload_answer_c (nines 397) 9 2 [] (nines 2)) 1 same
    ∷ row "in 396 bytes" (payload_answer_c (nines 396) 9 2 [] (nines 2)) 9 same
    ∷ row "zeros for it" (payload_bytes_c (nines 397) 0 2 [] (nines 2)) (0 ∷ 0 ∷ []) same
    ∷ row "9 leaves the payload's bytes" (payload_bytes_c (nines 396) 0 2 [] (nines 2)) (nines 2) same
    ∷ row "a board into 130 bytes" (shown_answer_c 130 (nines 397) (nines 130)) 0 same
    ∷ row "into 129" (shown_answer_c 130 (nines 397) (nines 129)) 9 same
    ∷ row "into 131" (shown_answer_c 130 (nines 397) (nines 131)) 9 same
    ∷ row "out of 396" (shown_answer_c 130 (nines 396) (nines 130)) 9 same
    ∷ row "129 bytes stay" (board_bytes_c (nines 397) (nines 129)) (nines 129) same
    ∷ row "130 stay under 9" (board_bytes_c (nines 396) (nines 130)) (nines 130) same
    ∷ [])

-- The bytes of a card of three slots, groups 0 and 1 from epochs 7 and 9 on. Group 0 owns slots 0 and 1; it has added the first, started epoch 7 and added the second. Group 1 owns slot 2.
abbrev card : List ℕ
card =
    put_card (
    record {
      owners = 1 ∷ 1 ∷ 2 ∷ replicate 61 0;
      first = sender_run (begin_of 0 3 7).sender (OnTable (AddSlot 0) ∷ StartEpoch 1 0x3C 0 ∷ OnTable (AddSlot 1) ∷ []);
      second = (begin_of 0 3 9).sender;
    }
    )
    (nines 858)

a_card : Pinned
unfolding all_open
a_card =
    pins "A card's bytes tell each group's board, the one going out, its ranks and what it owns (include/levelspruce.h; request 2026-06)"
    (row "group 0's board" (take 8 (board_bytes_on card 0 (nines 130))) (3 ∷ 0 ∷ 1 ∷ 0 ∷ 1 ∷ 1 ∷ 5 ∷ 255 ∷ []) same
    ∷ row "group 0's board going out" (take 8 (outgoing_bytes_on card 0 (nines 130))) (3 ∷ 0 ∷ 1 ∷ 0 ∷ 5 ∷ 255 ∷ 5 ∷ 255 ∷ []) same
    ∷ row "group 0's ranks" (take 8 (ranks_bytes_on card 0 (nines 68))) (3 ∷ 1 ∷ 7 ∷ 0 ∷ 255 ∷ 255 ∷ 255 ∷ 255 ∷ []) same
    ∷ row "what group 0 owns" (owned_bytes_on card 0 (nines 64)) (1 ∷ 1 ∷ replicate 62 0) same
    ∷ row "group 1's board" (take 8 (board_bytes_on card 1 (nines 130))) (3 ∷ 0 ∷ 5 ∷ 255 ∷ 5 ∷ 255 ∷ 5 ∷ 255 ∷ []) same
    ∷ row "group 1's ranks, from epoch 9 on" (take 4 (ranks_bytes_on card 1 (nines 68))) (3 ∷ 0 ∷ 9 ∷ 0 ∷ []) same
    ∷ row "what group 1 owns" (owned_bytes_on card 1 (nines 64)) (0 ∷ 0 ∷ 1 ∷ replicate 61 0) same
    ∷ row "129 bytes for a board stay" (outgoing_bytes_on card 0 (nines 129)) (nines 129) same
    ∷ row "67 for ranks stay" (ranks_bytes_on card 0 (nines 67)) (nines 67) same
    ∷ [])

card_answers : Pinned
unfolding all_open
card_answers =
    pins "Any 858 bytes are a card: nines are nine slots for each group, owned by nobody (include/levelspruce.h; request 2026-06)"
    (row "a packet of nobody's slot" (packet_answer_on (nines 858) 0 0 (nines 16)) 14 same
    ∷ row "a packet of slot 9" (packet_answer_on (nines 858) 0 9 (nines 16)) 1 same
    ∷ row "a packet to group 2" (packet_answer_on (nines 858) 2 0 (nines 16)) 1 same
    ∷ row "a packet in 857 bytes" (packet_answer_on (nines 857) 2 0 (nines 16)) 9 same
    ∷ row "857 bytes leave what is lent for a packet" (packet_bytes_on (nines 857) 0 0 (nines 16)) (nines 16) same
    ∷ row "a payload of nobody's slot" (payload_answer_on (nines 858) 1 0 2 [] (nines 2)) 14 same
    ∷ row "a payload of slot 9" (payload_answer_on (nines 858) 1 9 2 [] (nines 2)) 1 same
    ∷ row "a payload to group 2" (payload_answer_on (nines 858) 2 0 2 [] (nines 2)) 1 same
    ∷ row "a payload in 857 bytes" (payload_answer_on (nines 857) 2 0 2 [] (nines 2)) 9 same
    ∷ row "a payload of its own slot" (payload_answer_on (1 ∷ nines 857) 0 0 2 [] (nines 2)) 0 same
    ∷ row "with a frame of one byte" (payload_answer_on (1 ∷ nines 857) 0 0 2 (nines 1) (nines 2)) 9 same
    ∷ row "with one byte lent" (payload_answer_on (1 ∷ nines 857) 0 0 2 [] (nines 1)) 9 same
    ∷ row "with a P of 2,341" (payload_answer_on (1 ∷ nines 857) 0 0 2341 [] (nines 2)) 4 same
    ∷ row "zeros for it" (payload_bytes_on (1 ∷ nines 857) 0 0 2 [] (nines 2)) (0 ∷ 0 ∷ []) same
    ∷ row "a board into 130 bytes" (shown_answer_on 130 (nines 858) 0 (nines 130)) 0 same
    ∷ row "into 131" (shown_answer_on 130 (nines 858) 0 (nines 131)) 9 same
    ∷ row "of group 2" (shown_answer_on 130 (nines 858) 2 (nines 131)) 1 same
    ∷ row "out of 857" (shown_answer_on 130 (nines 857) 2 (nines 130)) 9 same
    ∷ row "131 bytes stay" (board_bytes_on (nines 858) 0 (nines 131)) (nines 131) same
    ∷ row "group 2 leaves 130" (board_bytes_on (nines 858) 2 (nines 130)) (nines 130) same
    ∷ row "63 bytes for what is owned stay" (owned_bytes_on (nines 858) 0 (nines 63)) (nines 63) same
    ∷ row "a claim of slot 9" (call_answer_on true 0 (C.Claim 9) (nines 858)) 1 same
    ∷ row "an add of nobody's slot" (call_answer_on true 0 (C.AddSlot 0) (nines 858)) 14 same
    ∷ row "a number that is no byte is 8" (call_answer_on false 0 (C.Claim 9) (nines 858)) 8 same
    ∷ row "to group 2 it is 1" (call_answer_on false 2 (C.Claim 9) (nines 858)) 1 same
    ∷ row "in 857 bytes 9" (call_answer_on false 2 (C.Claim 9) (nines 857)) 9 same
    ∷ row "14 leaves the bytes" (call_state_on true 0 (C.AddSlot 0) (nines 858)) (nines 858) same
    ∷ row "8 leaves them" (call_state_on false 0 (C.Claim 2) (nines 858)) (nines 858) same
    ∷ row "1 leaves them" (call_state_on true 2 (C.Claim 2) (nines 858)) (nines 858) same
    ∷ row "9 leaves them" (call_state_on true 0 (C.Claim 2) (nines 857)) (nines 857) same
    ∷ row "858 bytes and group 1" (refusal_of 858 1) 0 same
    ∷ row "group 2" (refusal_of 858 2) 1 same
    ∷ row "857 bytes" (refusal_of 857 2) 9 same
    ∷ row "859 bytes" (refusal_of 859 0) 9 same
    ∷ row "slot 5 with a GID that is none is 8" (packet_answer_on (nines 5 ++ (1 ∷ nines 852)) 0 5 (nines 16)) 8 same
    ∷ row "a payload of slot 5" (payload_answer_on (nines 5 ++ (1 ∷ nines 852)) 0 5 2 [] (nines 2)) 0 same
    ∷ row "zeros for slot 5" (payload_bytes_on (nines 5 ++ (1 ∷ nines 852)) 0 5 2 [] (nines 2)) (0 ∷ 0 ∷ []) same
    ∷ [])

-- add 0 0, which nobody owns, and a kind that is none
abbrev order : List (List ℕ)
order = (0 ∷ 0 ∷ 0 ∷ []) ∷ (4 ∷ 0 ∷ 0 ∷ []) ∷ []

orders : Pinned
unfolding all_open
orders =
    pins "An order's rows are kind, group and slot; each is answered in its place, and answers of another number are 9 (include/levelspruce.h; request 2026-07)."
    (row "14, and 8 for a kind that is none" (order_answers_on (nines 858) order (nines 2)) (14 ∷ 8 ∷ []) same
    ∷ row "the order's own answer" (order_answer_on (nines 858) order (nines 2)) 0 same
    ∷ row "three answers lent for two" (order_answer_on (nines 858) order (nines 3)) 9 same
    ∷ row "857 bytes" (order_answer_on (nines 857) order (nines 2)) 9 same
    ∷ row "three answers stay" (order_answers_on (nines 858) order (nines 3)) (nines 3) same
    ∷ row "under 857 bytes they stay" (order_answers_on (nines 857) order (nines 2)) (nines 2) same
    ∷ row "a claim by group 1" (take 2 (order_state_on (nines 858) ((2 ∷ 1 ∷ 0 ∷ []) ∷ []) (nines 1))) (2 ∷ 9 ∷ []) same
    ∷ row "a claim by group 1, which is not made where two answers are lent" (take 2 (order_state_on (nines 858) ((2 ∷ 1 ∷ 0 ∷ []) ∷ []) (nines 2))) (nines 2) same
    ∷ row "a claim in 857 bytes is not made" (order_state_on (nines 857) ((2 ∷ 1 ∷ 0 ∷ []) ∷ []) (nines 1)) (nines 857) same
    ∷ row "kind 3 is a release" (kind_answer_on 3 0 0 (1 ∷ nines 857)) 0 same
    ∷ row "kind 4 is 8" (kind_answer_on 4 0 0 (1 ∷ nines 857)) 8 same
    ∷ row "kind 4 is 8, also to group 2" (kind_answer_on 4 2 0 (1 ∷ nines 857)) 8 same
    ∷ row "kind 4 is 8, and leaves the bytes" (kind_state_on 4 0 0 (1 ∷ nines 857)) (1 ∷ nines 857) same
    ∷ row "a claim of slot 5" (order_answers_on (nines 858) ((2 ∷ 1 ∷ 5 ∷ []) ∷ []) (nines 1)) (0 ∷ []) same
    ∷ row "a claim of slot 5, which is group 1's then" (take 6 (order_state_on (nines 858) ((2 ∷ 1 ∷ 5 ∷ []) ∷ []) (nines 1))) (nines 5 ++ (2 ∷ [])) same
    ∷ row "a release of slot 5" (take 6 (kind_state_on 3 0 5 (nines 5 ++ (1 ∷ nines 852)))) (nines 5 ++ (0 ∷ [])) same
    ∷ [])

-- A command in C is its kind, its group and its slot (request 2026-07).
pub places_in_c : (state : List ℕ) (kind group slot : ℕ)
    → (command_answer_on state (kind ∷ group ∷ slot ∷ []) ≡ kind_answer_on kind group slot state) × (command_state_on state (kind ∷ group ∷ slot ∷ []) ≡ kind_state_on kind group slot state)
places_in_c state kind group slot = (refl, refl)
