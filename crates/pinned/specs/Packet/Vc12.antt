-- Groups of VC-12 (request 2026-01), clause by clause: the packet through C, the clock, starts at their limits, MST and the number of an IDLE slot. The figures were worked out apart. Packets and the step rule by themselves are tried in crates/packet/specs/Samples.antt and crates/step/specs/Samples.antt.
use Rattle.std.specs.Prelude.{Bool, true, false, not, ◌||◌, List, [], ◌∷◌, ℕ, ◌+◌, ◌-◌, ◌%◌, drop, get_or, replicate, take, if◌then◌else◌, ◌==◌}
use Rattle.ground.specs.Finite.{below, same_bits}
use Rattle.ground.specs.Polynomial.{check}
use Rattle.ground.specs.Table.{tabulate}
use Rattle.c_cards.specs.Cards.{card_of, start_answer_on, start_state_on}
use Rattle.c_face.specs.Keeping.{sender_of}
use Rattle.c_face.specs.Packets.{read_vc12_answer_c, read_vc12_fields_c, write_vc12_answer_c, write_vc12_bytes_c}
use Rattle.c_receiver.specs.Receivers.{start_as_answer_c}
use Rattle.c_face.specs.Senders.{call_state_c, packet_answer_c, packet_bytes_c, payload_answer_c, payload_bytes_c, start_answer_c, start_state_c}
use Rattle.packet.specs.Kinds.{ends_epoch, epoch_after, epoch_of, epochs_in, first_tag, idle_number, mst_first, place_of, tag_after, tag_before}
use Rattle.packet.specs.Symbols.{packet_row}
use Rattle.packet.specs.Vc12.{vc12_divisor}
use Rattle.step.specs.OwnCount.{odd_packet, own_ruling}
use Rattle.sender.specs.Calls.{Call, outcome_of, run}
use Rattle.sender.specs.Calls.Call.{AddSlot, Lapse, RemoveSlot, Report}
use Rattle.sender.specs.Commands.{start_of}
use Rattle.sender.specs.declared.table.State.TheVariants.{Active}
use Rattle.sender.specs.declared.table.Table.{Table}
use Rattle.sender.specs.Epochs.SenderCall.{StartEpoch}
use Rattle.sender.specs.Shown.{shown}
use Rattle.pinned.specs.Opened.{all_open}
use Rattle.tables.specs.Rows.{Pinned, pins, row, same}

abbrev nines : ℕ → List ℕ
nines n = replicate n 9

-- 00000 111111 0101 0 0000 0 11111111 010: IDLE 63, count 0, MST FF
abbrev idle : List ℕ
idle = 2 ∷ 0 ∷ 0 ∷ 0 ∷ 0 ∷ 1 ∷ 1 ∷ 1 ∷ 1 ∷ 1 ∷ 1 ∷ 0 ∷ 1 ∷ 0 ∷ 1 ∷ 0 ∷ 0 ∷ 0 ∷ 0 ∷ 0 ∷ 0 ∷ 1 ∷ 1 ∷ 1 ∷ 1 ∷ 1 ∷ 1 ∷ 1 ∷ 1 ∷ 0 ∷ 1 ∷ 0 ∷ []

-- 00001 000000 0011 1 0000 0 11111111 111: EOS 0, count 1, GID 1, MST FF
abbrev eos : List ℕ
eos = 2 ∷ 0 ∷ 0 ∷ 0 ∷ 1 ∷ 0 ∷ 0 ∷ 0 ∷ 0 ∷ 0 ∷ 0 ∷ 0 ∷ 0 ∷ 1 ∷ 1 ∷ 1 ∷ 0 ∷ 0 ∷ 0 ∷ 0 ∷ 0 ∷ 1 ∷ 1 ∷ 1 ∷ 1 ∷ 1 ∷ 1 ∷ 1 ∷ 1 ∷ 1 ∷ 1 ∷ 1 ∷ []

-- 11111 111111 0010 1 0000 1 00000000 000: NORM 63, count 31, GID 1, RS-Ack 1, MST 00
abbrev norm : List ℕ
norm = 3 ∷ 1 ∷ 1 ∷ 1 ∷ 1 ∷ 1 ∷ 1 ∷ 1 ∷ 1 ∷ 1 ∷ 1 ∷ 0 ∷ 0 ∷ 1 ∷ 0 ∷ 1 ∷ 0 ∷ 0 ∷ 0 ∷ 0 ∷ 1 ∷ 0 ∷ 0 ∷ 0 ∷ 0 ∷ 0 ∷ 0 ∷ 0 ∷ 0 ∷ 0 ∷ 0 ∷ 0 ∷ []

-- 00111 001001 0010 0 0000 0 00000000 010, NORM 9 of count 7 with MST 00, with bits 15 and 22 changed
abbrev hit : List ℕ
hit = 2 ∷ 0 ∷ 1 ∷ 1 ∷ 1 ∷ 0 ∷ 0 ∷ 1 ∷ 0 ∷ 0 ∷ 1 ∷ 0 ∷ 0 ∷ 1 ∷ 1 ∷ 0 ∷ 0 ∷ 0 ∷ 0 ∷ 0 ∷ 0 ∷ 1 ∷ 0 ∷ 0 ∷ 0 ∷ 0 ∷ 0 ∷ 0 ∷ 0 ∷ 0 ∷ 1 ∷ 0 ∷ []

written_in_c : Pinned
unfolding all_open
written_in_c =
    pins "The fields of a C call are epoch, word, GID, MST, RS-Ack, SQ, reserved (request 2026-01)."
    (row "IDLE 63" (write_vc12_bytes_c 0 5 0 0xFF 0 63 0 (nines 32)) idle same
    ∷ row "EOS 0" (write_vc12_bytes_c 1 3 1 0xFF 0 0 0 (nines 32)) eos same
    ∷ row "NORM 63" (write_vc12_bytes_c 31 2 1 0 1 63 0 (nines 32)) norm same
    ∷ row "each field at its largest" (write_vc12_answer_c 31 15 1 0xFF 1 63 15 (nines 32)) 0 same
    ∷ row "epoch 32" (write_vc12_answer_c 32 15 1 0xFF 1 63 15 (nines 32)) 8 same
    ∷ row "GID 2" (write_vc12_answer_c 31 15 2 0xFF 1 63 15 (nines 32)) 8 same
    ∷ row "MST 100 hex" (write_vc12_answer_c 31 15 1 0x100 1 63 15 (nines 32)) 8 same
    ∷ row "RS-Ack 2" (write_vc12_answer_c 31 15 1 0xFF 2 63 15 (nines 32)) 8 same
    ∷ row "SQ 64" (write_vc12_answer_c 31 15 1 0xFF 1 64 15 (nines 32)) 8 same
    ∷ row "reserved bits above 4" (write_vc12_answer_c 31 15 1 0xFF 1 63 16 (nines 32)) 8 same
    ∷ row "the word FIXED" (write_vc12_answer_c 31 0 1 0xFF 1 63 15 (nines 32)) 8 same
    ∷ row "the word 4" (write_vc12_answer_c 31 4 1 0xFF 1 63 15 (nines 32)) 8 same
    ∷ row "31 bytes lent, before 8" (write_vc12_answer_c 32 15 1 0xFF 1 63 15 (nines 31)) 9 same
    ∷ row "8 leaves the bytes" (write_vc12_bytes_c 32 15 1 0xFF 1 63 15 (nines 32)) (nines 32) same
    ∷ row "33 bytes stay" (write_vc12_bytes_c 31 15 1 0xFF 1 63 15 (nines 33)) (nines 33) same
    ∷ [])

read_in_c : Pinned
unfolding all_open
read_in_c =
    pins "Of each byte the lowest bit is looked at. Two changed bits seven apart read as another packet, EOS 9 with MST 80 (request 2026-01)."
    (row "IDLE 63" (read_vc12_fields_c idle (nines 10)) (0 ∷ 5 ∷ 0 ∷ 0xFF ∷ 0 ∷ 63 ∷ 0 ∷ 0 ∷ 0 ∷ 0 ∷ []) same
    ∷ row "EOS 0 with other bits set" (read_vc12_fields_c (tabulate 32 (λ k. 252 + get_or eos k 0)) (nines 10)) (1 ∷ 3 ∷ 1 ∷ 0xFF ∷ 0 ∷ 0 ∷ 0 ∷ 0 ∷ 0 ∷ 0 ∷ []) same
    ∷ row "NORM 63" (read_vc12_fields_c norm (nines 10)) (31 ∷ 2 ∷ 1 ∷ 0 ∷ 1 ∷ 63 ∷ 0 ∷ 0 ∷ 0 ∷ 0 ∷ []) same
    ∷ row "two bits seven apart changed" (read_vc12_fields_c hit (nines 10)) (7 ∷ 3 ∷ 0 ∷ 0x80 ∷ 0 ∷ 9 ∷ 0 ∷ 0 ∷ 0 ∷ 0 ∷ []) same
    ∷ row "are answered 0" (read_vc12_answer_c hit (nines 10)) 0 same
    ∷ row "zeros are 7" (read_vc12_answer_c (replicate 32 0) (nines 10)) 7 same
    ∷ row "ones are 5" (read_vc12_answer_c (replicate 32 1) (nines 10)) 5 same
    ∷ row "nine bytes lent are 9, before 5" (read_vc12_answer_c (replicate 32 1) (nines 9)) 9 same
    ∷ row "31 bytes are 9" (read_vc12_answer_c (replicate 31 0) (nines 10)) 9 same
    ∷ row "5 leaves the fields" (read_vc12_fields_c (replicate 32 1) (nines 10)) (nines 10) same
    ∷ row "nine bytes stay" (read_vc12_fields_c idle (nines 9)) (nines 9) same
    ∷ [])

-- 'two changed bits seven places apart pass this CRC': of the packet of zeros, whose CRC is right, with the bits at two places changed it is right exactly where they stand 7, 14, 21 or 28 places apart.
abbrev passes : ℕ → ℕ → Bool
passes i j = let l = tabulate 32 (λ k. k == i || k == j) in same_bits (check vc12_divisor (take 29 l)) (drop 29 l)

two_pass : Pinned
unfolding all_open
two_pass =
    pins "'two changed bits seven places apart pass this CRC' (request 2026-01): of the packet of zeros, whose CRC is right, with the bits at two places changed it is right exactly where they stand 7, 14, 21 or 28 places apart."
    (row "every two places of 32" (below 32 (λ j. below j (λ i. if (j - i) % 7 == 0 then passes i j else not (passes i j)))) true same
    ∷ [])

clock : Pinned
unfolding all_open
clock =
    pins "'An epoch is 32 frames', 'Tags run 0 to 1,023', and an epoch starts with its count. 'MST speaks of numbers 8 x (count mod 8) onward', and an epoch's number that no count has is taken modulo 8 too (request 2026-01)."
    (row "tag 31 is of epoch 0" (epoch_of 1 31) 0 same
    ∷ row "tag 32 is of epoch 1" (epoch_of 1 32) 1 same
    ∷ row "tag 1,023 is of epoch 31" (epoch_of 1 1023) 31 same
    ∷ row "epoch 0 begins with tag 0" (first_tag 1 0) 0 same
    ∷ row "epoch 31 begins with tag 992" (first_tag 1 31) 992 same
    ∷ row "0 comes after tag 1,023" (tag_after 1 1023) 0 same
    ∷ row "1,023 comes before tag 0" (tag_before 1 0) 1023 same
    ∷ row "0 comes after epoch 31" (epoch_after 1 31) 0 same
    ∷ row "tag 37 is place 5" (place_of 1 37) 5 same
    ∷ row "the sixteenth frame ends no epoch" (ends_epoch 1 15) false same
    ∷ row "the 32nd does" (ends_epoch 1 31) true same
    ∷ row "63 frames hold one epoch" (epochs_in 1 63) 1 same
    ∷ row "1,023 hold 31" (epochs_in 1 1023) 31 same
    ∷ row "of which numbers MST speaks in epochs 0, 1, 7, 8, 15, 31 and 255" (tabulate 7 (λ i. mst_first 1 (get_or (0 ∷ 1 ∷ 7 ∷ 8 ∷ 15 ∷ 31 ∷ 255 ∷ []) i 0))) (0 ∷ 8 ∷ 56 ∷ 0 ∷ 56 ∷ 56 ∷ 56 ∷ []) same
    ∷ row "an IDLE slot's number" (idle_number 1) 63 same
    ∷ [])

starts_of_kinds : Pinned
unfolding all_open
starts_of_kinds =
    pins "Senders and cards of a kind: H4 and VC-12 and no other; first epochs to 255 and to 31. What is refused with 4 is an empty group of H4 (request 2026-01)."
    (row "H4 from epoch 255 on" (start_answer_c 0 64 255 (nines 397)) 0 same
    ∷ row "VC-12 from epoch 31 on" (start_answer_c 1 64 31 (nines 397)) 0 same
    ∷ row "VC-12 from epoch 32 on" (start_answer_c 1 64 32 (nines 397)) 8 same
    ∷ row "H4 from epoch 32 on" (start_answer_c 0 64 32 (nines 397)) 0 same
    ∷ row "kind 2" (start_answer_c 2 64 0 (nines 397)) 4 same
    ∷ row "kind 3" (start_answer_c 3 64 0 (nines 397)) 4 same
    ∷ row "kind 257" (start_answer_c 257 64 0 (nines 397)) 4 same
    ∷ row "65 slots" (start_answer_c 1 65 0 (nines 397)) 4 same
    ∷ row "4 before 9" (start_answer_c 3 64 32 (nines 396)) 4 same
    ∷ row "9 before 8" (start_answer_c 1 64 32 (nines 396)) 9 same
    ∷ row "the kind is kept" (sender_of (start_state_c 1 3 7 (nines 397))).table.kind 1 same
    ∷ row "the epoch is kept" (sender_of (start_state_c 1 3 7 (nines 397))).epoch 7 same
    ∷ row "kind 3 leaves no slot" (sender_of (start_state_c 3 3 7 (nines 397))).table.count 0 same
    ∷ row "kind 3 leaves H4" (sender_of (start_state_c 3 3 7 (nines 397))).table.kind 0 same
    ∷ row "65 slots leave H4" (sender_of (start_state_c 1 65 7 (nines 397))).table.kind 0 same
    ∷ row "8 leaves the bytes" (take 2 (start_state_c 1 3 32 (nines 397))) (nines 2) same
    ∷ row "a card of VC-12" (start_answer_on 1 1 31 31 (nines 858)) 0 same
    ∷ row "group 0 from epoch 32 on" (start_answer_on 1 1 32 31 (nines 858)) 8 same
    ∷ row "group 1 from epoch 32 on" (start_answer_on 1 1 31 32 (nines 858)) 8 same
    ∷ row "a card of kind 2" (start_answer_on 2 1 0 0 (nines 858)) 4 same
    ∷ row "a card of kind 257" (start_answer_on 257 1 0 0 (nines 858)) 4 same
    ∷ row "a card's 9 before 8" (start_answer_on 1 1 32 31 (nines 857)) 9 same
    ∷ row "group 0's kind" (card_of (start_state_on 1 3 7 8 (nines 858))).first.table.kind 1 same
    ∷ row "group 1's kind" (card_of (start_state_on 1 3 7 8 (nines 858))).second.table.kind 1 same
    ∷ row "kind 2 leaves H4" (card_of (start_state_on 2 3 7 8 (nines 858))).second.table.kind 0 same
    ∷ [])

sent_in_c : Pinned
unfolding all_open
sent_in_c =
    pins "A started sender of VC-12 writes 32 bytes: IDLE 63 in its first epoch, which is 0 (request 2026-01)."
    (row "IDLE 63 in epoch 0" (packet_bytes_c (call_state_c true (StartEpoch 0 0xFF 0) (start_state_c 1 1 0 (nines 397))) 0 (nines 32)) idle same
    ∷ row "sixteen bytes lent are 9" (packet_answer_c (call_state_c true (StartEpoch 0 0xFF 0) (start_state_c 1 1 0 (nines 397))) 0 (nines 16)) 9 same
    ∷ [])

-- the table of a VC-12 group after calls
abbrev of : ℕ → List Call → Table
of count calls = run (start_of 1 count).table calls

-- all 64 active
abbrev all : Table
all = record { slots = tabulate 64 (λ i. record { state = Active; number = i }); count = 64; wait = false; remembered = 0; kind = 1 }

fails : Pinned
unfolding all_open
fails =
    pins "In epoch 7 MST speaks of 56 to 63, and so it does in a report's epoch 15: of 64 members 63 is DNU, and EOS is on 62. In epoch 0 of 0 to 7 (request 2026-01)."
    (row "a report of epoch 7" (drop 124 (shown (outcome_of all (Report 7 0x01 0)).table)) (3 ∷ 62 ∷ 15 ∷ 63 ∷ 0 ∷ []) same
    ∷ row "of epoch 15" (drop 124 (shown (outcome_of all (Report 15 0x01 0)).table)) (3 ∷ 62 ∷ 15 ∷ 63 ∷ 0 ∷ []) same
    ∷ row "of epoch 8" (drop 124 (shown (outcome_of all (Report 8 0x01 0)).table)) (2 ∷ 62 ∷ 3 ∷ 63 ∷ 0 ∷ []) same
    ∷ row "a report of epoch 8 speaks of 7" (take 4 (drop 12 (shown (outcome_of all (Report 8 0x01 0)).table))) (2 ∷ 6 ∷ 15 ∷ 7 ∷ []) same
    ∷ [])

idles : Pinned
unfolding all_open
idles =
    pins "IDLE is shown under 63, at a start and after a removal, and no report of 63 finds such a slot: the word decides (request 2026-01)."
    (row "at a start" (shown (of 2 [])) (5 ∷ 63 ∷ 5 ∷ 63 ∷ 0 ∷ []) same
    ∷ row "after a removal" (shown (of 2 (AddSlot 1 ∷ Report 0 0x00 0 ∷ Lapse ∷ RemoveSlot 1 ∷ Lapse ∷ []))) (5 ∷ 63 ∷ 5 ∷ 63 ∷ 0 ∷ []) same
    ∷ row "a report of 63 OK finds none" (shown (of 2 (AddSlot 1 ∷ Report 0 0x00 0 ∷ Lapse ∷ RemoveSlot 1 ∷ Lapse ∷ Report 7 0x00 0 ∷ []))) (5 ∷ 63 ∷ 5 ∷ 63 ∷ 0 ∷ []) same
    ∷ row "a report of 63 FAIL finds none" (shown (of 2 (AddSlot 1 ∷ Report 0 0x00 0 ∷ Lapse ∷ Report 7 0x01 0 ∷ []))) (5 ∷ 63 ∷ 3 ∷ 0 ∷ 0 ∷ []) same
    ∷ [])

receivers : Pinned
unfolding all_open
receivers =
    pins "Receivers: W 32 to 512, P 136 alone, and no other kind. One port with W 32 has 32 x 137 bytes of store and six rows (request 2026-01)."
    (row "W 32" (start_as_answer_c 1 1 136 32 4384 [] [] 6) 0 same
    ∷ row "W 31" (start_as_answer_c 1 1 136 31 4247 [] [] 6) 4 same
    ∷ row "W 512" (start_as_answer_c 1 1 136 512 70144 [] [] 6) 0 same
    ∷ row "W 513" (start_as_answer_c 1 1 136 513 70281 [] [] 6) 4 same
    ∷ row "P 135" (start_as_answer_c 1 1 135 32 4352 [] [] 6) 4 same
    ∷ row "P 137" (start_as_answer_c 1 1 137 32 4416 [] [] 6) 4 same
    ∷ row "P 137 of H4" (start_as_answer_c 0 1 137 32 4416 [] [] 6) 0 same
    ∷ row "P 135 of a fixed group" (start_as_answer_c 2 1 135 32 4352 [] [] 6) 0 same
    ∷ row "kind 3" (start_as_answer_c 3 1 136 32 4384 [] [] 6) 4 same
    ∷ row "kind 257" (start_as_answer_c 257 1 136 32 4384 [] [] 6) 4 same
    ∷ row "64 ports" (start_as_answer_c 1 64 136 32 280576 [] [] 321) 0 same
    ∷ row "65 ports" (start_as_answer_c 1 65 136 32 284960 [] [] 326) 4 same
    ∷ row "a store one byte short" (start_as_answer_c 1 1 136 32 4383 [] [] 6) 9 same
    ∷ row "seven rows" (start_as_answer_c 1 1 136 32 4384 [] [] 7) 9 same
    ∷ row "4 before 9" (start_as_answer_c 1 1 135 32 4384 [] [] 7) 4 same
    ∷ row "a time of 5,001" (start_as_answer_c 1 1 136 32 4384 (5001 ∷ []) [] 6) 4 same
    ∷ [])

ruling : Pinned
unfolding all_open
ruling =
    pins "A packet rules by what it says, whatever the epoch is: by the step rule a whole one has its epoch's count. None is odd (request 2026-01)."
    (row "IDLE 63" (own_ruling 1 0 (packet_row 1 idle)) (record { good = true; word = 5; number = 63; gid = 0 }) same
    ∷ row "NORM 63" (own_ruling 1 31 (packet_row 1 norm)) (record { good = true; word = 2; number = 63; gid = 1 }) same
    ∷ row "in another epoch too" (own_ruling 1 30 (packet_row 1 norm)) (record { good = true; word = 2; number = 63; gid = 1 }) same
    ∷ row "ones rule nothing" (own_ruling 1 0 (packet_row 1 (replicate 32 1))) (record { good = false; word = 0; number = 0; gid = 0 }) same
    ∷ row "NORM 63 is not odd in another epoch" (odd_packet 1 30 (packet_row 1 norm)) false same
    ∷ row "NORM 63 is not odd in another epoch, nor in its own" (odd_packet 1 31 (packet_row 1 norm)) false same
    ∷ [])

payloads : Pinned
unfolding all_open
payloads =
    pins "The payload of a slot of a VC-12 sender: 1, 4, 9, 2. With no member X is 0, and the frame has no bytes (request 2026-01)."
    (row "slot 1 of one" (payload_answer_c (start_state_c 1 1 0 (nines 397)) 1 135 [] (nines 136)) 1 same
    ∷ row "P 135" (payload_answer_c (start_state_c 1 1 0 (nines 397)) 0 135 [] (nines 135)) 4 same
    ∷ row "P 137" (payload_answer_c (start_state_c 1 1 0 (nines 397)) 0 137 [] (nines 137)) 4 same
    ∷ row "135 bytes lent" (payload_answer_c (start_state_c 1 1 0 (nines 397)) 0 136 [] (nines 135)) 9 same
    ∷ row "before the first epoch" (payload_answer_c (start_state_c 1 1 0 (nines 397)) 0 136 [] (nines 136)) 2 same
    ∷ row "P 135 of H4" (payload_answer_c (start_state_c 0 1 0 (nines 397)) 0 135 [] (nines 135)) 2 same
    ∷ row "in an epoch" (payload_answer_c (call_state_c true (StartEpoch 0 0xFF 0) (start_state_c 1 1 0 (nines 397))) 0 136 [] (nines 136)) 0 same
    ∷ row "P 135 in an epoch" (payload_answer_c (call_state_c true (StartEpoch 0 0xFF 0) (start_state_c 1 1 0 (nines 397))) 0 135 [] (nines 135)) 4 same
    ∷ row "P 135 in an epoch, which leaves the bytes" (payload_bytes_c (call_state_c true (StartEpoch 0 0xFF 0) (start_state_c 1 1 0 (nines 397))) 0 135 [] (nines 135)) (nines 135) same
    ∷ [])
