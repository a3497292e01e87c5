-- What a C program hands over and is given back, byte by byte, as include/levelspruce.h has it.
use Rattle.std.specs.Prelude.{true, false, List, [], ◌∷◌, ◌++◌, ℕ, drop, length, replicate, take}
use Rattle.c_face.specs.Boards.{board_bytes_of, ranks_bytes_of}
use Rattle.c_cards.specs.Cards.{start_answer_on, start_state_on}
use Rattle.c_cards.specs.Changes.{applied_answer_c, applied_bytes_c, compared_answer_c, compared_bytes_c, spoken_answer_c, spoken_bytes_c, written_c}
use Rattle.c_face.specs.Keeping.{sender_of}
use Rattle.c_face.specs.Packets.{given, read_answer_c, read_fields_c, read_fixed_answer_c, read_fixed_fields_c, values_in, write_answer_c, write_bytes_c, write_fixed_answer_c}
use Rattle.c_face.specs.Payloads.{join_answer_c, join_frame_c, spread_answer_c, spread_members_c}
use Rattle.c_cards.specs.Plans.{check_answer_c, check_byte_c, plan_answer_c, plan_bytes_c}
use Rattle.c_receiver.specs.Receivers.{failed_c, kind_c, start_as_answer_c, start_as_rows_c}
use Rattle.c_face.specs.Senders.{start_answer_c, start_state_c}
use Rattle.pinned.specs.Filled.{nines, zeros}
use Rattle.rows.specs.Group.{group_at}
use Rattle.rows.specs.Member.{member_at}
use Rattle.sender.specs.declared.board.Board.{Board}
use Rattle.sender.specs.declared.ranks.Ranks.{Ranks}
use Rattle.text.specs.Ascii.{ascii}
use Rattle.pinned.specs.Opened.{all_open}
use Rattle.tables.specs.Rows.{Pinned, pins, row, same}

-- A packet's fields, one by one in the order of the call: epoch 200, DNU, GID 1, MST A5, RS-Ack 1, SQ 77, with no reserved bit; read, ten bytes, the last four the reserved bits.
abbrev mixed : List ℕ
mixed = 0xA8 ∷ 0x59 ∷ 0x1A ∷ 0x0B ∷ 0x0C ∷ 0x0D ∷ 0x4E ∷ 0xDF ∷ 0xC0 ∷ 0x81 ∷ 0xF2 ∷ 0x13 ∷ 0x04 ∷ 0x05 ∷ 0xA6 ∷ 0x77 ∷ []

-- a fixed group's packet of epoch 58 with SQ 5, and one with the word ADD
abbrev fixed : List ℕ
fixed = 0x08 ∷ 0x09 ∷ 0x0A ∷ 0x0B ∷ 0x0C ∷ 0x0D ∷ 0x0E ∷ 0x5F ∷ 0x30 ∷ 0xA1 ∷ 0x02 ∷ 0x03 ∷ 0x04 ∷ 0x05 ∷ 0x06 ∷ 0x07 ∷ []

abbrev worded : List ℕ
worded = 0x08 ∷ 0x09 ∷ 0x0A ∷ 0x0B ∷ 0x0C ∷ 0x0D ∷ 0x0E ∷ 0x5F ∷ 0x30 ∷ 0xA1 ∷ 0x12 ∷ 0x03 ∷ 0x04 ∷ 0x05 ∷ 0x06 ∷ 0x07 ∷ []

packets_in_c : Pinned
unfolding all_open
packets_in_c =
    pins "A packet's fields go over one by one in the order of the call: epoch, word, GID, MST, RS-Ack, SQ, reserved bits; read, they are ten bytes, the last four the reserved bits (include/levelspruce.h)."
    (row "epoch 200, DNU, GID 1, MST A5, RS-Ack 1, SQ 77 written" (write_bytes_c 200 15 1 0xA5 1 77 0 (nines 16)) mixed same
    ∷ row "epoch 200, DNU, GID 1, MST A5, RS-Ack 1, SQ 77 written, its answer" (write_answer_c 200 15 1 0xA5 1 77 0 (nines 16)) 0 same
    ∷ row "read back, ten bytes" (read_fields_c mixed (nines 10)) (200 ∷ 15 ∷ 1 ∷ 0xA5 ∷ 1 ∷ 77 ∷ 0 ∷ 0 ∷ 0 ∷ 0 ∷ []) same
    ∷ row "read back, ten bytes, its answer when read" (read_answer_c mixed (nines 10)) 0 same
    ∷ row "sixteen bytes of FF leave the ten bytes" (read_fields_c (replicate 16 0xFF) (nines 10)) (nines 10) same
    ∷ row "a wrong CRC is 5" (read_answer_c (replicate 16 0xFF) (nines 10)) 5 same
    ∷ row "nine bytes lent for the fields are 9" (read_answer_c mixed (nines 9)) 9 same
    ∷ row "nine bytes lent for the fields are 9, and stay" (read_fields_c mixed (nines 9)) (nines 9) same
    ∷ row "each field at its byte, the reserved bits highest byte first" (values_in (given 1 2 3 4 5 6 0x2010305)) (1 ∷ 2 ∷ 3 ∷ 4 ∷ 5 ∷ 6 ∷ 2 ∷ 1 ∷ 3 ∷ 5 ∷ []) same
    ∷ row "a fixed group's packet, read" (read_fixed_fields_c fixed (nines 10)) (58 ∷ 0 ∷ 0 ∷ 0 ∷ 0 ∷ 5 ∷ 0 ∷ 0 ∷ 0 ∷ 0 ∷ []) same
    ∷ row "a fixed group's packet, its answer when read" (read_fixed_answer_c fixed (nines 10)) 0 same
    ∷ row "the word ADD in it is 6" (read_fixed_answer_c worded (nines 10)) 6 same
    ∷ row "the word ADD in it is 6, and leaves the ten bytes" (read_fixed_fields_c worded (nines 10)) (nines 10) same
    ∷ row "nine bytes lent for its fields are 9" (read_fixed_answer_c fixed (nines 9)) 9 same
    ∷ row "a fixed group's packet is written" (write_fixed_answer_c 58 5 (nines 16)) 0 same
    ∷ row "epoch 256 is 8" (write_fixed_answer_c 256 5 (nines 16)) 8 same
    ∷ row "SQ 256 is 8" (write_fixed_answer_c 58 256 (nines 16)) 8 same
    ∷ row "fifteen bytes lent are 9" (write_fixed_answer_c 58 5 (nines 15)) 9 same
    ∷ row "nine bytes lent for a fixed group's fields stay" (read_fixed_fields_c fixed (nines 9)) (nines 9) same
    ∷ row "a fixed group's packet of fifteen bytes is 9" (read_fixed_answer_c (nines 15) (nines 10)) 9 same
    ∷ [])

-- A plan's 65 bytes: how many, then the candidates, the rest 255. A check's byte is 1 or 0.
abbrev delays : List ℕ
delays = 0 ∷ 100 ∷ 16 ∷ 20 ∷ []

plans_in_c : Pinned
unfolding all_open
plans_in_c =
    pins "A plan's 65 bytes: how many, then the candidates, the rest 255. A check's byte is 1 or 0 (include/levelspruce.h; request 2026-09)."
    (row "three of four with W 36" (plan_bytes_c delays 3 36 (nines 65)) (3 ∷ 0 ∷ 2 ∷ 3 ∷ replicate 61 255) same
    ∷ row "three of four with W 36, its answer" (plan_answer_c delays 3 36 (nines 65)) 0 same
    ∷ row "64 bytes lent are 9" (plan_answer_c delays 3 36 (nines 64)) 9 same
    ∷ row "five of four are 4, before 9" (plan_answer_c delays 5 36 (nines 64)) 4 same
    ∷ row "five of four are 4, before 9, and leave the bytes" (plan_bytes_c delays 5 36 (nines 65)) (nines 65) same
    ∷ row "a set within W 20 is checked to 1" (check_byte_c delays 2 20 (3 ∷ 2 ∷ []) (9 ∷ [])) (1 ∷ []) same
    ∷ row "with W 19 to 0" (check_byte_c delays 2 19 (3 ∷ 2 ∷ []) (9 ∷ [])) (0 ∷ []) same
    ∷ row "two bytes lent for the check stay" (check_byte_c delays 2 20 (3 ∷ 2 ∷ []) (nines 2)) (nines 2) same
    ∷ row "the check's answer" (check_answer_c delays 2 20 (9 ∷ [])) 0 same
    ∷ row "no byte lent is 9" (check_answer_c delays 2 20 []) 9 same
    ∷ row "a k of 0 is 4, before 9" (check_answer_c delays 0 20 []) 4 same
    ∷ row "64 bytes lent for a plan stay" (plan_bytes_c delays 3 36 (nines 64)) (nines 64) same
    ∷ row "one path of two is checked to 1" (check_byte_c (0 ∷ 100 ∷ []) 1 16 (1 ∷ []) (9 ∷ [])) (1 ∷ []) same
    ∷ [])

-- P9's two boards, 130 bytes each: the count, the wait, then word and number of each slot. Slot 1 was NORM 1 and is IDLE 255, slot 2 was EOS 2 and is EOS 1, and a wait has opened.
abbrev before : List ℕ
before = 3 ∷ 0 ∷ 2 ∷ 0 ∷ 2 ∷ 1 ∷ 3 ∷ 2 ∷ zeros 122

abbrev now : List ℕ
now = 3 ∷ 1 ∷ 2 ∷ 0 ∷ 5 ∷ 255 ∷ 3 ∷ 1 ∷ zeros 122

-- 322 bytes: how many, 1 for a wait that has opened or 2 for one that has closed, then of each change its slot, old word and number, new word and number
abbrev told : List ℕ
told = 2 ∷ 1 ∷ 1 ∷ 2 ∷ 1 ∷ 5 ∷ 255 ∷ 2 ∷ 3 ∷ 2 ∷ 3 ∷ 1 ∷ zeros 310

abbrev back : List ℕ
back = 2 ∷ 2 ∷ 1 ∷ 5 ∷ 255 ∷ 2 ∷ 1 ∷ 2 ∷ 3 ∷ 1 ∷ 3 ∷ 2 ∷ zeros 310

changes_in_c : Pinned
unfolding all_open
changes_in_c =
    pins "Changes take 322 bytes: how many, 1 for a wait that has opened or 2 for one that has closed, then of each its slot, old word and number, new word and number; boards take 130 (include/levelspruce.h; request 2026-10)."
    (row "P9's changes" (take 14 (compared_bytes_c before now (nines 322))) (take 14 told) same
    ∷ row "P9's changes, the other way round" (take 14 (compared_bytes_c now before (nines 322))) (take 14 back) same
    ∷ row "of equal boards none, the first bytes" (take 4 (compared_bytes_c now now (nines 322))) (zeros 4) same
    ∷ row "of equal boards none, the first bytes, and as many bytes" (length (compared_bytes_c now now (nines 322))) 322 same
    ∷ row "the comparison's answer" (compared_answer_c before now (nines 322)) 0 same
    ∷ row "counts of 3 and 4 are 4" (compared_answer_c before (4 ∷ drop 1 now) (nines 322)) 4 same
    ∷ row "counts of 3 and 4 are 4, and leave the bytes" (compared_bytes_c before (4 ∷ drop 1 now) (nines 322)) (nines 322) same
    ∷ row "321 bytes lent are 9" (compared_answer_c before now (nines 321)) 9 same
    ∷ row "an old board of 129 bytes is 9" (compared_answer_c (drop 1 before) now (nines 322)) 9 same
    ∷ row "a new board of 129 bytes is 9" (compared_answer_c before (drop 1 now) (nines 322)) 9 same
    ∷ row "P9's changes applied" (take 10 (applied_bytes_c before told)) (take 10 now) same
    ∷ row "P9's changes applied, and back" (take 10 (applied_bytes_c now back)) (take 10 before) same
    ∷ row "P9's changes applied, their answer" (applied_answer_c before told) 0 same
    ∷ row "applied twice they are 2" (applied_answer_c now told) 2 same
    ∷ row "applied twice they are 2, and leave the board" (applied_bytes_c now told) now same
    ∷ row "a wait change of 3 is 2" (applied_answer_c before (2 ∷ 3 ∷ drop 2 told)) 2 same
    ∷ row "changes of 321 bytes are 9" (applied_answer_c before (drop 1 told)) 9 same
    ∷ row "a board of 129 bytes is 9" (applied_answer_c (drop 1 before) told) 9 same
    ∷ row "no changes leave the board" (take 10 (applied_bytes_c before (zeros 322))) (take 10 before) same
    ∷ row "no changes leave the board, and one with a wait" (take 10 (applied_bytes_c now (zeros 322))) (take 10 now) same
    ∷ [])

abbrev lines : List ℕ
lines = ascii "slot\t1\twas\tNORM\t1\tnow\tIDLE\t255\nslot\t2\twas\tEOS\t2\tnow\tEOS\t1\nwait\topen\n"

spoken_in_c : Pinned
unfolding all_open
spoken_in_c =
    pins "The lines of changes stand at the front of the 2,188 bytes lent, the rest stays, and how many were written is told under 0 alone (include/levelspruce.h; request 2026-10)."
    (row "P9's lines, and the byte behind them" (take 69 (spoken_bytes_c told (nines 2188))) (lines ++ nines 1) same
    ∷ row "as many bytes as were lent" (length (spoken_bytes_c told (nines 2188))) 2188 same
    ∷ row "P9's lines, their answer" (spoken_answer_c told (nines 2188)) 0 same
    ∷ row "68 were written" (written_c told (nines 2188) 5) 68 same
    ∷ row "2,187 bytes lent are 9" (spoken_answer_c told (nines 2187)) 9 same
    ∷ row "2,187 bytes lent are 9, and how many were written stays" (written_c told (nines 2187) 5) 5 same
    ∷ row "2,187 bytes lent stay" (take 2 (spoken_bytes_c told (nines 2187))) (nines 2) same
    ∷ row "a wait change of 3 is 2" (spoken_answer_c (2 ∷ 3 ∷ drop 2 told) (nines 2188)) 2 same
    ∷ row "a wait change of 3 is 2, and leaves the bytes" (take 2 (spoken_bytes_c (2 ∷ 3 ∷ drop 2 told) (nines 2188))) (nines 2) same
    ∷ row "changes of 321 bytes are 9" (spoken_answer_c (drop 1 told) (nines 2188)) 9 same
    ∷ [])

-- a count above 64 is shown as 64; ranks' bytes are count, begun, epoch, X, then the ranks
abbrev wide : Board
wide = record { rows = replicate 64 (record { word = record { 0 = 3 }; number = 7 }); count = 65; wait = true }

abbrev ranks : Ranks
ranks = record { ranks = 1 ∷ 0 ∷ replicate 62 255; count = 2; x = 4; epoch = 5; begun = true }

shown_in_c : Pinned
unfolding all_open
shown_in_c =
    pins "A board's bytes are count, wait, then word and number of each slot, a count above 64 shown as 64; ranks' bytes are count, begun, epoch, X, then the ranks; any number but 0 flags a frame, and a kind above 255 is none (include/levelspruce.h)."
    (row "a count of 65" (take 4 (board_bytes_of wide)) (64 ∷ 1 ∷ 3 ∷ 7 ∷ []) same
    ∷ row "a count of 65, its last slot" (drop 128 (board_bytes_of wide)) (3 ∷ 7 ∷ []) same
    ∷ row "ranks in their order" (ranks_bytes_of ranks) (2 ∷ 1 ∷ 5 ∷ 4 ∷ 1 ∷ 0 ∷ replicate 62 255) same
    ∷ row "0 flags no frame" (failed_c 0) false same
    ∷ row "1 flags it" (failed_c 1) true same
    ∷ row "256 flags it too" (failed_c 256) true same
    ∷ row "kind 2" (kind_c 2) 2 same
    ∷ row "kind 255" (kind_c 255) 255 same
    ∷ row "kind 256 is none" (kind_c 256) 255 same
    ∷ [])

starts_in_c : Pinned
unfolding all_open
starts_in_c =
    pins "A start: 4 for the count, 9 for the state, 8 for the epochs. 4 leaves an empty group, 8 and 9 leave the bytes (include/levelspruce.h)."
    (row "no slot is 4" (start_answer_c 0 0 7 (nines 397)) 4 same
    ∷ row "one slot" (start_answer_c 0 1 7 (nines 397)) 0 same
    ∷ row "64 slots from epoch 255 on" (start_answer_c 0 64 255 (nines 397)) 0 same
    ∷ row "65 slots are 4" (start_answer_c 0 65 7 (nines 397)) 4 same
    ∷ row "epoch 256 is 8" (start_answer_c 0 64 256 (nines 397)) 8 same
    ∷ row "epoch 256 in 396 bytes is 9" (start_answer_c 0 64 256 (nines 396)) 9 same
    ∷ row "4 for 65 slots comes before 9 and 8" (start_answer_c 0 65 256 (nines 396)) 4 same
    ∷ row "the first epoch is kept" (sender_of (start_state_c 0 3 7 (nines 397))).epoch 7 same
    ∷ row "the count is kept" (sender_of (start_state_c 0 3 7 (nines 397))).table.count 3 same
    ∷ row "of 65 slots the group is empty" (sender_of (start_state_c 0 65 7 (nines 397))).table.count 0 same
    ∷ row "epoch 256 leaves the bytes" (take 2 (start_state_c 0 3 256 (nines 397))) (nines 2) same
    ∷ row "396 bytes stay" (start_state_c 0 3 7 (nines 396)) (nines 396) same
    ∷ row "a card of no slot is 4" (start_answer_on 0 0 7 8 (nines 858)) 4 same
    ∷ row "of one slot" (start_answer_on 0 1 7 8 (nines 858)) 0 same
    ∷ row "group 0 from epoch 256 on is 8" (start_answer_on 0 1 256 8 (nines 858)) 8 same
    ∷ row "group 1 from epoch 256 on is 8" (start_answer_on 0 1 7 256 (nines 858)) 8 same
    ∷ row "9 comes before 8" (start_answer_on 0 1 7 256 (nines 857)) 9 same
    ∷ row "a card's epoch 256 leaves the bytes" (take 2 (start_state_on 0 3 256 8 (nines 858))) (nines 2) same
    ∷ row "857 bytes stay" (take 2 (start_state_on 0 3 7 8 (nines 857))) (nines 2) same
    ∷ row "epoch 255 is kept" (sender_of (start_state_c 0 64 255 (nines 397))).epoch 255 same
    ∷ row "the kind is kept" (sender_of (start_state_c 0 3 7 (nines 397))).table.kind 0 same
    ∷ row "the empty group's kind is H4" (sender_of (start_state_c 0 65 7 (nines 397))).table.kind 0 same
    ∷ row "a receiver with no times" (start_as_answer_c 0 2 3 20 160 [] [] 11) 0 same
    ∷ row "a wait-to-restore of 5,001 is 4" (start_as_answer_c 0 2 3 20 160 (1 ∷ 2 ∷ []) (5001 ∷ 1 ∷ []) 11) 4 same
    ∷ row "the second port's hold-off" (member_at (start_as_rows_c 2 2 3 20 160 (3 ∷ 5000 ∷ []) (4 ∷ 300 ∷ []) (replicate 11 (nines 16))) 1).hold_off 5000 same
    ∷ row "the second port's wait-to-restore" (member_at (start_as_rows_c 2 2 3 20 160 (3 ∷ 5000 ∷ []) (4 ∷ 300 ∷ []) (replicate 11 (nines 16))) 1).restore 300 same
    ∷ row "a receiver's kind" (group_at (start_as_rows_c 2 2 3 20 160 [] [] (replicate 11 (nines 16)))).kind 2 same
    ∷ row "a receiver's P" (group_at (start_as_rows_c 2 2 3 20 160 [] [] (replicate 11 (nines 16)))).payload 3 same
    ∷ [])

payload_in_c : Pinned
payload_in_c =
    pins "P6 through the C calls: X 3, P 2, a group frame of the bytes 0 to 5, and the three members one after the other (include/levelspruce.h)"
    (row "P6 spread" (spread_members_c 3 2 (0 ∷ 1 ∷ 2 ∷ 3 ∷ 4 ∷ 5 ∷ []) (nines 6)) (0 ∷ 3 ∷ 1 ∷ 4 ∷ 2 ∷ 5 ∷ []) same
    ∷ row "P6 spread, its answer" (spread_answer_c 3 2 (nines 6) (nines 6)) 0 same
    ∷ row "five bytes lent for the members are 9" (spread_answer_c 3 2 (nines 6) (nines 5)) 9 same
    ∷ row "a frame of five bytes is 9" (spread_answer_c 3 2 (nines 5) (nines 6)) 9 same
    ∷ row "a P of 2,341 is 4" (spread_answer_c 3 2341 (nines 6) (nines 6)) 4 same
    ∷ row "a frame of five bytes leaves the members" (spread_members_c 3 2 (nines 5) (0 ∷ 0 ∷ [])) (0 ∷ 0 ∷ []) same
    ∷ row "P6 joined" (join_frame_c 3 2 (0 ∷ 3 ∷ 1 ∷ 4 ∷ 2 ∷ 5 ∷ []) (nines 6)) (0 ∷ 1 ∷ 2 ∷ 3 ∷ 4 ∷ 5 ∷ []) same
    ∷ row "P6 joined, its answer" (join_answer_c 3 2 (nines 6) (nines 6)) 0 same
    ∷ row "five bytes lent for the frame are 9" (join_answer_c 3 2 (nines 6) (nines 5)) 9 same
    ∷ row "65 members are 4" (join_answer_c 65 2 (nines 6) (nines 6)) 4 same
    ∷ row "members of five bytes leave the frame" (join_frame_c 3 2 (nines 5) (0 ∷ 0 ∷ [])) (0 ∷ 0 ∷ []) same
    ∷ [])
