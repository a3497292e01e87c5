-- The control packet's numbers (01, 'The control packet'; requests 2026-04 and 2026-08): tags, epochs, counts, words and fields, at their limits.
use Rattle.std.specs.Prelude.{true, false, List, [], ◌∷◌, ◌++◌, ℕ, ◌+◌, ◌-◌, ◌*◌, get_or, replicate, Ok}
use Rattle.ground.specs.Table.{tabulate}
use Rattle.ground.specs.Types.{Epoch}
use Rattle.packet.specs.Changes.{brings_mfi2, changed, kept_part, most_changes}
use Rattle.packet.specs.Counts.{counts, tag_by_high, tag_by_low}
use Rattle.packet.specs.declared.layout.Fields.{Fields}
use Rattle.packet.specs.Kinds.{ends_epoch, epoch_of, epochs_in, first_tag, mst_fails, mst_first, mst_numbers, place_of, tag_after, tag_before}
use Rattle.packet.specs.Layout.{carried_in, data_of, fields_of, h4_of}
use Rattle.packet.specs.Reading.{read_answer, reading_number}
use Rattle.packet.specs.Shares.{halves_of}
use Rattle.packet.specs.Symbols.{packet_row, symbol_at, symbol_of, with_symbol}
use Rattle.packet.specs.Words.{assigned, nibble_of, word_of}
use Rattle.packet.specs.Writing.{write_answer, write_bytes, writing_number}
use Rattle.pinned.specs.Opened.{all_open}
use Rattle.tables.specs.Rows.{Pinned, pins, row, same}

numbering : Pinned
unfolding all_open
numbering =
    pins "'from MFI1 8 to 15 and on to 0 to 7 of the next multiframe': epoch e has the tags from 16 x e - 8 on, sixteen of them, round 4,096; 'to that plus 7' are eight numbers (01, 'The control packet')"
    (row "tag 7 is of epoch 0" (epoch_of 0 7) 0 same
    ∷ row "of which numbers MST speaks in epochs 0, 1, 15, 16, 31, 32 and 255" (tabulate 7 (λ i. mst_first 0 (get_or (0 ∷ 1 ∷ 15 ∷ 16 ∷ 31 ∷ 32 ∷ 255 ∷ []) i 0))) (0 ∷ 8 ∷ 120 ∷ 128 ∷ 248 ∷ 0 ∷ 248 ∷ []) same
    ∷ row "tag 8 is of epoch 1" (epoch_of 0 8) 1 same
    ∷ row "tag 4,087 is of epoch 255" (epoch_of 0 4087) 255 same
    ∷ row "tag 4,088 is of epoch 0" (epoch_of 0 4088) 0 same
    ∷ row "epoch 0 begins with tag 4,088" (first_tag 0 0) 4088 same
    ∷ row "epoch 1 begins with tag 8" (first_tag 0 1) 8 same
    ∷ row "epoch 255 begins with tag 4,072" (first_tag 0 255) 4072 same
    ∷ row "0 comes after tag 4,095" (tag_after 0 4095) 0 same
    ∷ row "the bits of MST 96, the first for the lowest number" (tabulate 8 (mst_fails 0x96)) (true ∷ false ∷ false ∷ true ∷ false ∷ true ∷ true ∷ false ∷ []) same
    ∷ row "the bits of MST 96, the first for the lowest number, and of the eight numbers from 248 on" (tabulate 8 (λ i. mst_fails 0x96 (248 + i))) (true ∷ false ∷ false ∷ true ∷ false ∷ true ∷ true ∷ false ∷ []) same
    ∷ row "4,095 comes before tag 0" (tag_before 0 0) 4095 same
    ∷ row "the sixteenth frame of a window ends an epoch" (ends_epoch 0 15) true same
    ∷ row "the seventeenth does not" (ends_epoch 0 16) false same
    ∷ row "the 31st does not" (ends_epoch 0 30) false same
    ∷ row "the 32nd does" (ends_epoch 0 31) true same
    ∷ row "31 frames hold one epoch" (epochs_in 0 31) 1 same
    ∷ row "32 hold two" (epochs_in 0 32) 2 same
    ∷ row "4,095 hold 255" (epochs_in 0 4095) 255 same
    ∷ row "4,096 hold as many as none" (epochs_in 0 4096) 0 same
    ∷ row "a byte of MST speaks of eight numbers" (mst_numbers 0) 8 same
    ∷ [])

counted : Pinned
unfolding all_open
counted =
    pins "Tag 848 is the first of multiframe 35 hex: its first frame is 30 and no other, its second 51. A tag counts modulo 4,096; of that before a second frame the high nibble counts alone (01, 'The control packet')."
    (row "tag 848 is 30" (counts 0 848 0x30) true same
    ∷ row "tag 848 is 30, and not 20" (counts 0 848 0x20) false same
    ∷ row "tag 848 is 30, and not 40" (counts 0 848 0x40) false same
    ∷ row "tag 849 is 51" (counts 0 849 0x51) true same
    ∷ row "tag 849 is 51, and not 41" (counts 0 849 0x41) false same
    ∷ row "tag 849 is 51, and not 61" (counts 0 849 0x61) false same
    ∷ row "tag 256 is 10" (counts 0 256 0x10) true same
    ∷ row "tag 4,944 counts as tag 848" (counts 0 4944 0x30) true same
    ∷ row "a first frame F0" (tag_by_high 0 0xF0) 3841 same
    ∷ row "the second F1 behind it" (tag_by_low 0 769 0xF1) 1010 same
    ∷ row "of the tag before only the high nibble counts" (tag_by_low 0 510 0x51) 338 same
    ∷ row "of the tag before only the high nibble counts, and it counts modulo 4,096" (tag_by_low 0 4865 0x51) 850 same
    ∷ [])

symbols : Pinned
unfolding all_open
symbols =
    pins "MFI1 8 brings the packet's first nibble, MFI1 7 its last. The nibble is the byte's high one, and stands in the row at its place; what never comes changed is the low one. Of the sixteen places 8 and 9 bring MFI2 (01, 'The control packet')."
    (row "MFI1 8 is place 0" (place_of 0 40) 0 same
    ∷ row "MFI1 0 is place 8" (place_of 0 32) 8 same
    ∷ row "MFI1 7 is place 15" (place_of 0 39) 15 same
    ∷ row "the high nibble of A7" (symbol_of 0 0xA7) 10 same
    ∷ row "put at place 1" (with_symbol 0 (1 ∷ 2 ∷ 3 ∷ []) 1 0xA7) (1 ∷ 10 ∷ 3 ∷ []) same
    ∷ row "read at place 2" (symbol_at 0 (1 ∷ 2 ∷ 3 ∷ []) 2) 3 same
    ∷ row "the sixteen nibbles of a packet" (packet_row 0 (tabulate 16 (λ k. 0xF9 - 16 * k))) (15 ∷ 14 ∷ 13 ∷ 12 ∷ 11 ∷ 10 ∷ 9 ∷ 8 ∷ 7 ∷ 6 ∷ 5 ∷ 4 ∷ 3 ∷ 2 ∷ 1 ∷ 0 ∷ []) same
    ∷ row "what never comes changed of A7" (kept_part 0 3 0xA7) 7 same
    ∷ row "the places that bring MFI2" (tabulate 16 (brings_mfi2 0)) (replicate 8 false ++ (true ∷ true ∷ replicate 6 false)) same
    ∷ row "three changed bits at most" (most_changes 0) 3 same
    ∷ row "of a fixed group none" (most_changes 2) 0 same
    ∷ [])

words : Pinned
unfolding all_open
words =
    pins "'FIXED 0, ADD 1, NORM 2, EOS 3, IDLE 5, DNU 15. All others are unassigned.' A word is the low four bits of a byte (01, 'The control packet')."
    (row "which of 0 to 16 are assigned" (tabulate 17 (λ n. assigned (record { 0 = n }))) (true ∷ true ∷ true ∷ true ∷ false ∷ true ∷ false ∷ false ∷ false ∷ false ∷ false ∷ false ∷ false ∷ false ∷ false ∷ true ∷ false ∷ []) same
    ∷ row "a word of 3F" (word_of 0x3F) (record { 0 = 15 }) same
    ∷ row "the nibble of 35" (nibble_of (record { 0 = 0x35 })) 5 same
    ∷ row "the nibble of 1F" (nibble_of (record { 0 = 0x1F })) 15 same
    ∷ [])

-- DNU under number 180 (B4) in epoch 147 (93) with GID 1, MST 6A and RS-Ack 1. The 26 other bits, three beside RS-Ack, twelve, three beside GID, eight, are 101 0011 1100 1001 110 0010 1110, which is 29E4E2E.
-- Seven bytes 6A B3 C9 B4 93 FD 2E with CRC 42.
abbrev fields : Fields
fields = record { epoch = 0x93; word = record { 0 = 15 }; gid = 1; mst = 0x6A; rs_ack = 1; sq = 0xB4; reserved = 0x29E4E2E }

abbrev nibbles : List ℕ
nibbles = 6 ∷ 10 ∷ 11 ∷ 3 ∷ 12 ∷ 9 ∷ 11 ∷ 4 ∷ 9 ∷ 3 ∷ 15 ∷ 13 ∷ 2 ∷ 14 ∷ []

abbrev h4 : List ℕ
h4 = 0x68 ∷ 0xA9 ∷ 0xBA ∷ 0x3B ∷ 0xCC ∷ 0x9D ∷ 0xBE ∷ 0x4F ∷ 0x90 ∷ 0x31 ∷ 0xF2 ∷ 0xD3 ∷ 0x24 ∷ 0xE5 ∷ 0x46 ∷ 0x27 ∷ []

packet : Pinned
unfolding all_open
packet =
    pins "A packet is MST, RS-Ack, reserved bits, SQ, MFI2, word, GID, reserved bits, CRC-8, a nibble a frame; nibbles count by their low four bits; 9 for a length in reading and writing (01, 'The control packet'; request 2026-08)."
    (row "its fourteen nibbles" (data_of fields) nibbles same
    ∷ row "written as sixteen bytes of H4" (write_bytes fields (replicate 16 7)) h4 same
    ∷ row "read back" (read_answer h4) (Ok fields) same
    ∷ row "fields from nibbles with other high bits" (fields_of (tabulate 16 (λ i. 48 + get_or nibbles i 0))) fields same
    ∷ row "GID 0 and RS-Ack 0 with every other bit set" (data_of (record { epoch = 200; word = record { 0 = 2 }; gid = 0; mst = 0xA5; rs_ack = 0; sq = 77; reserved = 0x3FFFFFF })) (10 ∷ 5 ∷ 14 ∷ 15 ∷ 15 ∷ 15 ∷ 4 ∷ 13 ∷ 12 ∷ 8 ∷ 2 ∷ 14 ∷ 15 ∷ 15 ∷ []) same
    ∷ row "the CRC that a packet carries" (carried_in (replicate 16 0x5A)) 0xAA same
    ∷ row "nibbles as bytes of H4" (h4_of (replicate 16 0x5A)) (0xA8 ∷ 0xA9 ∷ 0xAA ∷ 0xAB ∷ 0xAC ∷ 0xAD ∷ 0xAE ∷ 0xAF ∷ 0xA0 ∷ 0xA1 ∷ 0xA2 ∷ 0xA3 ∷ 0xA4 ∷ 0xA5 ∷ 0xA6 ∷ 0xA7 ∷ []) same
    ∷ row "bytes as nibbles" (halves_of (0x6A ∷ 0xB3 ∷ [])) (6 ∷ 10 ∷ 11 ∷ 3 ∷ []) same
    ∷ row "fifteen bytes to read are 9" (reading_number (read_answer (replicate 15 0))) 9 same
    ∷ row "seventeen are 9" (reading_number (read_answer (replicate 17 0))) 9 same
    ∷ row "fifteen bytes to write are 9" (writing_number (write_answer fields (replicate 15 7))) 9 same
    ∷ row "fifteen bytes to write are 9, and stay" (write_bytes fields (replicate 15 7)) (replicate 15 7) same
    ∷ row "seventeen stay too" (write_bytes fields (replicate 17 7)) (replicate 17 7) same
    ∷ [])

abbrev wrote : (epoch : Epoch) (word gid mst ack sq reserved : ℕ) → ℕ
wrote epoch word gid mst ack sq reserved =
    writing_number (write_answer (record { epoch = epoch; word = record { 0 = word }; gid = gid; mst = mst; rs_ack = ack; sq = sq; reserved = reserved }) (replicate 16 7))

fits : Pinned
unfolding all_open
fits =
    pins "8: 'a field given for writing is too large, or its word is FIXED or unassigned'; each field at its largest, and one more (01, 'The control packet')"
    (row "each field at its largest" (wrote 255 15 1 255 1 255 0x3FFFFFF) 0 same
    ∷ row "epoch 256" (wrote 256 15 1 255 1 255 0x3FFFFFF) 8 same
    ∷ row "GID 2" (wrote 255 15 2 255 1 255 0x3FFFFFF) 8 same
    ∷ row "MST 256" (wrote 255 15 1 256 1 255 0x3FFFFFF) 8 same
    ∷ row "RS-Ack 2" (wrote 255 15 1 255 2 255 0x3FFFFFF) 8 same
    ∷ row "SQ 256" (wrote 255 15 1 255 1 256 0x3FFFFFF) 8 same
    ∷ row "reserved bits above 26" (wrote 255 15 1 255 1 255 0x4000000) 8 same
    ∷ row "the word FIXED" (wrote 0 0 0 0 0 0 0) 8 same
    ∷ row "the word ADD" (wrote 0 1 0 0 0 0 0) 0 same
    ∷ row "the word 4, which is unassigned" (wrote 0 4 0 0 0 0 0) 8 same
    ∷ row "the word 16" (wrote 0 16 0 0 0 0 0) 8 same
    ∷ row "epoch 256 leaves the bytes" (write_bytes (record { epoch = 256; word = record { 0 = 15 }; gid = 0; mst = 0; rs_ack = 0; sq = 0; reserved = 0 }) (replicate 16 7)) (replicate 16 7) same
    ∷ [])

damage : Pinned
unfolding all_open
damage =
    pins "'anywhere in a packet's 64' (request 2026-04): 8 is one bit, 3 is two, F four, and the low nibbles count for nothing"
    (row "one bit and two" (changed 0 (replicate 16 0x09) (0x89 ∷ 0x39 ∷ replicate 14 0x09)) 3 same
    ∷ row "four bits of the last" (changed 0 (replicate 16 0x39) (replicate 15 0x39 ++ (0xC7 ∷ []))) 4 same
    ∷ row "low nibbles count for nothing" (changed 0 (replicate 16 0x39) (replicate 16 0x37)) 0 same
    ∷ [])
