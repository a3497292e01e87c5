-- 01's examples, marked P1 to P11, its limits, examples worked out apart for what those leave open, and those of requests that have landed, in one table under one statement. Bytes stand in hexadecimal, as 01 has them.
use Rattle.std.specs.Prelude.{List, [], ◌∷◌, ◌++◌, ℕ, ◌+◌, length, replicate, if◌then◌else◌}
use Rattle.packet.specs.declared.layout.Fields.{Fields}
use Rattle.packet.specs.Crc.{crc_of}
use Rattle.packet.specs.Fixed.{read_fixed_answer, write_fixed_answer, write_fixed_bytes}
use Rattle.packet.specs.Layout.{byte_of, nibbles_of}
use Rattle.packet.specs.Reading.{read_answer, reading_number, reading_values}
use Rattle.packet.specs.Shares.{joined_to, share_of}
use Rattle.packet.specs.Words.{FIXED, ADD, NORM, EOS, IDLE, DNU}
use Rattle.packet.specs.Writing.{write_answer, write_bytes, writing_number}
use Rattle.text.specs.Ascii.{ascii}
use Rattle.session_lines.specs.Runs.{whole_output}
use Rattle.paths.specs.Answers.{answer_of}
use Rattle.paths.specs.Answers.{number_of as plan_number}
use Rattle.paths.specs.Checking.{checked_of}
use Rattle.paths.specs.Planning.{set_of}
use Rattle.payload.specs.Answers.{number_of}
use Rattle.payload.specs.Joining.{joined, whole_answer}
use Rattle.payload.specs.Spreading.{spread_all}
use Rattle.ground.specs.Table.{tabulate}
use Rattle.ground.specs.Types.{Bytes}
use Rattle.packet.specs.Kinds.{frames}
use Rattle.receiver.specs.Starting.{start_answer}
use Rattle.sender.specs.Board.{board_of}
use Rattle.sender.specs.declared.epochs.Sender.{Sender}
use Rattle.sender.specs.Calls.{Call}
use Rattle.sender.specs.Calls.Call.{AddSlot, Lapse, RemoveSlot, Report}
use Rattle.sender.specs.Epochs.{begin_of, sender_run}
use Rattle.sender.specs.Epochs.SenderCall.{OnTable, StartEpoch}
use Rattle.sender.specs.Shown.{after, shown, started}
use Rattle.spoken.specs.Changes.{compared_of}
use Rattle.spoken.specs.declared.lists.Changes.{Changes}
use Rattle.spoken.specs.Shown.{applied_numbers, compared_numbers}
use Rattle.spoken.specs.Speaking.{can_speak, spoken_text}
use Rattle.spoken.specs.Taking.{taken_of as board_taken}
use Rattle.conformance.specs.Examples.Hosts.{Host, begun, counting, fed, handed, opened, opened_with, stored}
use Rattle.tables.specs.Rows.{Equal, Row, equal_rows, row, same}
use Rattle.conformance.specs.Opened.{all_open}

-- nibbles two by two, as 01 writes a packet's data and CRC
abbrev bytes : List ℕ → List ℕ
bytes [] = []
bytes (a ∷ []) = a ∷ []
bytes (a ∷ b ∷ ns) = byte_of a b ∷ bytes ns

-- IDLE, SQ 255, MST all FAIL, RS-Ack 0, epoch 0, GID 0
abbrev p1 : Fields
p1 = record { epoch = 0; word = record { 0 = IDLE }; gid = 0; mst = 0xFF; rs_ack = 0; sq = 255; reserved = 0 }

-- EOS, SQ 0, MST all FAIL, epoch 1, GID 1
abbrev p2 : Fields
p2 = record { epoch = 1; word = record { 0 = EOS }; gid = 1; mst = 0xFF; rs_ack = 0; sq = 0; reserved = 0 }

-- a packet whose fields all differ: DNU, SQ 77, MST A5, RS-Ack 1, epoch 200, GID 1
abbrev mixed : Fields
mixed = record { epoch = 200; word = record { 0 = DNU }; gid = 1; mst = 0xA5; rs_ack = 1; sq = 77; reserved = 0 }

abbrev mixed_h4 : List ℕ
mixed_h4 = 0xA8 ∷ 0x59 ∷ 0x1A ∷ 0x0B ∷ 0x0C ∷ 0x0D ∷ 0x4E ∷ 0xDF ∷ 0xC0 ∷ 0x81 ∷ 0xF2 ∷ 0x13 ∷ 0x04 ∷ 0x05 ∷ 0xA6 ∷ 0x77 ∷ []

-- request 2026-08: NORM, SQ 17, epoch 5, GID 1, MST BF, RS-Ack 1, with reserved bits
abbrev relayed : ℕ → Fields
relayed reserved = record { epoch = 5; word = record { 0 = NORM }; gid = 1; mst = 0xBF; rs_ack = 1; sq = 17; reserved = reserved }

-- the answer of writing it and the H4 bytes, and what reading those gives. The five rows by turns tell each bit's place: no two bits are alike in all five.
abbrev wrote : ℕ → List ℕ
wrote reserved = writing_number (write_answer (relayed reserved) (replicate 16 0)) ∷ write_bytes (relayed reserved) (replicate 16 0)

abbrev came : Bytes → List ℕ
came h4 = reading_number (read_answer h4) ∷ reading_values (read_answer h4)

abbrev all_set : List ℕ
all_set = 0xB8 ∷ 0xF9 ∷ 0xFA ∷ 0xFB ∷ 0xFC ∷ 0xFD ∷ 0x1E ∷ 0x1F ∷ 0x00 ∷ 0x51 ∷ 0x22 ∷ 0xF3 ∷ 0xF4 ∷ 0xF5 ∷ 0xB6 ∷ 0x87 ∷ []

abbrev first_alone : List ℕ
first_alone = 0xB8 ∷ 0xF9 ∷ 0x9A ∷ 0x0B ∷ 0x0C ∷ 0x0D ∷ 0x1E ∷ 0x1F ∷ 0x00 ∷ 0x51 ∷ 0x22 ∷ 0x13 ∷ 0x04 ∷ 0x05 ∷ 0x76 ∷ 0x97 ∷ []

abbrev last_alone : List ℕ
last_alone = 0xB8 ∷ 0xF9 ∷ 0x1A ∷ 0x0B ∷ 0x0C ∷ 0x0D ∷ 0x1E ∷ 0x1F ∷ 0x00 ∷ 0x51 ∷ 0x22 ∷ 0x13 ∷ 0x04 ∷ 0x15 ∷ 0x96 ∷ 0x27 ∷ []

abbrev beside_gid : List ℕ
beside_gid = 0xB8 ∷ 0xF9 ∷ 0x1A ∷ 0x0B ∷ 0x0C ∷ 0x0D ∷ 0x1E ∷ 0x1F ∷ 0x00 ∷ 0x51 ∷ 0x22 ∷ 0xF3 ∷ 0x04 ∷ 0x05 ∷ 0x46 ∷ 0x37 ∷ []

abbrev p1_h4 : List ℕ
p1_h4 = 0xF8 ∷ 0xF9 ∷ 0x0A ∷ 0x0B ∷ 0x0C ∷ 0x0D ∷ 0xFE ∷ 0xFF ∷ 0x00 ∷ 0x01 ∷ 0x52 ∷ 0x03 ∷ 0x04 ∷ 0x05 ∷ 0x96 ∷ 0x97 ∷ []

-- request 2026-12: SQ 5 in epoch 58; with another word; with all that is not looked at set
abbrev fixed_h4 : List ℕ
fixed_h4 = 0x08 ∷ 0x09 ∷ 0x0A ∷ 0x0B ∷ 0x0C ∷ 0x0D ∷ 0x0E ∷ 0x5F ∷ 0x30 ∷ 0xA1 ∷ 0x02 ∷ 0x03 ∷ 0x04 ∷ 0x05 ∷ 0x06 ∷ 0x07 ∷ []

abbrev fixed_word : List ℕ
fixed_word = 0x08 ∷ 0x09 ∷ 0x0A ∷ 0x0B ∷ 0x0C ∷ 0x0D ∷ 0x0E ∷ 0x5F ∷ 0x30 ∷ 0xA1 ∷ 0x12 ∷ 0x03 ∷ 0x04 ∷ 0x05 ∷ 0x06 ∷ 0x07 ∷ []

abbrev fixed_set : List ℕ
fixed_set = 0xF8 ∷ 0xF9 ∷ 0xFA ∷ 0xFB ∷ 0xFC ∷ 0xFD ∷ 0x0E ∷ 0x5F ∷ 0x30 ∷ 0xA1 ∷ 0x02 ∷ 0xF3 ∷ 0xF4 ∷ 0xF5 ∷ 0xF6 ∷ 0xF7 ∷ []

abbrev fixed_came : Bytes → List ℕ
fixed_came h4 = reading_number (read_fixed_answer h4) ∷ reading_values (read_fixed_answer h4)

-- a member added and made active, its wait lapsed
abbrev active : ℕ → List Call
active slot = AddSlot slot ∷ Report 0 0x00 0 ∷ Lapse ∷ []

-- 'NORM 0, NORM 1, EOS 2; the middle one removed'
abbrev p9 : List Call
p9 = active 0 ++ (active 1 ++ (active 2 ++ (RemoveSlot 1 ∷ [])))

-- before that
abbrev p9_before : List Call
p9_before = active 0 ++ (active 1 ++ active 2)

abbrev p9_changes : Changes
p9_changes = (compared_of (board_of (after 3 p9_before)) (board_of (after 3 p9))).changes

-- 'NORM 0, EOS 1; FAIL for 1'
abbrev p10 : List Call
p10 = active 0 ++ (active 1 ++ (Report 0 0x40 0 ∷ []))

-- 'then FAIL for 0 and 1'
abbrev p11 : List Call
p11 = p10 ++ (Report 0 0xC0 0 ∷ [])

-- the calls of P8, with an epoch started before the report and one at the end
abbrev p8_first : Sender
p8_first = sender_run (begin_of 0 2 0).sender (OnTable (AddSlot 0) ∷ OnTable (AddSlot 1) ∷ StartEpoch 0 0xFF 0 ∷ [])

abbrev p8_second : Sender
p8_second = sender_run p8_first (OnTable (Report 0 0xBF 0) ∷ OnTable (RemoveSlot 0) ∷ StartEpoch 0 0xFF 0 ∷ [])

-- the lines from one board that went out to the next
abbrev spoken_lines : Sender → Sender → List ℕ
spoken_lines old new = spoken_text (compared_of (board_taken old) (board_taken new)).changes

-- 1 where changes can be spoken
abbrev sayable : Changes → ℕ
sayable cs = if can_speak cs then 1 else 0

-- one port in step, its latest tag 4,095
abbrev p5 : Host
p5 = fed 0 32 4064 (opened 1 16)

-- W is 32. Both ports in step, the latest tag of port 0 is 31, that of port 1 is apart frames more; port 0 comes into step last.
abbrev apart : ℕ → Host
apart frames = fed 0 32 0 (fed 1 (frames + 16) 16 (opened 2 32))

-- W is 16. The port joined at tag 40, and the epoch from there on is gathered; so the window's first frame has the tag 56.
abbrev joined56 : ℕ → Host
joined56 frames = fed 0 (56 + frames) 0 (opened 1 16)

-- four candidate paths
abbrev four : List ℕ
four = 0 ∷ 100 ∷ 16 ∷ 20 ∷ []

-- how many paths are proposed, and which
abbrev plan : (delays : List ℕ) (k W : ℕ) → List ℕ
plan delays k W = let set = set_of delays k W in length set ∷ set

-- 1 where the check accepts two of the four with W 20
abbrev accepted : List ℕ → ℕ
accepted set = if (checked_of four 2 20 set).accepted then 1 else 0

pub table : List Row
unfolding all_open
table =
    row "control words FIXED, ADD, NORM, EOS, IDLE, DNU" (FIXED ∷ ADD ∷ NORM ∷ EOS ∷ IDLE ∷ DNU ∷ []) (0 ∷ 1 ∷ 2 ∷ 3 ∷ 5 ∷ 15 ∷ []) same
    ∷ row "P1 data and CRC" (bytes (nibbles_of p1)) (0xFF ∷ 0x00 ∷ 0x00 ∷ 0xFF ∷ 0x00 ∷ 0x50 ∷ 0x00 ∷ 0x99 ∷ []) same
    ∷ row "P1 written" (writing_number (write_answer p1 (replicate 16 0)) ∷ write_bytes p1 (replicate 16 0)) (0 ∷ p1_h4) same
    ∷ row "P1 read" (came p1_h4) (0 ∷ 0 ∷ 5 ∷ 0 ∷ 0xFF ∷ 0 ∷ 255 ∷ 0 ∷ []) same
    ∷ row "P2 data and CRC" (bytes (nibbles_of p2)) (0xFF ∷ 0x00 ∷ 0x00 ∷ 0x00 ∷ 0x01 ∷ 0x31 ∷ 0x00 ∷ 0xC3 ∷ []) same
    ∷ row "each field at its place, written" (writing_number (write_answer mixed (replicate 16 0)) ∷ write_bytes mixed (replicate 16 0)) (0 ∷ mixed_h4) same
    ∷ row "each field at its place, read" (came mixed_h4) (0 ∷ 200 ∷ 15 ∷ 1 ∷ 0xA5 ∷ 1 ∷ 77 ∷ 0 ∷ []) same
    ∷ row "reserved bits 0, written" (wrote 0) (0 ∷ 0xB8 ∷ 0xF9 ∷ 0x1A ∷ 0x0B ∷ 0x0C ∷ 0x0D ∷ 0x1E ∷ 0x1F ∷ 0x00 ∷ 0x51 ∷ 0x22 ∷ 0x13 ∷ 0x04 ∷ 0x05 ∷ 0x96 ∷ 0x57 ∷ []) same
    ∷ row "all 26 set, written" (wrote 67108863) (0 ∷ all_set) same
    ∷ row "all 26 set, read" (came all_set) (0 ∷ 5 ∷ 2 ∷ 1 ∷ 0xBF ∷ 1 ∷ 17 ∷ 67108863 ∷ []) same
    ∷ row "the first reserved bit alone, written" (wrote 33554432) (0 ∷ first_alone) same
    ∷ row "the first reserved bit alone, read" (came first_alone) (0 ∷ 5 ∷ 2 ∷ 1 ∷ 0xBF ∷ 1 ∷ 17 ∷ 33554432 ∷ []) same
    ∷ row "the last reserved bit alone, written" (wrote 1) (0 ∷ last_alone) same
    ∷ row "the last reserved bit alone, read" (came last_alone) (0 ∷ 5 ∷ 2 ∷ 1 ∷ 0xBF ∷ 1 ∷ 17 ∷ 1 ∷ []) same
    ∷ row "the three bits beside GID, written" (wrote 1792) (0 ∷ beside_gid) same
    ∷ row "the three bits beside GID, read" (came beside_gid) (0 ∷ 5 ∷ 2 ∷ 1 ∷ 0xBF ∷ 1 ∷ 17 ∷ 1792 ∷ []) same
    ∷ row "reserved bits by turns of one, written" (wrote 44739242) (0 ∷ 0xB8 ∷ 0xF9 ∷ 0xBA ∷ 0x5B ∷ 0x5C ∷ 0x5D ∷ 0x1E ∷ 0x1F ∷ 0x00 ∷ 0x51 ∷ 0x22 ∷ 0x53 ∷ 0xA4 ∷ 0xA5 ∷ 0xD6 ∷ 0x37 ∷ []) same
    ∷ row "reserved bits by turns of two, written" (wrote 53687091) (0 ∷ 0xB8 ∷ 0xF9 ∷ 0xDA ∷ 0x6B ∷ 0x6C ∷ 0x6D ∷ 0x1E ∷ 0x1F ∷ 0x00 ∷ 0x51 ∷ 0x22 ∷ 0x73 ∷ 0x34 ∷ 0x35 ∷ 0xF6 ∷ 0x97 ∷ []) same
    ∷ row "reserved bits by turns of four, written" (wrote 63161283) (0 ∷ 0xB8 ∷ 0xF9 ∷ 0xFA ∷ 0x8B ∷ 0x7C ∷ 0x8D ∷ 0x1E ∷ 0x1F ∷ 0x00 ∷ 0x51 ∷ 0x22 ∷ 0x73 ∷ 0xC4 ∷ 0x35 ∷ 0xC6 ∷ 0x57 ∷ []) same
    ∷ row "reserved bits by turns of eight, written" (wrote 66847740) (0 ∷ 0xB8 ∷ 0xF9 ∷ 0xFA ∷ 0xFB ∷ 0x8C ∷ 0x0D ∷ 0x1E ∷ 0x1F ∷ 0x00 ∷ 0x51 ∷ 0x22 ∷ 0x73 ∷ 0xF4 ∷ 0xC5 ∷ 0xB6 ∷ 0x77 ∷ []) same
    ∷ row "reserved bits by turns of sixteen, written" (wrote 67107840) (0 ∷ 0xB8 ∷ 0xF9 ∷ 0xFA ∷ 0xFB ∷ 0xFC ∷ 0xFD ∷ 0x1E ∷ 0x1F ∷ 0x00 ∷ 0x51 ∷ 0x22 ∷ 0x93 ∷ 0x04 ∷ 0x05 ∷ 0x36 ∷ 0x57 ∷ []) same
    ∷ row "reserved 67,108,863 and 67,108,864" (writing_number (write_answer (relayed 67108863) (replicate 16 0)) ∷ writing_number (write_answer (relayed 67108864) (replicate 16 0)) ∷ []) (0 ∷ 8 ∷ []) same
    ∷ row "P3 CRC of 56 zero bits" (crc_of (replicate 14 0) ∷ []) (0x00 ∷ []) same
    ∷ row "P4 CRC of the last bit alone" (crc_of (replicate 13 0 ++ (1 ∷ [])) ∷ []) (0x07 ∷ []) same
    ∷ row "the share of 01 at places 0 to 6" (tabulate 7 (λ p. share_of p 0x01)) (0xDF ∷ 0x29 ∷ 0x62 ∷ 0x16 ∷ 0x6B ∷ 0x15 ∷ 0x07 ∷ []) same
    ∷ row "the share of FF at places 0 to 6" (tabulate 7 (λ p. share_of p 0xFF)) (0x44 ∷ 0xAF ∷ 0x39 ∷ 0xD1 ∷ 0x2B ∷ 0xD7 ∷ 0xF3 ∷ []) same
    ∷ row "the shares of P1's bytes, and they join to its CRC" (share_of 0 0xFF ∷ share_of 3 0xFF ∷ share_of 5 0x50 ∷ joined_to 7 (nibbles_of p1) ∷ []) (0x44 ∷ 0xD1 ∷ 0x0C ∷ 0x99 ∷ []) same
    ∷ row "the shares of P2's bytes join to its CRC" (joined_to 7 (nibbles_of p2) ∷ []) (0xC3 ∷ []) same
    ∷ row "FIXED, SQ 5 in epoch 58, written" (writing_number (write_fixed_answer 58 5 (replicate 16 0)) ∷ write_fixed_bytes 58 5 (replicate 16 0)) (0 ∷ fixed_h4) same
    ∷ row "FIXED, SQ 5 in epoch 58, read" (fixed_came fixed_h4) (0 ∷ 58 ∷ 0 ∷ 0 ∷ 0 ∷ 0 ∷ 5 ∷ 0 ∷ []) same
    ∷ row "FIXED, a word of 1 in it" (fixed_came fixed_word) (6 ∷ []) same
    ∷ row "FIXED, all that is not looked at set: the same fields" (fixed_came fixed_set) (0 ∷ 58 ∷ 0 ∷ 0 ∷ 0 ∷ 0 ∷ 5 ∷ 0 ∷ []) same
    ∷ row "FIXED, SQ 256, epoch 256, fifteen bytes lent" (writing_number (write_fixed_answer 58 256 (replicate 16 0)) ∷ writing_number (write_fixed_answer 256 5 (replicate 16 0)) ∷ writing_number (write_fixed_answer 58 5 (replicate 15 0)) ∷ []) (8 ∷ 8 ∷ 9 ∷ []) same
    ∷ row "P5: tag 4,095 then 0 keeps step" (p5.answer ∷ (handed 0 0 p5).answer ∷ []) (0 ∷ 0 ∷ []) same
    ∷ row "P5: 4,095 then 1 keeps step, with tag 0 counted" (p5.answer ∷ counting 0 (handed 0 1 p5)) (0 ∷ 0 ∷ 1 ∷ 32 ∷ 1 ∷ []) same
    ∷ row "P6 spread: X 3, P 2, bytes 0 to 5" (number_of (whole_answer 3 2 6 6) ∷ spread_all 3 2 (0 ∷ 1 ∷ 2 ∷ 3 ∷ 4 ∷ 5 ∷ []) (replicate 6 0)) (0 ∷ 0 ∷ 3 ∷ 1 ∷ 4 ∷ 2 ∷ 5 ∷ []) same
    ∷ row "P6 joined" (number_of (whole_answer 3 2 6 6) ∷ joined 3 2 (0 ∷ 3 ∷ 1 ∷ 4 ∷ 2 ∷ 5 ∷ []) (replicate 6 0)) (0 ∷ 0 ∷ 1 ∷ 2 ∷ 3 ∷ 4 ∷ 5 ∷ []) same
    ∷ row "P7: X 0, nothing" (number_of (whole_answer 0 2 0 0) ∷ spread_all 0 2 [] []) (0 ∷ []) same
    ∷ row "64 members" (number_of (whole_answer 64 1 64 64) ∷ []) (0 ∷ []) same
    ∷ row "65 members" (number_of (whole_answer 65 1 65 65) ∷ []) (4 ∷ []) same
    ∷ row "P of 0" (number_of (whole_answer 0 0 0 0) ∷ []) (4 ∷ []) same
    ∷ row "P of 2,340" (number_of (whole_answer 1 2340 2340 2340) ∷ []) (0 ∷ []) same
    ∷ row "P of 2,341" (number_of (whole_answer 1 2341 2341 2341) ∷ []) (4 ∷ []) same
    ∷ row "P8 the session's whole output" (whole_output (ascii "size\t2\nadd\t0\nadd\t1\nreport\t0\tBF\t0\nremove\t0\nboard\n")) (ascii "answer\t0\nanswer\t0\nanswer\t0\nanswer\t0\nanswer\t3\nslot\t0\tADD\t1\nslot\t1\tEOS\t0\nwait\t1\n") same
    ∷ row "a session with hex digits in small letters, DNU and NORM on its board, and lines that are malformed" (whole_output (ascii "size\t3\nadd\t0\nadd\t1\nadd\t2\nreport\t0\t1f\t0\nlapse\nreport\t0\t5f\t0\nboard\nsize\t0003\nreport\t0\t00\t2\nlapse\nadd\t0 \n")) (ascii "answer\t0\nanswer\t0\nanswer\t0\nanswer\t0\nanswer\t0\nanswer\t0\nanswer\t0\nslot\t0\tNORM\t0\nslot\t1\tDNU\t1\nslot\t2\tEOS\t2\nwait\t0\nanswer\t13\nanswer\t13\nanswer\t2\nanswer\t13\n") same
    ∷ row "P9: NORM 0, IDLE 255, EOS 1, wait open" (shown (after 3 p9)) (2 ∷ 0 ∷ 5 ∷ 255 ∷ 3 ∷ 1 ∷ 1 ∷ []) same
    ∷ row "P10: EOS 0, DNU 1, no wait" (shown (after 2 p10)) (3 ∷ 0 ∷ 15 ∷ 1 ∷ 0 ∷ []) same
    ∷ row "P11: two DNU, no EOS" (shown (after 2 p11)) (15 ∷ 0 ∷ 15 ∷ 1 ∷ 0 ∷ []) same
    ∷ row "P9 spoken: slot 1 NORM 1 to IDLE 255, slot 2 EOS 2 to EOS 1, wait opened" (compared_numbers (board_of (after 3 p9_before)) (board_of (after 3 p9))) (0 ∷ 1 ∷ 2 ∷ 1 ∷ 5 ∷ 255 ∷ 2 ∷ 3 ∷ 2 ∷ 3 ∷ 1 ∷ 1 ∷ []) same
    ∷ row "P9's changes applied" (applied_numbers (board_of (after 3 p9_before)) p9_changes) (0 ∷ 2 ∷ 0 ∷ 5 ∷ 255 ∷ 3 ∷ 1 ∷ 1 ∷ []) same
    ∷ row "P9's changes applied a second time" (applied_numbers (board_of (after 3 p9)) p9_changes) (2 ∷ 2 ∷ 0 ∷ 5 ∷ 255 ∷ 3 ∷ 1 ∷ 1 ∷ []) same
    ∷ row "P10 spoken: slot 0 NORM 0 to EOS 0, slot 1 EOS 1 to DNU 1, no wait" (compared_numbers (board_of (after 2 (active 0 ++ active 1))) (board_of (after 2 p10))) (0 ∷ 0 ∷ 2 ∷ 0 ∷ 3 ∷ 0 ∷ 1 ∷ 3 ∷ 1 ∷ 15 ∷ 1 ∷ 0 ∷ []) same
    ∷ row "P8 spoken in two epochs" (spoken_lines (begin_of 0 2 0).sender p8_first ++ spoken_lines p8_first p8_second) (ascii "slot\t0\twas\tIDLE\t255\tnow\tADD\t0\nslot\t1\twas\tIDLE\t255\tnow\tADD\t1\n" ++ ascii "slot\t0\twas\tADD\t0\tnow\tADD\t1\nslot\t1\twas\tADD\t1\tnow\tEOS\t0\nwait\topen\n") same
    ∷ row "a wait that closes is spoken alone" (spoken_text (compared_of (board_of (after 3 p9)) (board_of (after 3 (p9 ++ (Lapse ∷ []))))).changes) (ascii "wait\tclosed\n") same
    ∷ row "each of the five words can be spoken" (sayable (compared_of (board_taken (begin_of 0 2 0).sender) (board_taken p8_first)).changes ∷ sayable (compared_of (board_of (after 2 (active 0 ++ active 1))) (board_of (after 2 p10))).changes ∷ []) (1 ∷ 1 ∷ []) same
    ∷ row "equal boards are silent" (compared_numbers (board_of (after 3 p9)) (board_of (after 3 p9))) (0 ∷ 0 ∷ []) same
    ∷ row "boards of 2 and of 3 slots" (compared_numbers (board_of (after 2 p10)) (board_of (after 3 p9))) (4 ∷ 0 ∷ []) same
    ∷ row "64 slots start" (started 64) (0 ∷ 64 ∷ []) same
    ∷ row "0 slots" (started 0) (4 ∷ 0 ∷ []) same
    ∷ row "65 slots" (started 65) (4 ∷ 0 ∷ []) same
    ∷ row "64 ports start" (opened_with 64) (0 ∷ 64 ∷ []) same
    ∷ row "0 ports" (opened_with 0) (4 ∷ 0 ∷ []) same
    ∷ row "65 ports" (opened_with 65) (4 ∷ 0 ∷ []) same
    ∷ row "P of 0, 1, 2,340 and 2,341 at a receiver's start" (start_answer 0 1 0 16 16 6 ∷ start_answer 0 1 1 16 32 6 ∷ start_answer 0 1 2340 16 37456 6 ∷ start_answer 0 1 2341 16 37472 6 ∷ []) (4 ∷ 0 ∷ 0 ∷ 4 ∷ []) same
    ∷ row "W of 15, 16, 2,048 and 2,049" (start_answer 0 1 1 15 30 6 ∷ start_answer 0 1 1 16 32 6 ∷ start_answer 0 1 1 2048 4096 6 ∷ start_answer 0 1 1 2049 4098 6 ∷ []) (4 ∷ 0 ∷ 0 ∷ 4 ∷ []) same
    ∷ row "latest tags W-16 apart begin" (begun (apart 16)) (0 ∷ 1 ∷ []) same
    ∷ row "latest tags W-15 apart don't" (begun (apart 17)) (0 ∷ 0 ∷ []) same
    ∷ row "and begin with the frame that brings them W-16 apart" (begun (handed 0 32 (apart 17))) (0 ∷ 1 ∷ []) same
    ∷ row "a joined port's tag W-1 after the window's first is stored" (stored 15 (joined56 16)) (0 ∷ 71 ∷ 0x07 ∷ []) same
    ∷ row "W gives 11" (stored 0 (joined56 17)) (11 ∷ 56 ∷ 0x08 ∷ []) same
    ∷ row "two of 0 100 16 20 with W 16, 20 and 32" (plan four 2 16 ++ plan four 2 20 ++ plan four 2 32) (0 ∷ 2 ∷ 2 ∷ 3 ∷ 2 ∷ 2 ∷ 3 ∷ []) same
    ∷ row "three of them with W 36 and 35" (plan four 3 36 ++ plan four 3 35) (3 ∷ 0 ∷ 2 ∷ 3 ∷ 0 ∷ []) same
    ∷ row "4,095 and 0 are not 1 apart" (plan (4095 ∷ 0 ∷ []) 2 2048) (0 ∷ []) same
    ∷ row "one path with W 16" (plan four 1 16) (1 ∷ 0 ∷ []) same
    ∷ row "two of three equal delays" (plan (7 ∷ 7 ∷ 7 ∷ []) 2 16) (2 ∷ 0 ∷ 1 ∷ []) same
    ∷ row "k of 0 and of 5 of 4, 65 candidates, a delay of 4,096, W of 15 and 2,049" (plan_number (answer_of four 0 16) ∷ plan_number (answer_of four 5 16) ∷ plan_number (answer_of (replicate 65 0) 2 16) ∷ plan_number (answer_of (0 ∷ 4096 ∷ []) 1 16) ∷ plan_number (answer_of four 2 15) ∷ plan_number (answer_of four 2 2049) ∷ []) (4 ∷ 4 ∷ 4 ∷ 4 ∷ 4 ∷ 4 ∷ []) same
    ∷ row "the check of 3 2, of 2 2, of 2 alone, of 2 64 and of 0 64" (accepted (3 ∷ 2 ∷ []) ∷ accepted (2 ∷ 2 ∷ []) ∷ accepted (2 ∷ []) ∷ accepted (2 ∷ 64 ∷ []) ∷ accepted (0 ∷ 64 ∷ []) ∷ []) (1 ∷ 0 ∷ 0 ∷ 0 ∷ 0 ∷ []) same
    ∷ []

pub examples : Equal table
examples = equal_rows table
