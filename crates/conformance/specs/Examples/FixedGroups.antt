-- Examples of request 2026-12, fixed groups, worked out apart: verdicts, what a packet rules, states and reply, and what a start answers.
use Rattle.std.specs.Prelude.{Bool, true, false, List, [], ◌∷◌, ◌++◌, ℕ, length, replicate, take, if◌then◌else◌}
use Rattle.ground.specs.Types.{Bytes, Epoch}
use Rattle.c_receiver.specs.Receivers.{start_as_answer_c}
use Rattle.tables.specs.Rows.{Equal, Row, equal_rows, row, same}
use Rattle.tables.specs.Waits.{away, here, states_at}
use Rattle.judge.specs.declared.seen.Seen.{Seen}
use Rattle.judge.specs.Order.{order_of}
use Rattle.judge.specs.Verdict.{judge_of}
use Rattle.packet.specs.Fixed.{read_fixed_answer, write_fixed_answer, write_fixed_bytes}
use Rattle.packet.specs.Reading.{reading_number, reading_values}
use Rattle.packet.specs.Writing.{writing_number}
use Rattle.phases.specs.Passing.{noted_by}
use Rattle.receiver.specs.Report.{with_state}
use Rattle.receiver.specs.Shown.{port_shown, reply_out}
use Rattle.receiver.specs.Starting.{fresh_member, fresh_step, group_with, start_answer, start_rows}
use Rattle.reply.specs.Waiting.{standing}
use Rattle.rows.specs.declared.member.Member.{Member}
use Rattle.step.specs.OwnCount.{odd_packet, own_ruling}
use Rattle.conformance.specs.Opened.{all_open}

-- A port with a whole good packet and all its frames, by its number. One with no whole packet, with a refused one, and one that lacks a frame.
abbrev saw : ℕ → Seen
saw number = record { whole = true; good = true; word = 0; number = number; gid = 0; here = true }

abbrev unseen : Seen
unseen = record { whole = false; good = false; word = 0; number = 0; gid = 0; here = false }

abbrev bad : Seen
bad = record { whole = true; good = false; word = 0; number = 0; gid = 0; here = true }

abbrev lacking : ℕ → Seen
lacking number = record { whole = true; good = true; word = 0; number = number; gid = 0; here = false }

abbrev verdict : List Seen → ℕ
verdict ports = judge_of 2 ports (length ports)

-- X, and the ports by rank
abbrev ranked : List Seen → List ℕ
ranked ports = let o = order_of ports (length ports) in o.x ∷ take o.x o.ports

-- the packet of epoch 147, 93 in hex, with SQ 180, B4 in hex: all four nibbles differ
abbrev high : List ℕ
high = 0x08 ∷ 0x09 ∷ 0x0A ∷ 0x0B ∷ 0x0C ∷ 0x0D ∷ 0xBE ∷ 0x4F ∷ 0x90 ∷ 0x31 ∷ 0x02 ∷ 0x03 ∷ 0x04 ∷ 0x05 ∷ 0x06 ∷ 0x07 ∷ []

abbrev high_set : List ℕ
high_set = 0xF8 ∷ 0xF9 ∷ 0xFA ∷ 0xFB ∷ 0xFC ∷ 0xFD ∷ 0xBE ∷ 0x4F ∷ 0x90 ∷ 0x31 ∷ 0x02 ∷ 0xF3 ∷ 0xF4 ∷ 0xF5 ∷ 0xF6 ∷ 0xF7 ∷ []

-- the answer, and the values
abbrev came : Bytes → List ℕ
came h4 = reading_number (read_fixed_answer h4) ∷ reading_values (read_fixed_answer h4)

-- the nibbles of a fixed group's packet of epoch 58 with SQ 5
abbrev fixed : List ℕ
fixed = 0 ∷ 0 ∷ 0 ∷ 0 ∷ 0 ∷ 0 ∷ 0 ∷ 5 ∷ 3 ∷ 10 ∷ 0 ∷ 0 ∷ 0 ∷ 0 ∷ 0 ∷ 0 ∷ []

-- the same with the word NORM
abbrev foreign : List ℕ
foreign = 0 ∷ 0 ∷ 0 ∷ 0 ∷ 0 ∷ 0 ∷ 0 ∷ 5 ∷ 3 ∷ 10 ∷ 2 ∷ 0 ∷ 0 ∷ 0 ∷ 0 ∷ 0 ∷ []

abbrev flag : Bool → ℕ
flag b = if b then 1 else 0

-- good or not, word, number, GID
abbrev rules : (kind : ℕ) (epoch : Epoch) (nibbles : List ℕ) → List ℕ
rules kind epoch nibbles = let r = own_ruling kind epoch nibbles in flag r.good ∷ r.word ∷ r.number ∷ r.gid ∷ []

-- a port of a fixed group that noted the packet and is OK under its number
abbrev noted : Member
noted = with_state (noted_by (fresh_member 2 0 0) true (own_ruling 2 58 fixed)) (standing 2 5 0)

-- the reply of epoch 7 after a start with one port
abbrev told : ℕ → List ℕ
told kind = reply_out (start_rows kind 1 1 16 32 (replicate 6 (replicate 16 0))) 7 (9 ∷ 9 ∷ [])

pub table : List Row
unfolding all_open
table =
    row "a fixed group with the numbers 2, 0, 1 is sure, in the order of the numbers" (verdict (saw 2 ∷ saw 0 ∷ saw 1 ∷ []) ∷ ranked (saw 2 ∷ saw 0 ∷ saw 1 ∷ [])) (3 ∷ 3 ∷ 1 ∷ 2 ∷ 0 ∷ []) same
    ∷ row "a fixed group is held by the numbers 0, 1, 1 and 0, 1, 3" (verdict (saw 0 ∷ saw 1 ∷ saw 1 ∷ []) ∷ verdict (saw 0 ∷ saw 1 ∷ saw 3 ∷ []) ∷ []) (1 ∷ 1 ∷ []) same
    ∷ row "a fixed group is held, and not doubtful, by a dark port, whichever number it had, a refused packet or a lacking frame" (verdict (saw 0 ∷ saw 1 ∷ unseen ∷ []) ∷ verdict (unseen ∷ saw 1 ∷ saw 2 ∷ []) ∷ verdict (saw 0 ∷ bad ∷ []) ∷ verdict (saw 0 ∷ lacking 1 ∷ []) ∷ []) (1 ∷ 1 ∷ 1 ∷ 1 ∷ []) same
    ∷ row "a fixed group of one, with the number 0, is sure" (verdict (saw 0 ∷ []) ∷ verdict (saw 1 ∷ []) ∷ []) (3 ∷ 1 ∷ []) same
    ∷ row "FIXED, SQ 180 in epoch 147, written and read; SQ 255 in epoch 255 fits" (write_fixed_bytes 147 180 (replicate 16 0) ++ came high ++ (writing_number (write_fixed_answer 255 255 (replicate 16 0)) ∷ [])) (high ++ (0 ∷ 147 ∷ 0 ∷ 0 ∷ 0 ∷ 0 ∷ 180 ∷ 0 ∷ 0 ∷ [])) same
    ∷ row "the same with all that is not looked at set reads well, and is written again otherwise" (came high_set ++ write_fixed_bytes 147 180 high_set) ((0 ∷ 147 ∷ 0 ∷ 0 ∷ 0 ∷ 0 ∷ 180 ∷ 0 ∷ []) ++ high) same
    ∷ row "a fixed group's packet rules in its own epoch, and in no other; one with another word is refused; by 01 its CRC differs" (rules 2 58 fixed ++ rules 2 59 fixed ++ rules 2 58 foreign ++ rules 0 58 fixed) (1 ∷ 0 ∷ 5 ∷ 0 ∷ 0 ∷ 0 ∷ 0 ∷ 0 ∷ 0 ∷ 0 ∷ 0 ∷ 0 ∷ 0 ∷ 0 ∷ 0 ∷ 0 ∷ []) same
    ∷ row "with another MFI2 each packet of a fixed group is odd, since no CRC is checked; by 01 one of wrong CRC is not" (flag (odd_packet 2 59 fixed) ∷ flag (odd_packet 2 59 foreign) ∷ flag (odd_packet 2 58 fixed) ∷ flag (odd_packet 0 59 fixed) ∷ []) (1 ∷ 1 ∷ 0 ∷ 0 ∷ []) same
    ∷ row "what is shown of a fixed group's port: its word is 0 after a good packet, and 255 before one" (port_shown (group_with 2 1 1 16) fresh_step noted ++ port_shown (group_with 2 1 1 16) fresh_step (fresh_member 2 0 0)) (2 ∷ 5 ∷ 0 ∷ 0 ∷ 0 ∷ 0 ∷ 0 ∷ 0 ∷ 0 ∷ 255 ∷ 0 ∷ 0 ∷ 0 ∷ 0 ∷ 255 ∷ 0 ∷ []) same
    ∷ row "a fixed group's port with hold-off 1 and wait-to-restore 2: lost for one report it stays OK, for two it is FAIL, OK again after two" (states_at 0 (1 ∷ []) (2 ∷ []) ((here 0 0 ∷ []) ∷ (away 0 0 ∷ []) ∷ (here 0 0 ∷ []) ∷ (away 0 0 ∷ []) ∷ (away 0 0 ∷ []) ∷ (here 0 0 ∷ []) ∷ (here 0 0 ∷ []) ∷ (here 0 0 ∷ []) ∷ [])) (2 ∷ 2 ∷ 2 ∷ 2 ∷ 1 ∷ 1 ∷ 1 ∷ 2 ∷ []) same
    ∷ row "a fixed group's reply is MST 00 and RS-Ack 0; by 01 MST is FF before a member is OK" (told 2 ++ told 0) (0 ∷ 0 ∷ 255 ∷ 0 ∷ []) same
    ∷ row "a start with P 1 and W 16 takes the kinds 0 and 2; kind 1 asks for P 136 and W 32, and any other kind is 4, in C and in the library" (start_as_answer_c 0 1 1 16 32 [] [] 6 ∷ start_as_answer_c 2 1 1 16 32 [] [] 6 ∷ start_as_answer_c 1 1 1 16 32 [] [] 6 ∷ start_as_answer_c 1 1 136 32 4384 [] [] 6 ∷ start_as_answer_c 255 1 1 16 32 [] [] 6 ∷ start_as_answer_c 256 1 1 16 32 [] [] 6 ∷ start_as_answer_c 258 1 1 16 32 [] [] 6 ∷ start_answer 1 1 1 16 32 6 ∷ start_answer 3 1 1 16 32 6 ∷ []) (0 ∷ 0 ∷ 4 ∷ 0 ∷ 4 ∷ 4 ∷ 4 ∷ 4 ∷ 4 ∷ []) same
    ∷ row "a fixed start: 4 before 9, with times as any other" (start_as_answer_c 2 0 1 16 32 [] [] 6 ∷ start_as_answer_c 2 1 1 15 32 [] [] 6 ∷ start_as_answer_c 2 1 1 16 31 (5001 ∷ []) [] 6 ∷ start_as_answer_c 2 1 1 16 31 (5000 ∷ []) [] 6 ∷ start_as_answer_c 2 1 1 16 32 (0 ∷ 0 ∷ []) [] 6 ∷ start_as_answer_c 2 1 1 16 32 (5000 ∷ []) (1 ∷ []) 6 ∷ []) (4 ∷ 4 ∷ 4 ∷ 9 ∷ 9 ∷ 0 ∷ []) same
    ∷ []

pub fixed_groups : Equal table
fixed_groups = equal_rows table
