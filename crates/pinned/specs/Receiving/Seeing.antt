-- What the host reads of a receiver beside ports and reply, by rows worked out apart: what it saw, why the next report is held, what the far end says, how far ports lie behind, its settings, and receiving begun anew. With wrong readings, and rows on which each breaks.
use Rattle.std.specs.Prelude.{List, [], ◌∷◌, ℕ, get_or, replicate}
use Rattle.ground.specs.Counting.Words.{last_that}
use Rattle.packet.specs.Kinds.{distance_of}
use Rattle.phases.specs.Beginning.{foremost, latest}
use Rattle.receiver.specs.Behind.{behind_answer, behind_out}
use Rattle.receiver.specs.Cause.{cause_answer, cause_out}
use Rattle.receiver.specs.Heard.{good_at, heard_answer, heard_out, said_at}
use Rattle.receiver.specs.Seen.{seen_answer, seen_out}
use Rattle.receiver.specs.Settings.{settings_answer, settings_out}
use Rattle.rows.specs.declared.group.Group.{Group}
use Rattle.rows.specs.declared.step.Step.{Step}
use Rattle.rows.specs.Group.{group_at, put_group}
use Rattle.rows.specs.Packets.{put_marks, put_packets}
use Rattle.rows.specs.Step.{put_step, step_at}
use Rattle.sender.specs.Calls.Call.{AddSlot, RemoveSlot, Report}
use Rattle.sender.specs.Calls.{Call}
use Rattle.sender.specs.declared.epochs.Sender.{Sender}
use Rattle.sender.specs.Epochs.SenderCall.{OnTable, StartEpoch}
use Rattle.sender.specs.Epochs.{begin_of, sender_outcome_of}
use Rattle.c_face.specs.Settings.{sender_settings}
use Rattle.pinned.specs.Opened.{all_open}
use Rattle.tables.specs.Rows.{Pinned, pins, row, same}

-- a group that has begun, whose oldest epoch is given: the packets of the epoch before rule
abbrev group : (kind count window oldest : ℕ) → Group
group kind count window oldest =
    record {
      spare = 61 ∷ 62 ∷ 63 ∷ 64 ∷ [];
      kind = kind;
      count = count;
      payload = 136;
      window = window;
      begun = 1;
      gathered = 1;
      oldest = oldest;
      origin = 30;
      rs_ack = 1;
    }

-- so many frames in a row, the tag to come, and whether the ruling packet is whole
abbrev step : (count next whole : ℕ) → Step
step count next whole =
    record {
      spare = 52 ∷ 53 ∷ 54 ∷ 55 ∷ [];
      heard = 1;
      failed = 0;
      count = count;
      next = next;
      joined = 1;
      ever_since = 0;
      joined_at = 0;
      whole = whole;
      breaks = 0;
      odd = 0;
      bits = 0;
    }

-- a port: its step, its ruling packet and whether the frames of the oldest epoch are here
abbrev port : (i : ℕ) (s : Step) (ruling : List ℕ) (here : ℕ) (rows : List (List ℕ)) → List (List ℕ)
port i s ruling here rows = put_marks (put_packets (put_step rows i s) i (replicate 16 7 ∷ ruling ∷ [])) i (here ∷ replicate 15 0)

-- Packets of H4, nibble by nibble. Epoch 5, NORM 3 with GID 1, MST A7 and RS-Ack 1; its CRC is E7.
abbrev norm : List ℕ
norm = 10 ∷ 7 ∷ 1 ∷ 0 ∷ 0 ∷ 0 ∷ 0 ∷ 3 ∷ 0 ∷ 5 ∷ 2 ∷ 1 ∷ 0 ∷ 0 ∷ 14 ∷ 7 ∷ []

-- Epoch 5, EOS 9 with GID 0, MST 1C and RS-Ack 0; its CRC is D3.
abbrev eos : List ℕ
eos = 1 ∷ 12 ∷ 0 ∷ 0 ∷ 0 ∷ 0 ∷ 0 ∷ 9 ∷ 0 ∷ 5 ∷ 3 ∷ 0 ∷ 0 ∷ 0 ∷ 13 ∷ 3 ∷ []

-- Epoch 4, DNU 77 with GID 1, MST 66 and RS-Ack 0; its CRC is E7.
abbrev older : List ℕ
older = 6 ∷ 6 ∷ 0 ∷ 0 ∷ 0 ∷ 0 ∷ 4 ∷ 13 ∷ 0 ∷ 4 ∷ 15 ∷ 1 ∷ 0 ∷ 0 ∷ 14 ∷ 7 ∷ []

-- the first with a bit of its SQ changed, with the word 4 under a right CRC, 12, and one with the word FIXED and SQ 1 under D6
abbrev wrong : List ℕ
wrong = 10 ∷ 7 ∷ 1 ∷ 0 ∷ 0 ∷ 0 ∷ 0 ∷ 2 ∷ 0 ∷ 5 ∷ 2 ∷ 1 ∷ 0 ∷ 0 ∷ 14 ∷ 7 ∷ []

abbrev unassigned : List ℕ
unassigned = 10 ∷ 7 ∷ 1 ∷ 0 ∷ 0 ∷ 0 ∷ 0 ∷ 3 ∷ 0 ∷ 5 ∷ 4 ∷ 1 ∷ 0 ∷ 0 ∷ 1 ∷ 2 ∷ []

abbrev fixed : List ℕ
fixed = 0 ∷ 0 ∷ 0 ∷ 0 ∷ 0 ∷ 0 ∷ 0 ∷ 1 ∷ 0 ∷ 5 ∷ 0 ∷ 0 ∷ 0 ∷ 0 ∷ 13 ∷ 6 ∷ []

-- seven ports of which the first three are refused, the fourth is good, the fifth too, the sixth is of another epoch, and the last has no whole packet
abbrev seven : (kind : ℕ) → List (List ℕ)
seven kind =
    port 0 (step 32 0 1) wrong 1
    (port 1 (step 32 0 1) unassigned 0
    (port 2 (step 32 0 1) fixed 0
    (port 3 (step 32 0 1) norm 0
    (port 4 (step 32 0 1) eos 1
    (port 5 (step 32 0 1) older 0
    (port 6 (step 32 0 0) norm 1 (put_group (replicate 36 (replicate 16 8)) (group kind 7 64 6))))))))

abbrev blank : List (List ℕ)
blank = replicate 7 (replicate 10 165)

seen : Pinned
unfolding all_open
seen =
    pins "What the host reads of each port's ruling packet: whole, answer, another number, epoch, word, number, GID, MST, RS-Ack, here. A refused packet and one that is not whole say nothing more (include/levelspruce.h)."
    (row "seven ports" (seen_out (seven 0) blank) ((1 ∷ 5 ∷ 0 ∷ 0 ∷ 0 ∷ 0 ∷ 0 ∷ 0 ∷ 0 ∷ 1 ∷ []) ∷ (1 ∷ 6 ∷ 0 ∷ 0 ∷ 0 ∷ 0 ∷ 0 ∷ 0 ∷ 0 ∷ 0 ∷ []) ∷ (1 ∷ 7 ∷ 0 ∷ 0 ∷ 0 ∷ 0 ∷ 0 ∷ 0 ∷ 0 ∷ 0 ∷ []) ∷ (1 ∷ 0 ∷ 0 ∷ 5 ∷ 2 ∷ 3 ∷ 1 ∷ 0xA7 ∷ 1 ∷ 0 ∷ []) ∷ (1 ∷ 0 ∷ 0 ∷ 5 ∷ 3 ∷ 9 ∷ 0 ∷ 0x1C ∷ 0 ∷ 1 ∷ []) ∷ (1 ∷ 0 ∷ 1 ∷ 4 ∷ 15 ∷ 77 ∷ 1 ∷ 0x66 ∷ 0 ∷ 0 ∷ []) ∷ (0 ∷ 0 ∷ 0 ∷ 0 ∷ 0 ∷ 0 ∷ 0 ∷ 0 ∷ 0 ∷ 1 ∷ []) ∷ []) same
    ∷ row "into seven places" (seen_answer (seven 0) 7) 0 same
    ∷ row "into six" (seen_answer (seven 0) 6) 9 same
    ∷ [])

fixed_seen : Pinned
unfolding all_open
fixed_seen =
    pins "Of a fixed group the word FIXED alone is good, whatever its CRC, and MST, RS-Ack and GID read 0 (include/levelspruce.h)."
    (row "the word FIXED" (get_or (seen_out (seven 2) blank) 2 []) (1 ∷ 0 ∷ 0 ∷ 5 ∷ 0 ∷ 1 ∷ 0 ∷ 0 ∷ 0 ∷ 0 ∷ []) same
    ∷ row "the word NORM" (get_or (seen_out (seven 2) blank) 3 []) (1 ∷ 6 ∷ 0 ∷ 0 ∷ 0 ∷ 0 ∷ 0 ∷ 0 ∷ 0 ∷ 0 ∷ []) same
    ∷ row "what the far end says" (heard_out (seven 2) (9 ∷ 9 ∷ 9 ∷ 9 ∷ [])) (1 ∷ 5 ∷ 0 ∷ 0 ∷ []) same
    ∷ [])

cause : Pinned
unfolding all_open
cause =
    pins "Why the next report is held or doubtful, and the lowest port to which it applies. Of the seven the first was refused; of a fixed group the last has no whole packet, which comes first there (include/levelspruce.h)."
    (row "with LCAS" (cause_out (seven 0) (9 ∷ 9 ∷ [])) (1 ∷ 0 ∷ []) same
    ∷ row "of a fixed group" (cause_out (seven 2) (9 ∷ 9 ∷ [])) (6 ∷ 6 ∷ []) same
    ∷ row "two bytes are answered 0" (cause_answer (seven 0) 2) 0 same
    ∷ row "one is 9" (cause_answer (seven 0) 1) 9 same
    ∷ row "one is 9, and stays" (cause_out (seven 0) (9 ∷ [])) (9 ∷ []) same
    ∷ row "an empty group" (cause_out [] (9 ∷ 9 ∷ [])) (0 ∷ 255 ∷ []) same
    ∷ [])

-- a port alone, and one beside a first with EOS 9 under GID 0, all of whose frames are here
abbrev one : (ruling : List ℕ) → List (List ℕ)
one ruling = port 0 (step 32 0 1) ruling 1 (put_group (replicate 6 (replicate 16 8)) (group 0 1 64 6))

abbrev second : (ruling : List ℕ) (whole here : ℕ) → List (List ℕ)
second ruling whole here = port 0 (step 32 0 1) eos 1 (port 1 (step 32 0 whole) ruling here (put_group (replicate 11 (replicate 16 8)) (group 0 2 64 6)))

each_cause : Pinned
unfolding all_open
each_cause =
    pins "Each clause by itself. The second port was refused; lacks a frame of its NORM 3; has 9 too; has GID 1 beside 0; has no whole packet. NORM 3 alone is the highest and no EOS. EOS 9 alone is not 0 to n-1, which is no one port's (include/levelspruce.h)."
    (row "refused" (cause_out (second wrong 1 1) (9 ∷ 9 ∷ [])) (1 ∷ 1 ∷ []) same
    ∷ row "lacks a frame" (cause_out (second norm 1 0) (9 ∷ 9 ∷ [])) (2 ∷ 1 ∷ []) same
    ∷ row "a number twice" (cause_out (second eos 1 1) (9 ∷ 9 ∷ [])) (3 ∷ 1 ∷ []) same
    ∷ row "GIDs that differ" (cause_out (second norm 1 1) (9 ∷ 9 ∷ [])) (4 ∷ 1 ∷ []) same
    ∷ row "no EOS on the highest" (cause_out (one norm) (9 ∷ 9 ∷ [])) (5 ∷ 0 ∷ []) same
    ∷ row "no whole packet" (cause_out (second norm 0 1) (9 ∷ 9 ∷ [])) (6 ∷ 1 ∷ []) same
    ∷ row "numbers that are not 0 to n-1" (cause_out (one eos) (9 ∷ 9 ∷ [])) (7 ∷ 255 ∷ []) same
    ∷ [])

heard : Pinned
unfolding all_open
heard =
    pins "What the far end says is read from the lowest port whose packet is good, here the fourth (include/levelspruce.h)."
    (row "epoch, MST and RS-Ack" (heard_out (seven 0) (9 ∷ 9 ∷ 9 ∷ 9 ∷ [])) (1 ∷ 5 ∷ 0xA7 ∷ 1 ∷ []) same
    ∷ row "four bytes are answered 0" (heard_answer (seven 0) 4) 0 same
    ∷ row "five are 9" (heard_answer (seven 0) 5) 9 same
    ∷ [])

-- VC-12, bits two by two: count 29, NORM 37 with GID 1, MST B4 and RS-Ack 1. Epoch 30 is the oldest.
abbrev vc12 : List ℕ
vc12 = 3 ∷ 2 ∷ 3 ∷ 0 ∷ 2 ∷ 2 ∷ 1 ∷ 1 ∷ 0 ∷ 0 ∷ 3 ∷ 1 ∷ 2 ∷ 2 ∷ 0 ∷ 1 ∷ []

abbrev of_vc12 : (oldest : ℕ) → List (List ℕ)
of_vc12 oldest = port 0 (step 64 0 1) vc12 1 (put_group (replicate 6 (replicate 16 8)) (group 1 1 64 oldest))

vc12_seen : Pinned
unfolding all_open
vc12_seen =
    pins "VC-12's count is the step rule's to judge: in rows that no call returned, with another oldest epoch, it is no other number (include/levelspruce.h; request 2026-01)."
    (row "in its own epoch" (seen_out (of_vc12 30) (replicate 1 (replicate 10 165))) ((1 ∷ 0 ∷ 0 ∷ 29 ∷ 2 ∷ 37 ∷ 1 ∷ 0xB4 ∷ 1 ∷ 1 ∷ []) ∷ []) same
    ∷ row "with another oldest epoch" (seen_out (of_vc12 7) (replicate 1 (replicate 10 165))) ((1 ∷ 0 ∷ 0 ∷ 29 ∷ 2 ∷ 37 ∷ 1 ∷ 0xB4 ∷ 1 ∷ 1 ∷ []) ∷ []) same
    ∷ row "what the far end says" (heard_out (of_vc12 30) (9 ∷ 9 ∷ 9 ∷ 9 ∷ [])) (1 ∷ 29 ∷ 0xB4 ∷ 1 ∷ []) same
    ∷ [])

-- Wrong readings of the way back.

-- the highest port whose packet is good
abbrev highest_heard : List (List ℕ) → List ℕ
highest_heard s = said_at (group_at s) s (last_that 7 (good_at (group_at s) s))

highest_breaks : Pinned
unfolding all_open
highest_breaks =
    pins "A wrong reading: the way back from the highest port whose packet is good (include/levelspruce.h)."
    (row "it takes the fifth port's" (highest_heard (seven 0)) (1 ∷ 5 ∷ 0x1C ∷ 0 ∷ []) same
    ∷ [])

-- the packets of the epoch before: in the same rows those of epoch 4 would count, and with them the sixth port's MST and RS-Ack
abbrev earlier_heard : List (List ℕ) → List ℕ
earlier_heard s = heard_out (put_group s (group 0 7 64 5)) (9 ∷ 9 ∷ 9 ∷ 9 ∷ [])

earlier_breaks : Pinned
unfolding all_open
earlier_breaks =
    pins "A wrong reading: the way back from the packets of the epoch before (include/levelspruce.h)."
    (row "it takes the sixth port's" (earlier_heard (seven 0)) (1 ∷ 4 ∷ 0x66 ∷ 0 ∷ []) same
    ∷ [])

-- How far behind. Latest tags 10, 4,090, none, 2 and 10: the foremost is 10, and 4,090 lies 16 behind it, over 4,095.
abbrev five : List (List ℕ)
five =
    port 0 (step 32 11 1) norm 1
    (port 1 (step 32 4091 1) norm 1
    (port 2 (step 31 40 1) norm 1
    (port 3 (step 32 3 1) norm 1
    (port 4 (step 32 11 1) norm 1 (put_group (replicate 26 (replicate 16 8)) (group 0 5 64 6))))))

behind : Pinned
unfolding all_open
behind =
    pins "How many frames each port in step lies behind the foremost, round 4,096, and 65,535 of others (include/levelspruce.h)."
    (row "latest tags 10, 4,090, none, 2 and 10" (behind_out five (1 ∷ 2 ∷ 3 ∷ 4 ∷ 5 ∷ [])) (0 ∷ 16 ∷ 65535 ∷ 8 ∷ 0 ∷ []) same
    ∷ row "five places are answered 0" (behind_answer five 5) 0 same
    ∷ row "four are 9" (behind_answer five 4) 9 same
    ∷ [])

-- a wrong reading: counted forwards, from the foremost to the port
abbrev forwards : ℕ → ℕ
forwards i = distance_of 0 (latest (group_at five) (step_at five i)) (foremost (group_at five) five 5)

forwards_breaks : Pinned
unfolding all_open
forwards_breaks =
    pins "A wrong reading: counted forwards, from the foremost to the port (include/levelspruce.h)."
    (row "it takes 4,080 for 16" (forwards 1) 4080 same
    ∷ [])

settings : Pinned
unfolding all_open
settings =
    pins "Settings, of which no two are alike, and those of an empty group (include/levelspruce.h)."
    (row "five ports" (settings_out five (9 ∷ 9 ∷ 9 ∷ 9 ∷ [])) (0 ∷ 5 ∷ 136 ∷ 64 ∷ []) same
    ∷ row "VC-12" (settings_out (of_vc12 30) (9 ∷ 9 ∷ 9 ∷ 9 ∷ [])) (1 ∷ 1 ∷ 136 ∷ 64 ∷ []) same
    ∷ row "an empty group" (settings_out [] (9 ∷ 9 ∷ 9 ∷ 9 ∷ [])) (0 ∷ 0 ∷ 0 ∷ 0 ∷ []) same
    ∷ row "four places are answered 0" (settings_answer five 4) 0 same
    ∷ row "three are 9" (settings_answer five 3) 9 same
    ∷ [])

-- A sender's: kind, slots, the next epoch to start, wait and remembered RS-Ack. After a start the first epoch is the next; of VC-12 0 comes after 31.
abbrev on_table : (s : Sender) (c : Call) → Sender
on_table s c = (sender_outcome_of s (OnTable c)).sender

sender_settings_lem : Pinned
unfolding all_open
sender_settings_lem =
    pins "A sender's settings: kind, slots, the next epoch to start, wait and remembered RS-Ack. After a start the first epoch is the next; of VC-12 0 comes after 31 (include/levelspruce.h)."
    (row "after the start, of VC-12" (sender_settings (begin_of 1 3 31).sender) (1 ∷ 3 ∷ 31 ∷ 0 ∷ 0 ∷ []) same
    ∷ row "after epoch 31 has started" (sender_settings (sender_outcome_of (begin_of 1 3 31).sender (StartEpoch 0 255 1)).sender) (1 ∷ 3 ∷ 0 ∷ 0 ∷ 0 ∷ []) same
    ∷ row "with a wait open and RS-Ack 1 remembered" (sender_settings (on_table (on_table (on_table (begin_of 0 2 17).sender (Report 5 255 1)) (AddSlot 1)) (RemoveSlot 1))) (0 ∷ 2 ∷ 17 ∷ 1 ∷ 1 ∷ []) same
    ∷ [])
