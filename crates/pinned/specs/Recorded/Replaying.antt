-- One call of a replay (request 2026-05), phase by phase: what is taken up of the text, what is written, and where it stands then. Counted on the lines as they stand.
use Rattle.std.specs.Prelude.{Bool, true, false, List, [], ◌∷◌, ◌++◌, ℕ, drop, replicate, take}
use Rattle.ground.specs.Types.{Bytes}
use Rattle.pinned.specs.Filled.{nines}
use Rattle.receiver.specs.Starting.{start_as_rows, start_rows}
use Rattle.recording.specs.declared.record.Record.TheVariants as R
use Rattle.replay_lines.specs.declared.replay.Phase.{Phase}
use Rattle.replay_lines.specs.declared.replay.Phase.TheVariants.{Reading, Fetching, Skipping, Ended}
use Rattle.replay_lines.specs.declared.replay.Replay.{Replay}
use Rattle.replay_lines.specs.declared.turns.Replayed.{Replayed}
use Rattle.replay_lines.specs.Output.{answer_text, changes_text, epoch_text, place_text, report_text, state_text, states_in}
use Rattle.replay_lines.specs.Replay.{beginning, next_line, output_of, store_of}
use Rattle.replay_lines.specs.Turn.{fetch_rows_by, framed_rows, framed_turn, over, read_by, read_on_turn, read_said_by, reported_turn, turn_of, turn_out, turn_rows, turn_said, turn_store}
use Rattle.rows.specs.declared.member.Member.{Member}
use Rattle.rows.specs.Member.{put_member}
use Rattle.text.specs.Ascii.{ascii}
use Rattle.pinned.specs.Opened.{all_open}
use Rattle.tables.specs.Rows.{Pinned, pins, row, same}

-- two ports, P 1, W 16, behind line 4, with so many fetches left
abbrev at : Phase → ℕ → Replay
at phase left = record { phase = phase; line = 4; left = left; kind = 0; ports = 2; size = 1; window = 16 }

abbrev after : (phase : Phase) (line left : ℕ) → Replay
after phase line left = record { phase = phase; line = line; left = left; kind = 0; ports = 2; size = 1; window = 16 }

-- used, written, and whether more text is wanted; 0 is the answer
abbrev goes : (r : Replay) (used written : ℕ) (wants : Bool) → Replayed
goes r used written wants = record { replay = r; answer = 0; used = used; written = written; wants = wants }

-- 9: nothing is used or written
abbrev too_little : Replay → Replayed
too_little r = record { replay = r; answer = 9; used = 0; written = 0; wants = true }

-- rows of 9s, and numbers of 9s
abbrev rows : ℕ → List (List ℕ)
rows n = replicate n (replicate 16 9)

-- the first line, with 321 rows and a room of 1,219 or more
abbrev first : (text : Bytes) (last : Bool) (r store said : ℕ) → Replayed
first text last r store said = turn_of beginning text last (rows r) (nines store) [] said

abbrev started : ℕ → Replayed
started used = goes (record { phase = Reading; line = 1; left = 0; kind = 0; ports = 1; size = 1; window = 16 }) used 0 false

abbrev ends : ℕ → Replayed
ends written = goes (record { phase = Ended; line = 1; left = 0; kind = 0; ports = 0; size = 0; window = 0 }) 0 written false

a_first_line : Pinned
unfolding all_open
a_first_line =
    pins "The first line starts the group, or ends the run with 4 or 13; what is lent has 321 rows, a store for the group and a room of 1,219 bytes at least, else 9 (request 2026-05)."
    (row "with its end" (first (ascii "1\t1\t16\nx") false 321 32 1219) (started 7) same
    ∷ row "as the last line" (first (ascii "1\t1\t16") true 321 32 1219) (started 6) same
    ∷ row "without its end more is wanted" (first (ascii "1\t1\t16") false 321 32 1219) (goes beginning 0 0 true) same
    ∷ row "no text" (first [] true 321 32 1219) (goes beginning 0 0 true) same
    ∷ row "a store one byte too short" (first (ascii "1\t1\t16\nx") false 321 31 1219) (ends 16) same
    ∷ row "no port" (first (ascii "0\t1\t16\nx") false 321 32 1219) (ends 16) same
    ∷ row "a line that is none" (first (ascii "x\n") false 321 32 1219) (ends 17) same
    ∷ row "320 rows" (first (ascii "1\t1\t16\nx") false 320 32 1219) (too_little beginning) same
    ∷ row "a room of 1,218" (first (ascii "1\t1\t16\nx") false 321 32 1218) (too_little beginning) same
    ∷ row "two ports with P 3" (first (ascii "2\t3\t16\n") false 321 128 1219) (goes (record { phase = Reading; line = 1; left = 0; kind = 0; ports = 2; size = 3; window = 16 }) 7 0 false) same
    ∷ row "two ports with P 3, their store one byte too short" (first (ascii "2\t3\t16\n") false 321 127 1219) (ends 16) same
    ∷ row "a time of 5,001" (first (ascii "1\t1\t16\twait-to-restore\t5001\n") false 321 32 1219) (ends 16) same
    ∷ [])

-- what is lent: with a group started it holds zeros, but for the group's own rows; where none has started it stays
abbrev first_rows : Bytes → List (List ℕ)
first_rows text = turn_rows beginning text false (rows 321) (nines 40) [] 1219

what_is_lent : Pinned
unfolding all_open
what_is_lent =
    pins "What is lent: with a group started it holds zeros, but for the group's own rows; where none has started it stays (request 2026-05)."
    (row "a store is zeros" (turn_store beginning (ascii "1\t1\t16\n") false (rows 321) (nines 40) [] 1219) (replicate 40 0) same
    ∷ row "where none starts it stays" (turn_store beginning (ascii "0\t1\t16\n") false (rows 321) (nines 40) [] 1219) (nines 40) same
    ∷ row "under 9 it stays" (turn_store beginning (ascii "1\t1\t16\n") false (rows 320) (nines 40) [] 1219) (nines 40) same
    ∷ row "the other rows are zeros" (drop 6 (first_rows (ascii "1\t1\t16\n"))) (replicate 315 (replicate 16 0)) same
    ∷ row "the group's own are a start's" (take 6 (first_rows (ascii "1\t1\t16\n"))) (start_rows 0 1 1 16 32 (replicate 6 (replicate 16 0))) same
    ∷ row "with kind and times" (take 6 (first_rows (ascii "1\t1\t16\tkind\tFIXED\thold-off\t3\twait-to-restore\t4\n"))) (start_as_rows 2 1 1 16 32 (3 ∷ []) (4 ∷ []) (replicate 6 (replicate 16 0))) same
    ∷ row "where none starts the rows stay" (take 1 (first_rows (ascii "0\t1\t16\n"))) (rows 1) same
    ∷ row "after a line that is none too" (take 1 (first_rows (ascii "x\n"))) (rows 1) same
    ∷ row "the output stays" (turn_out beginning (rows 321) (nines 40) (nines 5) 1219) (nines 5) same
    ∷ row "two ports with their times" (take 11 (turn_rows beginning (ascii "2\t3\t16\thold-off\t5\t6\twait-to-restore\t7\t8\n") false (rows 321) (nines 128) [] 1219)) (start_as_rows 0 2 3 16 128 (5 ∷ 6 ∷ []) (7 ∷ 8 ∷ []) (replicate 11 (replicate 16 0))) same
    ∷ [])

what_is_said : Pinned
unfolding all_open
what_is_said =
    pins "A refusal is written at the front of the buffer, and the rest of it stays as it was (request 2026-05)"
    (row "13 for the first line" (turn_said beginning (ascii "x\n") false (rows 321) (nines 40) [] (nines 1219)) (ascii "answer\t13\tline\t1\n" ++ nines 1202) same
    ∷ row "4 for it" (turn_said beginning (ascii "0\t1\t16\n") false (rows 321) (nines 40) [] (nines 1219)) (ascii "answer\t4\tline\t1\n" ++ nines 1203) same
    ∷ row "nothing for a start" (turn_said beginning (ascii "1\t1\t16\n") false (rows 321) (nines 40) [] (nines 1219)) (nines 1219) same
    ∷ row "nothing under 9" (turn_said beginning (ascii "x\n") false (rows 321) (nines 40) [] (nines 1218)) (nines 1218) same
    ∷ row "13 for line 5" (turn_said (at Reading 0) (ascii "x\n") false (rows 11) (nines 64) (nines 32) (nines 1219)) (ascii "answer\t13\tline\t5\n" ++ nines 1202) same
    ∷ row "over what stood there" (over (ascii "ab") (ascii "wxyz")) (ascii "abyz") same
    ∷ row "10 for line 123" (answer_text 10 123) (ascii "answer\t10\tline\t123\n") same
    ∷ row "13 for a long line number" (answer_text 13 1234567) (ascii "answer\t13\tline\t1234567\n") same
    ∷ row "the line of a doubtful report" (epoch_text 255 2 2396160 70000 6 254) (ascii "epoch\t255\tdoubtful\tbytes\t2396160\tline\t70000\tcause\ta port has no whole ruling packet\tport\t254\n") same
    ∷ row "the line of a sure one" (epoch_text 0 3 16 70000 0 255) (ascii "epoch\t0\tsure\tbytes\t16\tline\t70000\n") same
    ∷ row "13 for a line that is too long" (read_said_by (at Reading 0) (ascii "abc") (nines 18) R.Long) (ascii "answer\t13\tline\t5\n" ++ (9 ∷ [])) same
    ∷ [])

-- a line behind the first: two ports take 11 rows, a store of 64 and an output of 32
abbrev reads : (text : Bytes) (last : Bool) (r store out said : ℕ) → Replayed
reads text last r store out said = turn_of (at Reading 0) text last (rows r) (nines store) (nines out) said

-- the answer to a line that is none, of a replay with so many ports and such a P
abbrev answered : (ports size r store : ℕ) → ℕ
answered ports size r store = (turn_of (record { phase = Reading; line = 4; left = 0; kind = 0; ports = ports; size = size; window = 16 }) (ascii "x\n") false (rows r) (nines store) [] 1219).answer

a_line : Pinned
unfolding all_open
a_line =
    pins "A line is read with its end, or as the last; a frame is followed by W fetches, a line that is none is 13, and less than is lent for the group is 9 (request 2026-05)."
    (row "a frame" (reads (ascii "1\tf0\t0\tAb\nx") false 11 64 32 1219) (goes (after Fetching 5 16) 10 0 false) same
    ∷ row "as the last line" (reads (ascii "1\tf0\t0\tAb") true 11 64 32 1219) (goes (after Fetching 5 16) 9 0 false) same
    ∷ row "without its end more is wanted" (reads (ascii "1\tf0\t0\tAb") false 11 64 32 1219) (goes (at Reading 0) 0 0 true) same
    ∷ row "no text" (reads [] true 11 64 32 1219) (goes (at Reading 0) 0 0 true) same
    ∷ row "port 2 of two" (reads (ascii "2\tf0\t0\tAb\nx") false 11 64 32 1219) (goes (after Reading 5 0) 10 17 false) same
    ∷ row "ten rows" (reads (ascii "1\tf0\t0\tAb\n") false 10 64 32 1219) (too_little (at Reading 0)) same
    ∷ row "a store one byte short" (reads (ascii "1\tf0\t0\tAb\n") false 11 63 32 1219) (too_little (at Reading 0)) same
    ∷ row "an output one byte short" (reads (ascii "1\tf0\t0\tAb\n") false 11 64 31 1219) (too_little (at Reading 0)) same
    ∷ row "a room of 1,218" (reads (ascii "1\tf0\t0\tAb\n") false 11 64 32 1218) (too_little (at Reading 0)) same
    ∷ row "a line that is too long" (read_by (at Reading 0) (ascii "abc") R.Long) (goes (after Skipping 5 0) 3 17 false) same
    ∷ row "a frame, with text behind it, as the last part" (reads (ascii "1\tf0\t0\tAb\nx") true 11 64 32 1219) (goes (after Fetching 5 16) 10 0 false) same
    ∷ row "port 2 of two, as the last part" (reads (ascii "2\tf0\t0\tAb\nx") true 11 64 32 1219) (goes (after Reading 5 0) 10 17 false) same
    ∷ row "64 ports" (answered 64 0 321 1024) 0 same
    ∷ row "65 ports are 9" (answered 65 0 326 1040) 9 same
    ∷ row "a P of 2,340" (answered 0 2340 1 0) 0 same
    ∷ row "a P of 2,341 is 9" (answered 0 2341 1 0) 9 same
    ∷ [])

beyond : Pinned
unfolding all_open
beyond =
    pins "Of more rows than the group's 11 a frame and a fetch leave the last ones as they are (request 2026-05)"
    (row "after a frame" (drop 11 (framed_rows (at Reading 0) 1 0xF0 false (0xAB ∷ []) (rows 13) (nines 64))) (rows 2) same
    ∷ row "after a fetch" (drop 11 (fetch_rows_by (at Fetching 1) (rows 13) (nines 64) (nines 32))) (rows 2) same
    ∷ [])

fetches : Pinned
unfolding all_open
fetches =
    pins "Behind its last fetch a line is read next; a report leaves one fetch less (request 2026-05)"
    (row "no fetch left" (turn_of (at Fetching 0) (ascii "x") false (rows 11) (nines 64) (nines 32) 1219) (goes (at Reading 0) 0 0 false) same
    ∷ row "no fetch left and a room of 1,218" (turn_of (at Fetching 0) (ascii "x") false (rows 11) (nines 64) (nines 32) 1218) (too_little (at Fetching 0)) same
    ∷ row "none due: the next line is read" (read_on_turn (at Fetching 7)) (goes (at Reading 0) 0 0 false) same
    ∷ row "a report" (reported_turn (at Fetching 7) 33) (goes (at Fetching 6) 0 33 false) same
    ∷ [])

skips : Pinned
unfolding all_open
skips =
    pins "The rest of a line that is too long is passed over to its end, or as far as there is text; then, and where the run has ended, more is wanted (request 2026-05)"
    (row "to the line's end" (turn_of (at Skipping 0) (ascii "abc\nd") false [] [] [] 0) (goes (at Reading 0) 4 0 false) same
    ∷ row "as far as there is text" (turn_of (at Skipping 0) (ascii "abc") false [] [] [] 0) (goes (at Skipping 0) 3 0 true) same
    ∷ row "to the end of the last part" (turn_of (at Skipping 0) (ascii "abc") true [] [] [] 0) (goes (at Reading 0) 3 0 true) same
    ∷ row "a run that has ended takes all" (turn_of (at Ended 0) (ascii "abc\nd") false [] [] [] 0) (goes (at Ended 0) 5 0 true) same
    ∷ row "nothing is said" (turn_said (at Skipping 0) (ascii "abc\nd") false (rows 1) (nines 2) (nines 3) (nines 4)) (nines 4) same
    ∷ row "the rows stay" (turn_rows (at Ended 0) (ascii "abc\nd") false (rows 1) (nines 2) (nines 3) 4) (rows 1) same
    ∷ row "the store stays" (turn_store (at Skipping 0) (ascii "abc\nd") false (rows 1) (nines 2) (nines 3) 4) (nines 2) same
    ∷ row "the output stays" (turn_out (at Ended 0) (rows 1) (nines 2) (nines 3) 4) (nines 3) same
    ∷ [])

figures : Pinned
unfolding all_open
figures =
    pins "Lines are counted in 64 bits; a store of ports x W x (P + 1), an output of ports x 16 x P, of VC-12 (request 2026-01) ports x 32 x P"
    (row "line numbers go round 2^64" (next_line 18446744073709551615) 0 same
    ∷ row "line 42 comes after 41" (next_line 41) 42 same
    ∷ row "a store" (store_of 3 4 20) 300 same
    ∷ row "an output of H4" (output_of 0 3 4) 192 same
    ∷ row "of a fixed group" (output_of 2 3 4) 192 same
    ∷ row "of VC-12" (output_of 1 3 136) 13056 same
    ∷ row "the names of states" (state_text 0 ++ state_text 1 ++ state_text 2) (ascii "IDLEFAILOK") same
    ∷ row "no change says nothing" (changes_text (512 ∷ 255 ∷ []) (512 ∷ 255 ∷ []) 2) [] same
    ∷ [])

abbrev member : ℕ → ℕ → Member
member state number =
    record {
      spare = 1 ∷ 2 ∷ 3 ∷ 4 ∷ [];
      word = 15;
      number = 16;
      state = state;
      state_number = number;
      told_word = 3;
      told_number = 18;
      hold_off = 300;
      restore = 400;
      elapsed = 500;
    }

abbrev three : List (List ℕ)
three = put_member (put_member (put_member (replicate 16 (replicate 16 0)) 0 (member 2 5)) 1 (member 1 7)) 2 (member 0 9)

states : Pinned
unfolding all_open
states =
    pins "The state of each port with its number: port 0 is OK 5 (2 x 256 + 5), port 1 FAIL 7 (256 + 7), port 2 IDLE, which has 255, and of VC-12 63 (request 2026-05)"
    (row "H4" (take 3 (states_in 0 three)) (517 ∷ 263 ∷ 255 ∷ []) same
    ∷ row "a fixed group" (take 3 (states_in 2 three)) (517 ∷ 263 ∷ 255 ∷ []) same
    ∷ row "VC-12" (take 3 (states_in 1 three)) (517 ∷ 263 ∷ 63 ∷ []) same
    ∷ [])

-- A recording of VC-12 (request 2026-01): P is 136 and W at least 32, so that one port takes a store of 4,384; behind its first line what is lent for one port is 6 rows and an output of 4,352
abbrev vc12 : (phase : Phase) (line left : ℕ) → Replay
vc12 phase line left = record { phase = phase; line = line; left = left; kind = 1; ports = 1; size = 136; window = 32 }

abbrev vc12_reads : List ℕ → ℕ → Replayed
vc12_reads text out = turn_of (vc12 Reading 4 0) text false (rows 6) (nines 4384) (nines out) 1219

of_vc12_lem : Pinned
unfolding all_open
of_vc12_lem =
    pins "A recording of VC-12 (request 2026-01): P is 136 and W at least 32, so that one port takes a store of 4,384; behind its first line what is lent for one port is 6 rows and an output of 4,352."
    (row "a first line" (first (ascii "1\t136\t32\tkind\tVC12\nx") false 321 4384 1219) (goes (vc12 Reading 1 0) 19 0 false) same
    ∷ row "a store one byte too short" (first (ascii "1\t136\t32\tkind\tVC12\nx") false 321 4383 1219) (ends 16) same
    ∷ row "a P of 135" (first (ascii "1\t135\t32\tkind\tVC12\nx") false 321 4384 1219) (ends 16) same
    ∷ row "a P of 137" (first (ascii "1\t137\t32\tkind\tVC12\nx") false 321 5000 1219) (ends 16) same
    ∷ row "W 31" (first (ascii "1\t136\t31\tkind\tVC12\nx") false 321 4384 1219) (ends 16) same
    ∷ row "kind VC-12 with a stroke" (first (ascii "1\t136\t32\tkind\tVC-12\nx") false 321 4384 1219) (ends 17) same
    ∷ row "a payload of one byte is 13" (vc12_reads (ascii "0\t02\t0\tAb\nx") 4352) (goes (vc12 Reading 5 0) 10 17 false) same
    ∷ row "an output one byte short is 9" (vc12_reads (ascii "0\t02\t0\tAb\nx") 4351) (too_little (vc12 Reading 4 0)) same
    ∷ row "a frame is followed by 32 fetches" (vc12_reads (ascii "0\t02\t0\t" ++ (replicate 272 65 ++ ascii "\nx")) 4352) (goes (vc12 Fetching 5 32) 280 0 false) same
    ∷ [])

reports_said : Pinned
unfolding all_open
reports_said =
    pins "What is printed of a report, and of the ports whose state or number has changed with it; behind each frame W fetches (request 2026-05)"
    (row "a sure report of epoch 7 with 01 02 03 04 as its count, behind which port 0 has come to OK 0, port 1 stays OK 4, and port 2 is FAIL 1" (report_text (3 ∷ 7 ∷ 2 ∷ 0 ∷ 1 ∷ 2 ∷ 3 ∷ 4 ∷ []) 255 9 (255 ∷ 516 ∷ 512 ∷ []) (512 ∷ 516 ∷ 257 ∷ []) 3) (ascii "epoch\t7\tsure\tbytes\t16909060\tline\t9\nport\t0\tOK\t0\nport\t2\tFAIL\t1\n") same
    ∷ row "a held report, a packet of port 12 refused; and a doubtful one, port 1 with no whole packet, behind which port 0 is IDLE" (report_text (1 ∷ 255 ∷ 0 ∷ 1 ∷ 0 ∷ 0 ∷ 0 ∷ 0 ∷ []) 12 10 [] [] 0 ++ report_text (2 ∷ 0 ∷ 1 ∷ 6 ∷ 0 ∷ 0 ∷ 0 ∷ 16 ∷ []) 1 11 (512 ∷ []) (255 ∷ []) 1) (ascii "epoch\t255\theld\tbytes\t0\tline\t10\tcause\ta ruling packet was refused\tport\t12\nepoch\t0\tdoubtful\tbytes\t16\tline\t11\tcause\ta port has no whole ruling packet\tport\t1\nport\t0\tIDLE\t255\n") same
    ∷ row "the other causes of a report: with a port, and numbers with a gap, which are no one port's" (place_text 1 8 2 0 ++ place_text 1 8 3 63 ++ place_text 1 8 4 7 ++ place_text 1 8 5 9 ++ place_text 2 8 7 255) (ascii "8\tcause\tan active port lacks a frame\tport\t0\n8\tcause\tnumbers of active and DNU ports repeat\tport\t63\n" ++ ascii "8\tcause\tGID differs among ports that are not IDLE\tport\t7\n8\tcause\tEOS is not on the highest active port alone\tport\t9\n" ++ ascii "8\tcause\tthe numbers are not 0 to n - 1\n") same
    ∷ row "behind a frame's line, which is counted, as many fetches as W" (framed_turn (record { phase = Reading; line = 4; left = 0; kind = 0; ports = 2; size = 1; window = 40 }) 11) (goes (record { phase = Fetching; line = 5; left = 40; kind = 0; ports = 2; size = 1; window = 40 }) 11 0 false) same
    ∷ [])
