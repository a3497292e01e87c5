-- A receiver's start, and what the host reads out (01, 'The receiver', 'Member states and reply'; requests 2026-03, 2026-12), clause by clause.
use Rattle.std.specs.Prelude.{true, false, List, [], ◌∷◌, ◌++◌, ℕ, replicate, take}
use Rattle.receiver.specs.Fetch.{record_of}
use Rattle.receiver.specs.Lengths.{fetch_fits, frame_fits, output_for, rows_fit}
use Rattle.receiver.specs.Shown.{port_shown, ports_answer, ports_out, reply_answer, reply_byte, reply_of, reply_out, shown_number, waiting_byte}
use Rattle.receiver.specs.Starting.{start_as_answer, start_as_rows, start_rows, time_of, times_within}
use Rattle.rows.specs.declared.group.Group.{Group}
use Rattle.rows.specs.declared.member.Member.{Member}
use Rattle.rows.specs.declared.step.Step.{Step}
use Rattle.rows.specs.Group.{group_at, put_group}
use Rattle.rows.specs.Member.{member_at, put_member}
use Rattle.rows.specs.Packets.{marks_at, packets_at}
use Rattle.rows.specs.Step.{put_step, step_at}
use Rattle.pinned.specs.Opened.{all_open}
use Rattle.tables.specs.Rows.{Pinned, pins, row, same}

abbrev rows : ℕ → List (List ℕ)
rows n = replicate n (replicate 16 9)

-- two ports, P 3, W 20: 11 rows and a store of 2 x 20 x 4
abbrev opened : List (List ℕ)
opened = start_as_rows 2 2 3 20 160 (3 ∷ 5000 ∷ []) (4 ∷ 300 ∷ []) (rows 11)

-- and three
abbrev three : List (List ℕ)
three = start_rows 0 3 3 20 240 (rows 16)

starts : Pinned
unfolding all_open
starts =
    pins "After a start each port has its own times; no good packet, IDLE under 255, nothing told, no timer; no frame, no step; the group its settings, nothing begun, RS-Ack 0 (01, 'The receiver'; requests 2026-03 and 2026-12)"
    (row "port 0's hold-off" (member_at opened 0).hold_off 3 same
    ∷ row "port 1's hold-off" (member_at opened 1).hold_off 5000 same
    ∷ row "port 0's wait-to-restore" (member_at opened 0).restore 4 same
    ∷ row "port 1's wait-to-restore" (member_at opened 1).restore 300 same
    ∷ row "no word" (member_at opened 1).word 255 same
    ∷ row "no number" (member_at opened 1).number 255 same
    ∷ row "IDLE" (member_at opened 1).state 0 same
    ∷ row "under 255" (member_at opened 1).state_number 255 same
    ∷ row "no word told" (member_at opened 1).told_word 255 same
    ∷ row "no number told" (member_at opened 1).told_number 255 same
    ∷ row "no timer" (member_at opened 1).elapsed 0 same
    ∷ row "packets of zeros" (packets_at opened 0 ++ packets_at opened 1) (replicate 4 (replicate 16 0)) same
    ∷ row "no mark" (marks_at opened 0 ++ marks_at opened 1) (replicate 32 0) same
    ∷ row "no frame had" (step_at opened 1).heard 0 same
    ∷ row "none flagged" (step_at opened 1).failed 0 same
    ∷ row "no count" (step_at opened 1).count 0 same
    ∷ row "not joined" (step_at opened 1).joined 0 same
    ∷ row "no whole packet" (step_at opened 1).whole 0 same
    ∷ row "joined at no later epoch" (step_at opened 1).joined_at 0 same
    ∷ row "no break" (step_at opened 1).breaks 0 same
    ∷ row "no odd packet" (step_at opened 1).odd 0 same
    ∷ row "the kind" (group_at opened).kind 2 same
    ∷ row "the count" (group_at opened).count 2 same
    ∷ row "P" (group_at opened).payload 3 same
    ∷ row "W" (group_at opened).window 20 same
    ∷ row "not begun" (group_at opened).begun 0 same
    ∷ row "nothing gathered" (group_at opened).gathered 0 same
    ∷ row "RS-Ack 0" (group_at opened).rs_ack 0 same
    ∷ [])

refused_starts : Pinned
unfolding all_open
refused_starts =
    pins "'4: .. an empty group': no port, and 9 leaves the rows (01, 'The receiver', 'Member states and reply'; request 2026-03)"
    (row "65 ports leave none" (group_at (start_rows 0 65 3 20 0 (rows 11))).count 0 same
    ∷ row "nothing begun" (group_at (start_rows 0 65 3 20 0 (rows 11))).begun 0 same
    ∷ row "no P" (group_at (start_rows 0 65 3 20 0 (rows 11))).payload 0 same
    ∷ row "no W" (group_at (start_rows 0 65 3 20 0 (rows 11))).window 0 same
    ∷ row "a store of another length leaves the rows" (start_rows 0 2 3 20 159 (rows 11)) (rows 11) same
    ∷ row "no times" (start_as_answer 0 2 3 20 160 [] [] 11) 0 same
    ∷ row "a store one byte longer" (start_as_answer 0 2 3 20 161 [] [] 11) 9 same
    ∷ row "one row more" (start_as_answer 0 2 3 20 160 [] [] 12) 9 same
    ∷ row "hold-offs alone" (start_as_answer 0 2 3 20 160 (1 ∷ 2 ∷ []) [] 11) 0 same
    ∷ row "wait-to-restores alone" (start_as_answer 0 2 3 20 160 [] (1 ∷ 2 ∷ []) 11) 0 same
    ∷ row "a hold-off for one of two ports" (start_as_answer 0 2 3 20 160 (1 ∷ []) [] 11) 9 same
    ∷ row "three wait-to-restores for two ports" (start_as_answer 0 2 3 20 160 [] (1 ∷ 2 ∷ 3 ∷ []) 11) 9 same
    ∷ row "4 for a time before 9 for their number" (start_as_answer 0 2 3 20 160 (1 ∷ 2 ∷ 5001 ∷ []) [] 11) 4 same
    ∷ row "4 for a time before 9 for their number, and before 9 for the rows" (start_as_answer 0 2 3 20 160 [] (5001 ∷ []) 12) 4 same
    ∷ row "times of 5,000" (times_within (5000 ∷ 0 ∷ 5000 ∷ [])) true same
    ∷ row "a time of 5,001" (times_within (5000 ∷ 0 ∷ 5001 ∷ [])) false same
    ∷ row "the second port's time" (time_of (3 ∷ 4 ∷ []) 1) 4 same
    ∷ row "of a third none is set" (time_of (3 ∷ 4 ∷ []) 2) 0 same
    ∷ [])

lengths : Pinned
unfolding all_open
lengths =
    pins "Lengths that are taken: an empty group has any number of rows; an output may be longer than asked, a payload, a store and a record of a report may not (01, 'The receiver', 'Answer numbers')"
    (row "an empty group has any number of rows" (rows_fit 0 7) true same
    ∷ row "two ports have eleven" (rows_fit 2 11) true same
    ∷ row "twelve are too many" (rows_fit 2 12) false same
    ∷ row "ten too few" (rows_fit 2 10) false same
    ∷ row "a frame's lengths" (frame_fits (group_at opened) 2 11 3 160) true same
    ∷ row "a payload of four bytes" (frame_fits (group_at opened) 2 11 4 160) false same
    ∷ row "a payload of two" (frame_fits (group_at opened) 2 11 2 160) false same
    ∷ row "a store one byte shorter" (frame_fits (group_at opened) 2 11 3 159) false same
    ∷ row "a store one byte longer" (frame_fits (group_at opened) 2 11 3 161) false same
    ∷ row "twelve rows" (frame_fits (group_at opened) 2 12 3 160) false same
    ∷ row "the output asked for" (output_for (group_at opened) 2) 96 same
    ∷ row "a fetch's lengths" (fetch_fits (group_at opened) 2 11 160 96 8) true same
    ∷ row "a longer output" (fetch_fits (group_at opened) 2 11 160 97 8) true same
    ∷ row "a shorter one" (fetch_fits (group_at opened) 2 11 160 95 8) false same
    ∷ row "a shorter store" (fetch_fits (group_at opened) 2 11 159 96 8) false same
    ∷ row "ten rows" (fetch_fits (group_at opened) 2 10 160 96 8) false same
    ∷ row "a record of nine bytes" (fetch_fits (group_at opened) 2 11 160 96 9) false same
    ∷ row "a record of seven" (fetch_fits (group_at opened) 2 11 160 96 7) false same
    ∷ [])

-- a member in a state, under a number, with a timer at so much
abbrev member : ℕ → ℕ → Member
member state elapsed =
    record {
      spare = [];
      word = 2;
      number = 8;
      state = state;
      state_number = 7;
      told_word = 0;
      told_number = 0;
      hold_off = 0;
      restore = 0;
      elapsed = elapsed;
    }

-- with times of its own, of which none runs
abbrev timed : ℕ → Member
timed state = record { spare = []; word = 2; number = 8; state = state; state_number = 7; told_word = 0; told_number = 0; hold_off = 7; restore = 9; elapsed = 0 }

-- a port whose last frame was flagged failed, joined before
abbrev flagged_step : Step
flagged_step =
    record {
      spare = replicate 4 0;
      heard = 1;
      failed = 1;
      count = 0;
      next = 0;
      joined = 1;
      ever_since = 0;
      joined_at = 0;
      whole = 0;
      breaks = 0;
      odd = 0;
      bits = 0;
    }

shows : Pinned
unfolding all_open
shows =
    pins "'IDLE' has no number and no timer; 1 hold-off of an OK port, 2 restoring of a FAIL one (01, 'The receiver', 'Member states and reply'; request 2026-03)"
    (row "IDLE shows 255" (shown_number 0 (member 0 0)) 255 same
    ∷ row "FAIL shows its number" (shown_number 0 (member 1 0)) 7 same
    ∷ row "OK shows its number" (shown_number 0 (member 2 0)) 7 same
    ∷ row "OK with no timer" (waiting_byte (member 2 0)) 0 same
    ∷ row "FAIL with no timer" (waiting_byte (member 1 0)) 0 same
    ∷ row "OK in hold-off" (waiting_byte (member 2 3)) 1 same
    ∷ row "FAIL waiting to restore" (waiting_byte (member 1 3)) 2 same
    ∷ row "IDLE has none" (waiting_byte (member 0 3)) 0 same
    ∷ row "OK with times of which none runs" (waiting_byte (timed 2)) 0 same
    ∷ row "FAIL with times of which none runs" (waiting_byte (timed 1)) 0 same
    ∷ row "a port in hold-off" (port_shown (group_at opened) (step_at opened 0) (member 2 3)) (2 ∷ 7 ∷ 0 ∷ 0 ∷ 0 ∷ 0 ∷ 2 ∷ 1 ∷ []) same
    ∷ row "a report's record, bytes highest first" (record_of (record { mark = 2; epoch = 200; x = 64; cause = 6; bytes = 0x01248003 })) (2 ∷ 200 ∷ 64 ∷ 6 ∷ 0x01 ∷ 0x24 ∷ 0x80 ∷ 0x03 ∷ []) same
    ∷ row "two ports into two" (ports_answer opened 2) 0 same
    ∷ row "into one" (ports_answer opened 1) 9 same
    ∷ row "into three" (ports_answer opened 3) 9 same
    ∷ row "ten rows" (ports_answer (take 10 opened) 2) 9 same
    ∷ row "three ports into three" (ports_answer three 3) 0 same
    ∷ row "into two" (ports_answer three 2) 9 same
    ∷ row "two fresh ports" (ports_out opened (replicate 2 (replicate 8 9))) (replicate 2 (0 ∷ 255 ∷ 0 ∷ 0 ∷ 0 ∷ 0 ∷ 255 ∷ 0 ∷ [])) same
    ∷ row "one of them in hold-off" (ports_out (put_member opened 1 (member 2 3)) (replicate 2 (replicate 8 9))) ((0 ∷ 255 ∷ 0 ∷ 0 ∷ 0 ∷ 0 ∷ 255 ∷ 0 ∷ []) ∷ (2 ∷ 7 ∷ 0 ∷ 0 ∷ 0 ∷ 0 ∷ 2 ∷ 1 ∷ []) ∷ []) same
    ∷ row "one of them flagged" (ports_out (put_step opened 1 flagged_step) (replicate 2 (replicate 8 9))) ((0 ∷ 255 ∷ 0 ∷ 0 ∷ 0 ∷ 0 ∷ 255 ∷ 0 ∷ []) ∷ (0 ∷ 255 ∷ 0 ∷ 1 ∷ 0 ∷ 1 ∷ 255 ∷ 0 ∷ []) ∷ []) same
    ∷ row "three places leave all" (ports_out opened (replicate 3 (replicate 8 9))) (replicate 3 (replicate 8 9)) same
    ∷ row "ten rows leave all" (ports_out (take 10 opened) (replicate 2 (replicate 8 9))) (replicate 2 (replicate 8 9)) same
    ∷ [])

-- RS-Ack has turned
abbrev turned : Group
turned =
    record {
      spare = replicate 4 0;
      kind = 0;
      count = 2;
      payload = 3;
      window = 20;
      begun = 0;
      gathered = 0;
      oldest = 0;
      origin = 0;
      rs_ack = 1;
    }

-- port 1 is OK under 7
abbrev seventh : List (List ℕ)
seventh = put_member (start_rows 0 2 3 20 160 (rows 11)) 1 (member 2 0)

replies : Pinned
unfolding all_open
replies =
    pins "With no port OK, MST is FF and RS-Ack 0; of a fixed group both are 0; number 7 is the last bit of MST in epochs 0, 32, 64 and so on (01, 'The receiver', 'Member states and reply'; request 2026-03)"
    (row "no port OK" (reply_of (start_rows 0 2 3 20 160 (rows 11)) 0) (255 ∷ 0 ∷ []) same
    ∷ row "of a fixed group" (reply_of opened 0) (0 ∷ 0 ∷ []) same
    ∷ row "three bytes lent stay" (reply_out opened 0 (9 ∷ 9 ∷ 9 ∷ [])) (9 ∷ 9 ∷ 9 ∷ []) same
    ∷ row "two are written" (reply_out opened 0 (9 ∷ 9 ∷ [])) (0 ∷ 0 ∷ []) same
    ∷ row "two are written, they are answered 0" (reply_answer opened 2) 0 same
    ∷ row "three are 9" (reply_answer opened 3) 9 same
    ∷ row "MST and RS-Ack of H4 as they are" (reply_byte 0 5) 5 same
    ∷ row "of VC-12 too" (reply_byte 1 5) 5 same
    ∷ row "of a fixed group 0" (reply_byte 2 5) 0 same
    ∷ row "one byte is 9" (reply_answer opened 1) 9 same
    ∷ row "of three ports two bytes" (reply_answer three 2) 0 same
    ∷ row "of three ports two bytes, and not three" (reply_answer three 3) 9 same
    ∷ row "ten rows are 9" (reply_answer (take 10 opened) 2) 9 same
    ∷ row "RS-Ack that has turned" (reply_of (put_group (start_rows 0 2 3 20 160 (rows 11)) turned) 0) (255 ∷ 1 ∷ []) same
    ∷ row "number 7 in epoch 32" (reply_of seventh 32) (0xFE ∷ 0 ∷ []) same
    ∷ row "number 7 in epoch 32, and not in epoch 33" (reply_of seventh 33) (0xFF ∷ 0 ∷ []) same
    ∷ row "as lent, in epoch 64" (reply_out seventh 64 (9 ∷ 9 ∷ [])) (0xFE ∷ 0 ∷ []) same
    ∷ row "as lent, in epoch 33" (reply_out seventh 33 (9 ∷ 9 ∷ [])) (0xFF ∷ 0 ∷ []) same
    ∷ row "ten rows leave the bytes" (reply_out (take 10 opened) 0 (9 ∷ 9 ∷ [])) (9 ∷ 9 ∷ []) same
    ∷ [])
