-- The report of an epoch (01, 'Report of an epoch', 'Payload order'), part by part: a group of two ports, P 2, W 16, whose oldest epoch is 58, and what it reads from rows and store.
use Rattle.std.specs.Prelude.{Bool, true, false, List, [], ◌∷◌, ◌++◌, ℕ, get_or, length, replicate, take, if◌then◌else◌, ◌==◌}
use Rattle.pinned.specs.Filled.{nines, zeros}
use Rattle.ground.specs.Table.{tabulate}
use Rattle.judge.specs.Cause.{mark_of}
use Rattle.judge.specs.declared.order.Order.{Order}
use Rattle.judge.specs.declared.seen.Seen.{Seen}
use Rattle.receiver.specs.Cause.{cause_answer, cause_out}
use Rattle.receiver.specs.Fetch.{due_in, fetch_of, out_if_due, record_of, report_if_due, rows_if_due}
use Rattle.receiver.specs.Frame.{frame_of, gathered_by, refusal_by}
use Rattle.receiver.specs.Report.{frames_into, output_by, output_of, reply_port, reply_ports, report_by, epoch_report, ruling_epoch, seen_all, seen_of, starts_of, states_worked_out, with_state}
use Rattle.receiver.specs.Starting.{start_rows}
use Rattle.reply.specs.Waiting.{standing}
use Rattle.rows.specs.declared.group.Group.{Group}
use Rattle.rows.specs.declared.member.Member.{Member}
use Rattle.rows.specs.declared.step.Step.{Step}
use Rattle.rows.specs.Group.{group_at, put_group}
use Rattle.rows.specs.Member.{member_at, put_member}
use Rattle.rows.specs.Packets.{put_marks, put_packets}
use Rattle.rows.specs.Step.{put_step}
use Rattle.store.specs.Frames.{ring_of, stored_at}
use Rattle.pinned.specs.Opened.{all_open}
use Rattle.tables.specs.Rows.{Pinned, pins, row, same}

abbrev group : ℕ → Group
group origin =
    record {
      spare = replicate 4 0;
      kind = 0;
      count = 2;
      payload = 2;
      window = 16;
      begun = 1;
      gathered = 1;
      oldest = 58;
      origin = origin;
      rs_ack = 0;
    }

-- two ports, no frame yet
abbrev rows : List (List ℕ)
rows = start_rows 0 2 2 16 96 (replicate 11 (zeros 16))

-- 'The packets of one epoch rule the payload of the next'. Port 1 has a packet of epoch 57 with NORM, SQ 3, GID 1 and MST FF, CRC 1E, in the second place.
abbrev norm : List ℕ
norm = 15 ∷ 15 ∷ 0 ∷ 0 ∷ 0 ∷ 0 ∷ 0 ∷ 3 ∷ 3 ∷ 9 ∷ 2 ∷ 1 ∷ 0 ∷ 0 ∷ 1 ∷ 14 ∷ []

abbrev seen : (good : Bool) (word number gid : ℕ) → Seen
seen good word number gid = record { whole = false; good = good; word = word; number = number; gid = gid; here = false }

ruled : Pinned
unfolding all_open
ruled =
    pins "'The packets of one epoch rule the payload of the next' (01, 'Taking effect'). Port 1 has a packet of epoch 57 with NORM, SQ 3, GID 1 and MST FF, CRC 1E, in the second place."
    (row "the epoch before the oldest" (ruling_epoch (group 0)) 57 same
    ∷ row "in the second place it rules" (seen_of (group 0) (put_packets rows 1 (zeros 16 ∷ norm ∷ [])) 1) (seen true 2 3 1) same
    ∷ row "in the first it does not" (seen_of (group 0) (put_packets rows 1 (norm ∷ zeros 16 ∷ [])) 1) (seen false 0 0 0) same
    ∷ row "another port's does not" (seen_of (group 0) (put_packets rows 0 (zeros 16 ∷ norm ∷ [])) 1) (seen false 0 0 0) same
    ∷ [])

abbrev order : Order
order = record { ports = 1 ∷ 0 ∷ zeros 62; x = 2 }

-- a store whose byte at each place is the place: port 0's sixteen frames of three bytes, then port 1's
abbrev store : List ℕ
store = tabulate 96 (λ i. i)

payload : Pinned
unfolding all_open
payload =
    pins "A held report has no bytes and X 0; a doubtful and a sure one have X x 16 x P. The first group frame has port 1's first byte, port 0's, port 1's second byte, port 0's. With the window's first frame at place 15 of the ring the next stands at place 0 (01, 'Report of an epoch', 'Payload order')."
    (row "a sure report" (report_by (group 0) 3 0 order) (record { mark = 3; epoch = 58; x = 2; cause = 0; bytes = 64 }) same
    ∷ row "a doubtful one" (report_by (group 0) 2 7 order) (record { mark = 2; epoch = 58; x = 2; cause = 7; bytes = 64 }) same
    ∷ row "a held one has no bytes" (report_by (group 0) 1 4 order) (record { mark = 1; epoch = 58; x = 0; cause = 4; bytes = 0 }) same
    ∷ row "two frames from place 0 on" (frames_into (group 0) order store 2 (nines 10)) (48 ∷ 0 ∷ 49 ∷ 1 ∷ 51 ∷ 3 ∷ 52 ∷ 4 ∷ 9 ∷ 9 ∷ []) same
    ∷ row "from place 15 on, round the ring" (frames_into (group 15) order store 2 (nines 9)) (93 ∷ 45 ∷ 94 ∷ 46 ∷ 48 ∷ 0 ∷ 49 ∷ 1 ∷ 9 ∷ []) same
    ∷ row "held, nothing is written" (output_by (group 0) 1 order store (nines 70)) (nines 70) same
    ∷ row "doubtful, all is" (take 4 (output_by (group 0) 2 order store (nines 64))) (48 ∷ 0 ∷ 49 ∷ 1 ∷ []) same
    ∷ row "place 16 is place 0" (ring_of 15 1 16) 0 same
    ∷ row "place 7" (ring_of 3 4 16) 7 same
    ∷ row "payload and H4 at their place" (stored_at (nines 8) 2 (5 ∷ 6 ∷ []) 7) (9 ∷ 9 ∷ 5 ∷ 6 ∷ 7 ∷ 9 ∷ 9 ∷ 9 ∷ []) same
    ∷ row "where they do not fit nothing is stored" (stored_at (nines 4) 2 (5 ∷ 6 ∷ []) 7) (nines 4) same
    ∷ [])

-- a member's ten fields: what the reply is worked out from, and what a report leaves
abbrev member : Member
member =
    record {
      spare = 1 ∷ 2 ∷ 3 ∷ 4 ∷ [];
      word = 15;
      number = 16;
      state = 2;
      state_number = 17;
      told_word = 3;
      told_number = 18;
      hold_off = 300;
      restore = 400;
      elapsed = 500;
    }

states : Pinned
unfolding all_open
states =
    pins "A member's ten fields: what the reply is worked out from, and what a report leaves (01, 'Member states and reply'; request 2026-03)."
    (row "what the reply takes" (reply_port (group 0) (put_member rows 1 member) 1) (record { word = 15; number = 16; state = 2; state_number = 17; told_word = 3; told_number = 18; readable = false; hold_off = 300; restore = 400; elapsed = 500 }) same
    ∷ row "what a report leaves" (with_state member (standing 1 20 21)) (record { spare = 1 ∷ 2 ∷ 3 ∷ 4 ∷ []; word = 15; number = 16; state = 1; state_number = 20; told_word = 15; told_number = 16; hold_off = 300; restore = 400; elapsed = 21 }) same
    ∷ [])

fetches : Pinned
unfolding all_open
fetches =
    pins "'A fetch with none due answers 0, says so, and changes nothing'; 9 changes nothing either, not even the record (01, 'Report of an epoch')"
    (row "none due says so" (fetch_of rows (nines 96) (nines 64) (nines 8)).report (zeros 8) same
    ∷ row "none due says so, and is 0" (fetch_of rows (nines 96) (nines 64) (nines 8)).answer 0 same
    ∷ row "none due says so, and leaves the rows" (fetch_of rows (nines 96) (nines 64) (nines 8)).rows rows same
    ∷ row "none due says so, and the output" (fetch_of rows (nines 96) (nines 64) (nines 8)).out (nines 64) same
    ∷ row "63 bytes lent leave the record" (fetch_of rows (nines 96) (nines 63) (nines 8)).report (nines 8) same
    ∷ row "63 bytes lent are 9" (fetch_of rows (nines 96) (nines 63) (nines 8)).answer 9 same
    ∷ row "65 are taken" (fetch_of rows (nines 96) (nines 65) (nines 8)).answer 0 same
    ∷ [])

frames : Pinned
unfolding all_open
frames =
    pins "A frame: 1 for the port, then 9, then 10, 12 and 11; 1 and 9 leave rows and store (01, 'Answer numbers')."
    (row "a first frame is 12" (frame_of rows 1 false 0 (nines 2) (nines 96)).answer 12 same
    ∷ row "port 2 of two is 1" (frame_of rows 2 false 0 (nines 2) (nines 96)).answer 1 same
    ∷ row "port 2 of two is 1, also with a payload of three bytes" (frame_of rows 2 false 0 (nines 3) (nines 96)).answer 1 same
    ∷ row "port 1 with three bytes is 9" (frame_of rows 1 false 0 (nines 3) (nines 96)).answer 9 same
    ∷ row "with one byte" (frame_of rows 1 false 0 (nines 1) (nines 96)).answer 9 same
    ∷ row "with a store one byte short" (frame_of rows 1 false 0 (nines 2) (nines 95)).answer 9 same
    ∷ row "a flagged one is 10" (frame_of rows 1 true 0 (nines 2) (nines 96)).answer 10 same
    ∷ row "port 2 leaves the rows" (frame_of rows 2 true 0 (nines 2) (nines 96)).rows rows same
    ∷ row "9 leaves the rows" (frame_of rows 1 true 0 (nines 3) (nines 96)).rows rows same
    ∷ row "port 2 leaves the store" (frame_of rows 2 false 0 (nines 2) (nines 96)).store (nines 96) same
    ∷ row "no refusal" (refusal_by (group 0) 2 1 11 2 96) 0 same
    ∷ row "1 for the port" (refusal_by (group 0) 2 2 11 2 96) 1 same
    ∷ row "9 for the store" (refusal_by (group 0) 2 1 11 2 97) 9 same
    ∷ row "a nibble at its place" (gathered_by 0 (nines 16 ∷ zeros 16 ∷ []) true 21 0xA5) ((nines 13 ++ (10 ∷ 9 ∷ 9 ∷ [])) ∷ zeros 16 ∷ []) same
    ∷ row "none where the frame does not count" (gathered_by 0 (nines 16 ∷ zeros 16 ∷ []) false 21 0xA5) (nines 16 ∷ zeros 16 ∷ []) same
    ∷ [])

-- A group of two ports, P 2, W 16, in which receiving has begun and an epoch was gathered, or not. Each field has a number of its own.
abbrev phase : ℕ → ℕ → Group
phase begun gathered =
    record {
      spare = 61 ∷ 62 ∷ 63 ∷ 64 ∷ [];
      kind = 0;
      count = 2;
      payload = 2;
      window = 16;
      begun = begun;
      gathered = gathered;
      oldest = 58;
      origin = 5;
      rs_ack = 1;
    }

-- a count of frames; its ruling packet came whole, and it was in step ever since the beginning
abbrev step : ℕ → Step
step count =
    record {
      spare = zeros 4;
      heard = 1;
      failed = 0;
      count = count;
      next = 0;
      joined = 0;
      ever_since = 1;
      joined_at = 0;
      whole = 1;
      breaks = 0;
      odd = 0;
      bits = 0;
    }

-- port 1, not in step any more, was ruled by NORM 3 and has brought the frames of epoch 58; port 0 has had no packet
abbrev ruling : List (List ℕ)
ruling = put_marks (put_packets (put_step rows 1 (step 0)) 1 (zeros 16 ∷ norm ∷ [])) 1 (1 ∷ zeros 15)

-- a port in step whose ruling packet did not come whole
abbrev unruled : Step
unruled =
    record {
      spare = zeros 4;
      heard = 1;
      failed = 0;
      count = 32;
      next = 0;
      joined = 0;
      ever_since = 1;
      joined_at = 0;
      whole = 0;
      breaks = 0;
      odd = 0;
      bits = 0;
    }

candidates : Pinned
unfolding all_open
candidates =
    pins "Whether a port can be a candidate: readable as it is now, whatever its packet and its frames were (01, 'Report of an epoch')"
    (row "not in step any more" (reply_port (phase 1 1) ruling 1).readable false same
    ∷ row "in step" (reply_port (phase 1 1) (put_step ruling 1 (step 32)) 1).readable true same
    ∷ row "in step with no whole packet" (reply_port (phase 1 1) (put_step ruling 1 unruled) 1).readable true same
    ∷ row "before the beginning" (reply_port (phase 0 1) (put_step ruling 1 (step 32)) 1).readable false same
    ∷ [])

due : Pinned
unfolding all_open
due =
    pins "'It is due when every readable port has brought its sixteen frames', of a group that has begun and has gathered. Here it is doubtful, since port 0 has no whole packet: port 1's two bytes of each frame, from place 5 of its ring on (01, 'Report of an epoch')."
    (row "all that is readable has brought its frames" (due_in (phase 1 1) 2 ruling) true same
    ∷ row "before the beginning" (due_in (phase 0 1) 2 ruling) false same
    ∷ row "before a first epoch is gathered" (due_in (phase 1 0) 2 ruling) false same
    ∷ row "of an empty group" (due_in (phase 1 1) 0 ruling) false same
    ∷ row "port 1 in step has brought them too" (due_in (phase 1 1) 2 (put_step ruling 1 (step 32))) true same
    ∷ row "port 0 in step has not" (due_in (phase 1 1) 2 (put_step ruling 0 (step 32))) false same
    ∷ row "port 1 in step without its mark has not" (due_in (phase 1 1) 2 (put_step rows 1 (step 32))) false same
    ∷ row "the report" (report_if_due (phase 1 1) 2 ruling) (record { mark = 2; epoch = 58; x = 1; cause = 6; bytes = 32 }) same
    ∷ row "no report where none is due" (report_if_due (phase 1 0) 2 ruling) (record { mark = 0; epoch = 0; x = 0; cause = 0; bytes = 0 }) same
    ∷ row "the report's first bytes" (take 5 (out_if_due (phase 1 1) 2 ruling store (nines 64))) (63 ∷ 64 ∷ 66 ∷ 67 ∷ 69 ∷ []) same
    ∷ row "no byte where none is due" (out_if_due (phase 1 0) 2 ruling store (nines 64)) (nines 64) same
    ∷ row "where none is due the rows stay" (rows_if_due (phase 1 0) 2 ruling store) ruling same
    ∷ [])

kept : Pinned
unfolding all_open
kept =
    pins "Working the states out leaves the group but for RS-Ack, which stays where no port has changed. What is kept by port has 64 places (01, 'Report of an epoch')."
    (row "a group that has begun" (group_at (states_worked_out (phase 1 0) 0 (zeros 16 ∷ []))) (phase 1 0) same
    ∷ row "one that has gathered" (group_at (states_worked_out (phase 0 1) 0 (zeros 16 ∷ []))) (phase 0 1) same
    ∷ row "what was seen has 64 places" (length (seen_all (phase 1 1) [] 0)) 64 same
    ∷ row "so have the starts" (starts_of (phase 1 1) [] 0 0) (zeros 64) same
    ∷ row "so have the reply's ports" (length (reply_ports (phase 1 1) [] 0)) 64 same
    ∷ [])

-- OK so far, and ADD when it was told; IDLE now
abbrev gone : Member
gone = record { spare = zeros 4; word = 5; number = 255; state = 2; state_number = 0; told_word = 1; told_number = 0; hold_off = 0; restore = 0; elapsed = 0 }

-- Of eighteen ports, more than an epoch has frames, the last one counts as any other: its packet, its rank and bytes, its state and RS-Ack.
abbrev eighteen : List (List ℕ)
eighteen = put_member (put_packets (replicate 91 (zeros 16)) 17 (zeros 16 ∷ norm ∷ [])) 17 gone

abbrev last_active : List Seen
last_active = tabulate 18 (λ i. record { whole = true; good = true; word = if i == 17 then 3 else 5; number = if i == 17 then 0 else 255; gid = 0; here = true })

many : Pinned
unfolding all_open
many =
    pins "Of eighteen ports, more than an epoch has frames, the last one counts as any other: its packet, its rank and bytes, its state and RS-Ack (01, 'Report of an epoch')."
    (row "its packet" (get_or (seen_all (phase 1 1) eighteen 18) 17 (seen false 0 0 0)) (seen true 2 3 1) same
    ∷ row "its rank" (epoch_report (phase 1 1) last_active 18) (record { mark = 3; epoch = 58; x = 1; cause = 0; bytes = 32 }) same
    ∷ row "its bytes" (take 3 (output_of (phase 1 1) last_active 18 (replicate 864 7) (nines 40))) (7 ∷ 7 ∷ 7 ∷ []) same
    ∷ row "its state" (member_at (states_worked_out (phase 1 1) 18 eighteen) 17).state 0 same
    ∷ row "its word as told" (member_at (states_worked_out (phase 1 1) 18 eighteen) 17).told_word 5 same
    ∷ row "RS-Ack" (group_at (states_worked_out (phase 1 1) 18 eighteen)).rs_ack 0 same
    ∷ [])

records : Pinned
unfolding all_open
records =
    pins "The byte count of a record, highest byte first, up to 32 bits (01, 'Report of an epoch')"
    (row "four bytes that differ" (record_of (record { mark = 3; epoch = 7; x = 9; cause = 0; bytes = 0xFEFFFFFF })) (3 ∷ 7 ∷ 9 ∷ 0 ∷ 0xFE ∷ 0xFF ∷ 0xFF ∷ 0xFF ∷ []) same
    ∷ row "the highest alone" (record_of (record { mark = 3; epoch = 7; x = 9; cause = 0; bytes = 0xFF000000 })) (3 ∷ 7 ∷ 9 ∷ 0 ∷ 0xFF ∷ 0 ∷ 0 ∷ 0 ∷ []) same
    ∷ [])

causes_told : Pinned
unfolding all_open
causes_told =
    pins "The record of a report of two ports with each cause of H4: sure with none, held with no bytes by 1 to 5, doubtful with all of them by 6 and 7 (01, 'Report of an epoch')"
    (row "causes 0 to 7" (tabulate 8 (λ c. record_of (report_by (group 0) (mark_of 0 c) c order))) ((3 ∷ 58 ∷ 2 ∷ 0 ∷ 0 ∷ 0 ∷ 0 ∷ 64 ∷ []) ∷ (1 ∷ 58 ∷ 0 ∷ 1 ∷ 0 ∷ 0 ∷ 0 ∷ 0 ∷ []) ∷ (1 ∷ 58 ∷ 0 ∷ 2 ∷ 0 ∷ 0 ∷ 0 ∷ 0 ∷ []) ∷ (1 ∷ 58 ∷ 0 ∷ 3 ∷ 0 ∷ 0 ∷ 0 ∷ 0 ∷ []) ∷ (1 ∷ 58 ∷ 0 ∷ 4 ∷ 0 ∷ 0 ∷ 0 ∷ 0 ∷ []) ∷ (1 ∷ 58 ∷ 0 ∷ 5 ∷ 0 ∷ 0 ∷ 0 ∷ 0 ∷ []) ∷ (2 ∷ 58 ∷ 2 ∷ 6 ∷ 0 ∷ 0 ∷ 0 ∷ 64 ∷ []) ∷ (2 ∷ 58 ∷ 2 ∷ 7 ∷ 0 ∷ 0 ∷ 0 ∷ 64 ∷ []) ∷ []) same
    ∷ [])

read_before : Pinned
unfolding all_open
read_before =
    pins "Why the next report is as it is can be read before the fetch: in epoch 58 port 0 has no whole packet; in epoch 0 that of port 1 is refused, since it is another epoch's. Two bytes are asked for, and the rows of two ports; an empty group has no cause (include/levelspruce.h)."
    (row "port 0 has no whole packet" (cause_out (put_group ruling (phase 1 1)) (nines 2)) (6 ∷ 0 ∷ []) same
    ∷ row "port 1's is refused" (cause_out ruling (nines 2)) (1 ∷ 1 ∷ []) same
    ∷ row "two bytes are answered 0" (cause_answer ruling 2) 0 same
    ∷ row "three bytes stay" (cause_out ruling (nines 3)) (nines 3) same
    ∷ row "three bytes stay, and are 9" (cause_answer ruling 3) 9 same
    ∷ row "ten rows are 9" (cause_answer (take 10 ruling) 2) 9 same
    ∷ row "an empty group" (cause_out (zeros 16 ∷ []) (nines 2)) (0 ∷ 255 ∷ []) same
    ∷ [])
