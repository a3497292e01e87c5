-- What a frame leaves (01, 'Step', 'Window'; 'Lent bytes change only under 0'), part by part: port 1 of two, P 2, W 16, the window's first frame at place 5 of the ring. Each field has a number of its own.
use Rattle.std.specs.declared.option.Option.TheVariants.{None, Some}
use Rattle.std.specs.Prelude.{if◌then◌else◌, Bool, true, false, List, [], ◌∷◌, ◌++◌, ℕ, replicate}
use Rattle.pinned.specs.Filled.{nines, zeros}
use Rattle.receiver.specs.Frame.{frame_of, marks_by, port_rows, steady_rows, store_by, taken_frame}
use Rattle.rows.specs.declared.group.Group.{Group}
use Rattle.rows.specs.declared.step.Step.{Step}
use Rattle.rows.specs.Group.{group_at, put_group}
use Rattle.rows.specs.Member.{member_at}
use Rattle.rows.specs.Packets.{marks_at, packets_at, put_marks, put_packets}
use Rattle.rows.specs.Step.{put_step, step_at}
use Rattle.step.specs.declared.arrival.Taken.{Taken}
use Rattle.pinned.specs.Opened.{all_open}
use Rattle.tables.specs.Rows.{Pinned, pins, row, same}

-- a count of frames, and the tag to come
abbrev step : ℕ → ℕ → Step
step count next =
    record {
      spare = 52 ∷ 53 ∷ 54 ∷ 55 ∷ [];
      heard = 1;
      failed = 4;
      count = count;
      next = next;
      joined = 1;
      ever_since = 7;
      joined_at = 3;
      whole = 1;
      breaks = 3;
      odd = 6;
      bits = 51;
    }

-- a port in step whose next tag is 22
abbrev taken : (answer : ℕ) (kept : Bool) (at : ℕ) (joins : Bool) → Taken
taken answer kept at joins = record { step = step 32 22; answer = answer; counted = true; kept = if kept then Some at else None; joins = joins; settles = false }

-- a port that has lost step
abbrev losing : Bool → Taken
losing settles = record { step = step 0 22; answer = 12; counted = false; kept = None; joins = false; settles = settles }

-- epochs 0 and 2 to 11 of the window are marked
abbrev marked : List ℕ
marked = 0xFD ∷ 0x0F ∷ zeros 14

marks : Pinned
unfolding all_open
marks =
    pins "Joining at the window's epoch 3 leaves the marks of 0 and 2 alone. The frame 31 after the window's first is the last of epoch 1, and marks it if it is stored; 271 and 2,047 after it are those of epochs 16 and 127 (01, 'Step', 'Window')."
    (row "joining with the last frame of epoch 1 leaves the marks of epochs 0 and 2" (marks_by 0 marked (taken 0 true 31 true)) (0x05 ∷ zeros 15) same
    ∷ row "storing it marks epoch 1" (marks_by 0 marked (taken 0 true 31 false)) (0xFF ∷ 0x0F ∷ zeros 14) same
    ∷ row "the frame before it marks nothing" (marks_by 0 marked (taken 0 true 30 false)) marked same
    ∷ row "the frame behind it marks nothing" (marks_by 0 marked (taken 0 true 32 false)) marked same
    ∷ row "where it is not stored it marks nothing" (marks_by 0 marked (taken 0 false 31 false)) marked same
    ∷ row "the last frame of epoch 16" (marks_by 0 marked (taken 0 true 271 false)) (0xFD ∷ 0x0F ∷ 0x01 ∷ zeros 13) same
    ∷ row "the last frame of epoch 127" (marks_by 0 marked (taken 0 true 2047 false)) (0xFD ∷ 0x0F ∷ (zeros 13 ++ (0x80 ∷ []))) same
    ∷ [])

abbrev group : Group
group =
    record {
      spare = 61 ∷ 62 ∷ 63 ∷ 64 ∷ [];
      kind = 0;
      count = 2;
      payload = 2;
      window = 16;
      begun = 1;
      gathered = 1;
      oldest = 58;
      origin = 5;
      rs_ack = 1;
    }

abbrev rows : List (List ℕ)
rows = put_marks (put_packets (put_step (put_group (replicate 11 (zeros 16)) group) 1 (step 31 21)) 1 (replicate 16 7 ∷ replicate 16 6 ∷ [])) 1 marked

abbrev arrived : List (List ℕ)
arrived = port_rows 0 rows 1 (taken 0 true 31 false) 0xA2

port : Pinned
unfolding all_open
port =
    pins "The frame's own tag is 21, whatever MFI1 it brings: its nibble goes to place 13 of the packet being gathered. Only the port's own rows change. A frame that changes the next tag and a nibble alone leaves the marks. One that loses step brings no nibble (01, 'Step', 'Window')."
    (row "the port's step" (step_at arrived 1) (step 32 22) same
    ∷ row "the port's packet has the nibble at place 13" (packets_at arrived 1) ((replicate 13 7 ++ (10 ∷ 7 ∷ 7 ∷ [])) ∷ replicate 16 6 ∷ []) same
    ∷ row "the port's marks" (marks_at arrived 1) (0xFF ∷ 0x0F ∷ zeros 14) same
    ∷ row "the port's member stays" (member_at arrived 1) (member_at rows 1) same
    ∷ row "the group stays" (group_at arrived) group same
    ∷ row "the other port's step stays" (step_at arrived 0) (step_at rows 0) same
    ∷ row "the other port's packets stay" (packets_at arrived 0) (zeros 16 ∷ zeros 16 ∷ []) same
    ∷ row "the other port's marks stay" (marks_at arrived 0) (zeros 16) same
    ∷ row "a steady frame's tag" (step_at (steady_rows 0 21 0xA2 1 rows) 1) (step 31 22) same
    ∷ row "a steady frame's nibble" (packets_at (steady_rows 0 21 0xA2 1 rows) 1) ((replicate 13 7 ++ (10 ∷ 7 ∷ 7 ∷ [])) ∷ replicate 16 6 ∷ []) same
    ∷ row "a steady frame leaves the marks" (marks_at (steady_rows 0 21 0xA2 1 rows) 1) marked same
    ∷ row "one that loses step brings no nibble" (packets_at (port_rows 0 rows 1 (losing false) 0xA2) 1) (replicate 16 7 ∷ replicate 16 6 ∷ []) same
    ∷ row "one that loses step at port 0" (step_at (port_rows 0 rows 0 (losing false) 0xA2) 0) (step 0 22) same
    ∷ row "a steady frame's tag at port 0" (step_at (steady_rows 0 21 0xA2 0 (put_step rows 0 (step 30 21))) 0) (step 30 22) same
    ∷ row "a steady frame's nibble at port 0" (packets_at (steady_rows 0 21 0xA2 0 rows) 0) ((zeros 13 ++ (10 ∷ 0 ∷ 0 ∷ [])) ∷ zeros 16 ∷ []) same
    ∷ row "a steady frame of port 0 leaves port 1's packets" (packets_at (steady_rows 0 21 0xA2 0 rows) 1) (replicate 16 7 ∷ replicate 16 6 ∷ []) same
    ∷ row "another nibble of a steady frame" (packets_at (steady_rows 0 21 0xC2 1 rows) 1) ((replicate 13 7 ++ (12 ∷ 7 ∷ 7 ∷ [])) ∷ replicate 16 6 ∷ []) same
    ∷ [])

stored : Pinned
unfolding all_open
stored =
    pins "12 after the window's first, at place 5 + 12 of a ring of 16: place 1 of port 1's, from byte 51 on, the payload and then the H4. Under 11 all is as given (01, 'Step', 'Window')."
    (row "payload and H4 at byte 51" (store_by group 1 (taken 0 true 12 false) 0xA5 (3 ∷ 4 ∷ []) (nines 96)) (nines 51 ++ (3 ∷ 4 ∷ 0xA5 ∷ []) ++ nines 42) same
    ∷ row "one that is not kept leaves the store" (store_by group 1 (taken 0 false 12 false) 0xA5 (3 ∷ 4 ∷ []) (nines 96)) (nines 96) same
    ∷ row "under 0 it is stored" (taken_frame group 2 rows 1 (taken 0 true 12 false) 0xA5 (3 ∷ 4 ∷ []) (nines 96)).store (nines 51 ++ (3 ∷ 4 ∷ 0xA5 ∷ []) ++ nines 42) same
    ∷ row "under 11 the store is as given" (taken_frame group 2 rows 1 (taken 11 true 12 false) 0xA5 (3 ∷ 4 ∷ []) (nines 96)).store (nines 96) same
    ∷ row "under 11 the store is as given, and so are the rows" (taken_frame group 2 rows 1 (taken 11 true 31 false) 0xA5 (3 ∷ 4 ∷ []) (nines 96)).rows rows same
    ∷ row "under 0 the rows are as the frame leaves them" (taken_frame group 2 rows 1 (taken 0 true 31 false) 0xA2 (3 ∷ 4 ∷ []) (nines 96)).rows arrived same
    ∷ [])

follows : Pinned
unfolding all_open
follows =
    pins "'When no port is readable any more, receiving stops': where something can follow from the frame, and only there (01, 'Step', 'Window')"
    (row "where it can" (group_at (taken_frame group 2 rows 1 (losing true) 0xA5 (3 ∷ 4 ∷ []) (nines 96)).rows).begun 0 same
    ∷ row "where it cannot" (group_at (taken_frame group 2 rows 1 (losing false) 0xA5 (3 ∷ 4 ∷ []) (nines 96)).rows).begun 1 same
    ∷ [])

-- Epoch 58 starts with tag 920. Port 1 is joined and waits for tag 925, which has MFI1 13: 5 after the window's first, place 10 of the ring, from byte 78 on, and place 5 of the packet.
abbrev waits : List (List ℕ)
waits = put_step rows 1 (step 32 925)

handed : Pinned
unfolding all_open
handed =
    pins "'in the window when its tag is 0 to W-1 after the first' (01, 'Window'). Epoch 58 starts with tag 920. Port 1 waits for tag 925, which has MFI1 13: 5 after the window's first, place 10 of the ring, from byte 78 on, and place 5 of the packet."
    (row "it is answered 0" (frame_of waits 1 false 0xAD (nines 2) (nines 96)).answer 0 same
    ∷ row "and stands at byte 78" (frame_of waits 1 false 0xAD (3 ∷ 4 ∷ []) (nines 96)).store (nines 78 ++ (3 ∷ 4 ∷ 0xAD ∷ []) ++ nines 15) same
    ∷ row "the next tag" (step_at (frame_of waits 1 false 0xAD (3 ∷ 4 ∷ []) (nines 96)).rows 1).next 926 same
    ∷ row "the nibble at place 5" (packets_at (frame_of waits 1 false 0xAD (3 ∷ 4 ∷ []) (nines 96)).rows 1) ((replicate 5 7 ++ (10 ∷ replicate 10 7)) ∷ replicate 16 6 ∷ []) same
    ∷ row "a flagged one is not stored" (frame_of waits 1 true 0xAD (3 ∷ 4 ∷ []) (nines 96)).store (nines 96) same
    ∷ [])
