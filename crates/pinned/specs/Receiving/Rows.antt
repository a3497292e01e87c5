-- The receiver's rows: what is written is read back, every field with a number of its own and each two-byte field below and at a multiple of 256, and nothing else changes. Where a field stands is free.
use Rattle.std.specs.Prelude.{List, [], ◌∷◌, ℕ, length, replicate}
use Rattle.rows.specs.declared.group.Group.{Group}
use Rattle.rows.specs.declared.member.Member.{Member}
use Rattle.rows.specs.declared.step.Step.{Step}
use Rattle.rows.specs.Group.{group_at, group_of, group_row, put_group}
use Rattle.rows.specs.Member.{member_at, member_of, member_row, put_member}
use Rattle.rows.specs.Packets.{marks_at, packets_at, put_marks, put_packets, entry_in, with_entry}
use Rattle.rows.specs.Part.{again, put, with}
use Rattle.rows.specs.Part.Part.{TheMarks, TheMember, ThePackets, TheStep}
use Rattle.rows.specs.Port.{Port, port_at}
use Rattle.rows.specs.Rows.{put_row, row_in, rows_for}
use Rattle.rows.specs.Step.{put_step, step_at, step_of, step_row, with_next}
use Rattle.tables.specs.Rows.{Pinned, pins, row, same}

abbrev group : (payload window origin : ℕ) → Group
group payload window origin =
    record {
      spare = 61 ∷ 62 ∷ 63 ∷ 64 ∷ [];
      kind = 2;
      count = 3;
      payload = payload;
      window = window;
      begun = 4;
      gathered = 5;
      oldest = 58;
      origin = origin;
      rs_ack = 1;
    }

abbrev step : ℕ → Step
step next =
    record {
      spare = 52 ∷ 53 ∷ 54 ∷ 55 ∷ [];
      heard = 31;
      failed = 32;
      count = 33;
      next = next;
      joined = 35;
      ever_since = 36;
      joined_at = 34;
      whole = 37;
      breaks = 38;
      odd = 39;
      bits = 51;
    }

abbrev member : (hold restore elapsed : ℕ) → Member
member hold restore elapsed =
    record {
      spare = 41 ∷ 42 ∷ 43 ∷ 44 ∷ [];
      word = 15;
      number = 16;
      state = 2;
      state_number = 17;
      told_word = 3;
      told_number = 18;
      hold_off = hold;
      restore = restore;
      elapsed = elapsed;
    }

back : Pinned
unfolding entry_in group_of group_row member_of member_row step_of step_row with_next with_entry
back =
    pins "Records as rows of sixteen bytes, and back; where a field stands is free."
    (row "a group's, below and at a multiple of 256" (group_of (group_row (group 2303 2048 511))) (group 2303 2048 511) same
    ∷ row "a group's, the other way round" (group_of (group_row (group 2304 1791 1024))) (group 2304 1791 1024) same
    ∷ row "a group has sixteen bytes" (length (group_row (group 2303 2048 511))) 16 same
    ∷ row "a step's" (step_of (step_row (step 4095))) (step 4095) same
    ∷ row "a step's with another tag" (step_of (step_row (step 3840))) (step 3840) same
    ∷ row "a step has sixteen bytes" (length (step_row (step 4095))) 16 same
    ∷ row "a member's" (member_of (member_row (member 4863 4864 255))) (member 4863 4864 255) same
    ∷ row "a member's with other times" (member_of (member_row (member 4608 4607 256))) (member 4608 4607 256) same
    ∷ row "a member's with others again" (member_of (member_row (member 768 1279 1280))) (member 768 1279 1280) same
    ∷ row "a member has sixteen bytes" (length (member_row (member 4863 4864 255))) 16 same
    ∷ row "a step with the next tag" (step_of (step_row (with_next (step 4095) 7))) (step 7) same
    ∷ row "one entry put" (with_entry ((1 ∷ 2 ∷ 3 ∷ []) ∷ (4 ∷ 5 ∷ 6 ∷ []) ∷ []) 1 9) ((1 ∷ 9 ∷ 3 ∷ []) ∷ (4 ∷ 5 ∷ 6 ∷ []) ∷ []) same
    ∷ row "one entry read" (entry_in ((1 ∷ 2 ∷ 3 ∷ []) ∷ (4 ∷ 5 ∷ 6 ∷ []) ∷ []) 1) 2 same
    ∷ [])

-- two ports, all rows of ones
abbrev ones : List ℕ
ones = replicate 16 1

abbrev rows : List (List ℕ)
rows = replicate 11 ones

abbrev twos : List ℕ
twos = replicate 16 2

abbrev threes : List ℕ
threes = replicate 16 3

abbrev fours : List ℕ
fours = replicate 16 4

-- port 1 with all its parts put, and the group's row
abbrev full : List (List ℕ)
full = put_group (put_marks (put_packets (put_member (put_step rows 1 (step 4095)) 1 (member 1 2 3)) 1 (twos ∷ threes ∷ [])) 1 fours) (group 2303 2048 511)

abbrev port : Port
port = record { step = step 4095; member = member 1 2 3; gathering = twos; ruling = threes; marks = fours }

parts : Pinned
unfolding group_at group_of group_row marks_at member_at member_of member_row packets_at port_at put_group put_marks put_member put_packets put_row put_step row_in step_at step_of step_row
parts =
    pins "Each part of a port at its own place, which is free: port 1 has what was put, port 0 what it had; a row that is not there reads as zeros, and what is put there is dropped."
    (row "two ports have eleven rows" (rows_for 2) 11 same
    ∷ row "what was put of port 1" (port_at full 1) port same
    ∷ row "port 0 has what it had" (port_at full 0) (port_at rows 0) same
    ∷ row "the group" (group_at full) (group 2303 2048 511) same
    ∷ row "as many rows" (length full) 11 same
    ∷ row "port 1's two packets" (packets_at full 1) (twos ∷ threes ∷ []) same
    ∷ row "a row that is not there" (row_in rows 11) (replicate 16 0) same
    ∷ row "what is put there is dropped" (put_row rows 11 twos) rows same
    ∷ row "a step put" (port_at (put full 1 (TheStep (step 7))) 1) (with port (TheStep (step 7))) same
    ∷ row "a member put" (port_at (put full 1 (TheMember (member 4 5 6))) 1) (with port (TheMember (member 4 5 6))) same
    ∷ row "packets put" (port_at (put full 1 (ThePackets (fours ∷ ones ∷ []))) 1) (with port (ThePackets (fours ∷ ones ∷ []))) same
    ∷ row "marks put" (port_at (put full 1 (TheMarks ones)) 1) (with port (TheMarks ones)) same
    ∷ row "a port with other marks" (with port (TheMarks ones)) (record { step = step 4095; member = member 1 2 3; gathering = twos; ruling = threes; marks = ones }) same
    ∷ row "a port with other packets" (with port (ThePackets (fours ∷ ones ∷ []))) (record { step = step 4095; member = member 1 2 3; gathering = fours; ruling = ones; marks = fours }) same
    ∷ row "a step read again" (again full 1 (TheStep (step 0))) (TheStep (step 4095)) same
    ∷ row "a member read again" (again full 1 (TheMember (member 0 0 0))) (TheMember (member 1 2 3)) same
    ∷ row "packets read again" (again full 1 (ThePackets [])) (ThePackets (twos ∷ threes ∷ [])) same
    ∷ row "marks read again" (again full 1 (TheMarks [])) (TheMarks fours) same
    ∷ [])
