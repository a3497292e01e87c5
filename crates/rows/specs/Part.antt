-- A part of a port, with what is put there.
use Rattle.std.specs.Prelude.{List, ℕ}
use Rattle.ground.specs.Types.{Rows}
use Rattle.rows.specs.declared.member.Member.{Member}
use Rattle.rows.specs.declared.step.Step.{Step}
use Rattle.rows.specs.Member.{member_at, put_member}
use Rattle.rows.specs.Packets.{packets_at, put_packets, marks_at, put_marks}
use Rattle.rows.specs.Port.{Port, with_step, with_member, with_packets, with_marks}
use Rattle.rows.specs.Step.{step_at, put_step}

pub data Part : Type 0 where
  TheStep : Step → Part
  TheMember : Member → Part
  ThePackets : List (List ℕ) → Part
  TheMarks : List ℕ → Part

abbrev pub put : (s : Rows) (port : ℕ) (part : Part) → Rows
put s i (TheStep q) = put_step s i q
put s i (TheMember m) = put_member s i m
put s i (ThePackets pair) = put_packets s i pair
put s i (TheMarks row) = put_marks s i row

-- a port that has it
abbrev pub with : Port → Part → Port
with p (TheStep q) = with_step p q
with p (TheMember m) = with_member p m
with p (ThePackets pair) = with_packets p pair
with p (TheMarks row) = with_marks p row

-- and that part as it is read
abbrev pub again : (s : Rows) (port : ℕ) (part : Part) → Part
again s i (TheStep q) = TheStep (step_at s i)
again s i (TheMember m) = TheMember (member_at s i)
again s i (ThePackets pair) = ThePackets (packets_at s i)
again s i (TheMarks row) = TheMarks (marks_at s i)
