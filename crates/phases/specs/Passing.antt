-- The oldest epoch passed: gathered, or reported (01, 'Beginning', 'Report of an epoch'). Each port's packet of that epoch comes to rule, if it stands whole in the store.
use Rattle.std.specs.Prelude.{Bool, List, ℕ, zero, suc, ◌-◌, set, if◌then◌else◌}
use Rattle.ground.specs.Types.{Bytes, Rows}
use Rattle.packet.specs.Kinds.{epoch_after, frames}
use Rattle.packet.specs.declared.ruling.Ruling.{Ruling}
use Rattle.step.specs.OwnCount.{own_ruling}
use Rattle.rows.specs.declared.group.Group.{Group}
use Rattle.rows.specs.declared.member.Member.{Member}
use Rattle.rows.specs.declared.step.Step.{Step}
use Rattle.rows.specs.Group.{put_group}
use Rattle.rows.specs.Member.{member_at, put_member}
use Rattle.rows.specs.Packets.{marks_at, packets_at, put_marks, put_packets}
use Rattle.rows.specs.Step.{put_step, step_at}
use Rattle.store.specs.Frames.{packet_in, ring_of}
use Rattle.store.specs.Marks.{first_mark, passed_marks}

-- 'Each port keeps sixteen nibbles of the packet being gathered beside those of the packet that rules': the second is the one that rules
unfoldable pub ruled_by : (pair : List (List ℕ)) (whole : Bool) (nibbles : List ℕ) → List (List ℕ)
ruled_by pair whole nibbles = if whole then set pair 1 nibbles else pair

-- 'joined at a later epoch' comes nearer by one epoch
unfoldable pub passed_step : Step → Bool → Step
passed_step s whole =
    record {
      spare = s.spare;
      heard = s.heard;
      failed = s.failed;
      count = s.count;
      next = s.next;
      joined = s.joined;
      ever_since = s.ever_since;
      joined_at = s.joined_at - 1;
      whole = if whole then 1 else 0;
      breaks = s.breaks;
      odd = s.odd;
      bits = s.bits;
    }

-- 'the good packets up to that epoch's own'
unfoldable pub noted_by : (m : Member) (whole : Bool) (r : Ruling) → Member
noted_by m whole r =
    record {
      spare = m.spare;
      word = if whole then (if r.good then r.word else m.word) else m.word;
      number = if whole then (if r.good then r.number else m.number) else m.number;
      state = m.state;
      state_number = m.state_number;
      told_word = m.told_word;
      told_number = m.told_number;
      hold_off = m.hold_off;
      restore = m.restore;
      elapsed = m.elapsed;
    }

-- a port whose packet of that epoch is read so
abbrev pub passed_port_by : (read : Ruling) (g : Group) (store : Bytes) (port : ℕ) (s : Rows) → Rows
passed_port_by read g store i s =
    let whole = first_mark (marks_at s i) in
    let nibbles = packet_in g i store in
    let a = put_member s i (noted_by (member_at s i) whole read) in
    let b = put_packets a i (ruled_by (packets_at s i) whole nibbles) in
    let c = put_step b i (passed_step (step_at s i) whole) in
    put_marks c i (passed_marks (marks_at s i))

unfoldable pub passed_port : (g : Group) (store : Bytes) (port : ℕ) (s : Rows) → Rows
passed_port g store i s = passed_port_by (own_ruling g.kind g.oldest (packet_in g i store)) g store i s

unfoldable pub passed_ports : (g : Group) (store : Bytes) (ports : ℕ) (s : Rows) → Rows
passed_ports g store zero s = s
passed_ports g store (suc n) s = passed_port g store n (passed_ports g store n s)

abbrev pub group_to : (g : Group) (begun gathered oldest origin ack : ℕ) → Group
group_to g begun gathered oldest origin ack =
    record {
      spare = g.spare;
      kind = g.kind;
      count = g.count;
      payload = g.payload;
      window = g.window;
      begun = begun;
      gathered = gathered;
      oldest = oldest;
      origin = origin;
      rs_ack = ack;
    }

-- the window moves on by one epoch, and its first frame's place with it
unfoldable pub passed_group : Group → Group
passed_group g = group_to g g.begun 1 (epoch_after g.kind g.oldest) (ring_of g.origin (frames g.kind) g.window) g.rs_ack

unfoldable pub passed_of : (g : Group) (store : Bytes) (ports : ℕ) (s : Rows) → Rows
passed_of g store n s = put_group (passed_ports g store n s) (passed_group g)
