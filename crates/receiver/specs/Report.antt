-- The report of an epoch (01, 'Report of an epoch', 'Member states and reply').
use Rattle.std.specs.Prelude.{false, List, [], ℕ, zero, suc, ◌+◌, ◌*◌, ◌/◌, ◌%◌, get_or, replicate, if◌then◌else◌, ◌==◌}
use Rattle.ground.specs.Types.{Bytes, Epoch, Rows}
use Rattle.ground.specs.Counting.Each.{each}
use Rattle.judge.specs.declared.order.Order.{Order}
use Rattle.judge.specs.declared.seen.Seen.{Seen}
use Rattle.judge.specs.Cause.{cause_of}
use Rattle.judge.specs.Order.{active_in, order_of, port_of}
use Rattle.judge.specs.Seen.{size_of}
use Rattle.judge.specs.Verdict.{HELD, judge_of}
use Rattle.packet.specs.Kinds.{epoch_of, first_tag, frames, tag_before}
use Rattle.payload.specs.Joining.{joined_from}
use Rattle.payload.specs.Order.{group_byte}
use Rattle.phases.specs.Passing.{group_to, passed_of}
use Rattle.step.specs.OwnCount.{own_ruling}
use Rattle.receiver.specs.declared.report.Report.{Report}
use Rattle.reply.specs.Telling.{ack_of}
use Rattle.reply.specs.Waiting.{no_standing, standings_of}
use Rattle.reply.specs.declared.members.Port.{Port}
use Rattle.reply.specs.declared.waiting.Standing.{Standing}
use Rattle.rows.specs.declared.group.Group.{Group}
use Rattle.rows.specs.declared.member.Member.{Member}
use Rattle.rows.specs.Group.{group_at, put_group}
use Rattle.rows.specs.Member.{member_at, put_member}
use Rattle.rows.specs.Packets.{marks_at, packets_at}
use Rattle.rows.specs.Step.{step_at}
use Rattle.step.specs.Arrival.{flag_of, readable}
use Rattle.store.specs.Frames.{place_in}
use Rattle.store.specs.Marks.{first_mark}

-- 'The packets of one epoch rule the payload of the next': the epoch before the oldest
unfoldable pub ruling_epoch : Group → Epoch
ruling_epoch g = epoch_of g.kind (tag_before g.kind (first_tag g.kind g.oldest))

-- what is seen of port i
unfoldable pub seen_of : (g : Group) (s : Rows) (port : ℕ) → Seen
seen_of g s i =
    let r = own_ruling g.kind (ruling_epoch g) (get_or (packets_at s i) 1 []) in
    record {
      whole = flag_of (step_at s i).whole;
      good = r.good;
      word = r.word;
      number = r.number;
      gid = r.gid;
      here = first_mark (marks_at s i);
    }

abbrev pub no_seen : Seen
no_seen = record { whole = false; good = false; word = 0; number = 0; gid = 0; here = false }

unfoldable pub seen_all : (g : Group) (s : Rows) (ports : ℕ) → List Seen
seen_all g s n = each (size_of n) (seen_of g s) (replicate 64 no_seen)

-- the starts of the ranked ports' frames, k after the window's first
unfoldable pub starts_of : (g : Group) (order : List ℕ) (x k : ℕ) → List ℕ
starts_of g order x k = each (size_of x) (λ r. place_in g (get_or order r 0) k) (replicate 64 0)

-- group frame k at its place in the output
unfoldable pub frame_into : (g : Group) (o : Order) (store : Bytes) (k : ℕ) (out : Bytes) → Bytes
frame_into g o store k out = joined_from o.x g.payload (starts_of g o.ports o.x k) store (k * (o.x * g.payload)) out

-- the first k group frames, one after the other from the output's start on
unfoldable pub frames_into : (g : Group) (o : Order) (store : Bytes) (k : ℕ) (out : Bytes) → Bytes
frames_into g o store zero out = out
frames_into g o store (suc k) out = frame_into g o store k (frames_into g o store k out)

-- how many bytes a group frame has
abbrev pub frame_bytes : (g : Group) (seen : List Seen) (n : ℕ) → ℕ
frame_bytes g seen n = active_in seen n * g.payload

-- byte j of the frame that the port ranked r brought as the k-th of the oldest epoch
abbrev pub brought_byte : (g : Group) (seen : List Seen) (n : ℕ) (store : Bytes) (k r j : ℕ) → ℕ
brought_byte g seen n store k r j = get_or store (place_in g (port_of seen n r) k + j) 0

-- byte b of a report: the group frames one after the other, each in payload order
abbrev pub report_byte : (g : Group) (seen : List Seen) (n : ℕ) (store : Bytes) (b : ℕ) → ℕ
report_byte g seen n store b = group_byte (active_in seen n) (brought_byte g seen n store (b / frame_bytes g seen n)) (b % frame_bytes g seen n)

-- what the fetched report says
unfoldable pub report_by : (g : Group) (mark cause : ℕ) (o : Order) → Report
report_by g mark cause o =
    let x = if mark == HELD then 0 else o.x in
    record { mark = mark; epoch = g.oldest; x = x; cause = cause; bytes = x * frames g.kind * g.payload }

unfoldable pub epoch_report : (g : Group) (seen : List Seen) (ports : ℕ) → Report
epoch_report g seen n = report_by g (judge_of g.kind seen (size_of n)) (cause_of g.kind seen (size_of n)) (order_of seen (size_of n))

-- held: 'No bytes.' Otherwise 'Sixteen group frames from the active ports seen.' 'Output beyond those bytes stays.'
unfoldable pub output_by : (g : Group) (mark : ℕ) (o : Order) (store out : Bytes) → Bytes
output_by g mark o store out = if mark == HELD then out else frames_into g o store (frames g.kind) out

unfoldable pub output_of : (g : Group) (seen : List Seen) (ports : ℕ) (store out : Bytes) → Bytes
output_of g seen n store out = output_by g (judge_of g.kind seen (size_of n)) (order_of seen (size_of n)) store out

-- a port as its member state is worked out; readable at the moment of the fetch
unfoldable pub reply_port : (g : Group) (s : Rows) (port : ℕ) → Port
reply_port g s i =
    let m = member_at s i in
    record {
      word = m.word;
      number = m.number;
      state = m.state;
      state_number = m.state_number;
      told_word = m.told_word;
      told_number = m.told_number;
      readable = readable g (step_at s i);
      hold_off = m.hold_off;
      restore = m.restore;
      elapsed = m.elapsed;
    }

abbrev pub no_port : Port
no_port =
    record {
      word = 0;
      number = 0;
      state = 0;
      state_number = 0;
      told_word = 0;
      told_number = 0;
      readable = false;
      hold_off = 0;
      restore = 0;
      elapsed = 0;
    }

unfoldable pub reply_ports : (g : Group) (s : Rows) (ports : ℕ) → List Port
reply_ports g s n = each (size_of n) (reply_port g s) (replicate 64 no_port)

-- 'Worked out at each report'
unfoldable pub with_state : Member → Standing → Member
with_state m left =
    record {
      spare = m.spare;
      word = m.word;
      number = m.number;
      state = left.state;
      state_number = left.number;
      told_word = m.word;
      told_number = m.number;
      hold_off = m.hold_off;
      restore = m.restore;
      elapsed = left.elapsed;
    }

unfoldable pub state_put : (states : List Standing) (port : ℕ) (s : Rows) → Rows
state_put states i s = put_member s i (with_state (member_at s i) (get_or states i no_standing))

unfoldable pub states_put : (states : List Standing) (ports : ℕ) (s : Rows) → Rows
states_put states zero s = s
states_put states (suc n) s = state_put states n (states_put states n s)

unfoldable pub states_worked_out : (g : Group) (ports : ℕ) (s : Rows) → Rows
states_worked_out g n s =
    let ports = reply_ports g s n in
    put_group (states_put (standings_of ports (size_of n)) n s) (group_to g g.begun g.gathered g.oldest g.origin (ack_of ports (size_of n) g.rs_ack))

-- the state after a report: the epoch is passed, then states and RS-Ack are worked out from the good packets up to its own
unfoldable pub reported_of : (g : Group) (store : Bytes) (ports : ℕ) (s : Rows) → Rows
reported_of g store n s =
    let a = passed_of g store n s in
    states_worked_out (group_at a) n a
