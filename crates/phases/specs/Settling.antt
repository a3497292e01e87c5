-- What follows from a frame for all ports (01, 'Beginning'): stopping comes first, then the beginning, then gathering.
use Rattle.std.specs.Prelude.{◌≡◌, Bool, true, false, not, ◌&&◌, ℕ, zero, suc, replicate, if◌then◌else◌}
use Rattle.ground.specs.Types.{Bytes, Rows}
use Rattle.packet.specs.Kinds.{epoch_after, epoch_of}
use Rattle.phases.specs.Beginning.{begins, foremost}
use Rattle.phases.specs.Due.{brought, silent}
use Rattle.phases.specs.Passing.{group_to, passed_of}
use Rattle.rows.specs.declared.group.Group.{Group}
use Rattle.rows.specs.declared.step.Step.{Step}
use Rattle.rows.specs.Group.{group_at, put_group}
use Rattle.rows.specs.Packets.{put_marks}
use Rattle.rows.specs.Step.{put_step, step_at}
use Rattle.step.specs.Arrival.{flag_of, in_step}

-- Nobody has joined and nothing is stored or rules. At a beginning those in step are 'in step ever since the beginning'.
unfoldable pub cleared_step : Step → Bool → Step
cleared_step s since =
    record {
      spare = s.spare;
      heard = s.heard;
      failed = s.failed;
      count = s.count;
      next = s.next;
      joined = 0;
      ever_since = if since then 1 else 0;
      joined_at = 0;
      whole = 0;
      breaks = s.breaks;
      odd = s.odd;
      bits = s.bits;
    }

unfoldable pub cleared_port : (g : Group) (beginning : Bool) (port : ℕ) (s : Rows) → Rows
cleared_port g beginning i s = put_marks (put_step s i (cleared_step (step_at s i) (beginning && in_step g (step_at s i)))) i (replicate 16 0)

unfoldable pub cleared_ports : (g : Group) (beginning : Bool) (ports : ℕ) (s : Rows) → Rows
cleared_ports g beginning zero s = s
cleared_ports g beginning (suc n) s = cleared_port g beginning n (cleared_ports g beginning n s)

-- 'When no port is readable any more, receiving stops, unreported epochs are dropped'; 'member states and RS-Ack stay'
unfoldable pub stopped_of : (g : Group) (ports : ℕ) (s : Rows) → Rows
stopped_of g n s = put_group (cleared_ports g false n s) (group_to g 0 0 0 g.origin g.rs_ack)

unfoldable pub stop_by : (g : Group) (ports : ℕ) (s : Rows) → Rows
stop_by g n s = if flag_of g.begun && silent g s n then stopped_of g n s else s

-- 'The next epoch to start after the foremost tag is gathered'
unfoldable pub begun_of : (g : Group) (ports : ℕ) (s : Rows) → Rows
begun_of g n s =
    put_group (cleared_ports g true n s) (group_to g 1 0 (epoch_after g.kind (epoch_of g.kind (foremost g s n))) g.origin g.rs_ack)

unfoldable pub begin_by : (g : Group) (ports : ℕ) (s : Rows) → Rows
begin_by g n s = if not (flag_of g.begun) && begins g s n then begun_of g n s else s

-- 'gathered, in the call that makes it due, and not reported'
unfoldable pub gather_by : (g : Group) (store : Bytes) (ports : ℕ) (s : Rows) → Rows
gather_by g store n s = if flag_of g.begun && not (flag_of g.gathered) && brought g s n then passed_of g store n s else s

-- each on the state that the one before left
unfoldable pub settled_of : (ports : ℕ) (store : Bytes) (s : Rows) → Rows
settled_of n store s =
    let a = stop_by (group_at s) n s in
    let b = begin_by (group_at a) n a in
    gather_by (group_at b) store n b

abbrev pub begun_at : Rows → Bool
begun_at s = flag_of (group_at s).begun

abbrev pub gathered_at : Rows → Bool
gathered_at s = flag_of (group_at s).gathered

-- what holds of rows that are settled
pub record Settled (n : ℕ) (s : Rows) : Type 0 where
  -- 'When no port is readable any more, receiving stops'
  pub heard : begun_at s ≡ true → silent (group_at s) s n ≡ false
  -- 'gathered, in the call that makes it due'
  pub gathers : begun_at s ≡ true → gathered_at s ≡ false → brought (group_at s) s n ≡ false
  -- when receiving begins
  pub waits : begun_at s ≡ false → begins (group_at s) s n ≡ false
