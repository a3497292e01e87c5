-- What 01 and the minutes say of reports, as the theorems say it.
use Rattle.std.specs.Prelude.{◌≡◌, Bool, ◌&&◌, true, false, not, List, [], ◌∷◌, ℕ, ◌<◌, ◌+◌, ◌*◌, ◌/◌, ◌%◌, zero, suc, ◌≢◌, get_or, length, if◌then◌else◌, ◌==◌}
use Rattle.ground.specs.Drawn.{fill_at}
use Rattle.ground.specs.Types.{Bytes, Epoch, Rows}
use Rattle.judge.specs.Seen.{size_of}
use Rattle.packet.specs.declared.ruling.Ruling.{Ruling}
use Rattle.receiver.specs.Report.{ruling_epoch, reply_ports}
use Rattle.rows.specs.declared.group.Group.{Group}
use Rattle.rows.specs.Member.{member_at}
use Rattle.rows.specs.Port.{Port, port_at}
use Rattle.rows.specs.Step.{step_at}
use Rattle.step.specs.OwnCount.{own_ruling}
use Rattle.step.specs.Arrival.{flag_of, readable}
use Rattle.phases.specs.Due.{silent}
use Rattle.phases.specs.Passing.{passed_group, passed_of}
use Rattle.phases.specs.Sizes.{ports_in}
use Rattle.receiver.specs.Fetch.{due_in, lent_fits, report_if_due}
use Rattle.receiver.specs.Frame.{frame_refusal, taken_in, frame_of}
use Rattle.reply.specs.declared.members.Port.{Port as ReplyPort}
use Rattle.reply.specs.Telling.{ack_of}
use Rattle.rows.specs.Group.{group_at}
use Rattle.packet.specs.Kinds.{epoch_after, fixed_kind, frames}
use Rattle.judge.specs.Verdict.{HELD}
use Rattle.receiver.specs.declared.report.Report.{Report}
use Rattle.store.specs.Frames.{Stands, place_in, stored_at}
use Rattle.invariant.specs.Calls.{Fetch, Frame, Receiver, ReceiverCall, port_after, receiver_after}
use Rattle.invariant.specs.Claims.{tag_in}

-- the packet that rules a port, read
abbrev pub ruled_by : Group → Port → Ruling
ruled_by g p = own_ruling g.kind (ruling_epoch g) p.ruling

-- two states in which the same packets rule
pub record SameRule (n : ℕ) (s t : Rows) : Type 0 where
  pub whole : (i : ℕ) → i < n → (port_at s i).step.whole ≡ (port_at t i).step.whole
  pub ruling : (i : ℕ) → i < n → (port_at s i).ruling ≡ (port_at t i).ruling

-- receiving stops in this call: the frame counts, and after it no port is readable
abbrev pub stops_with : (s : Rows) (port : ℕ) (failed : Bool) (h4 : ℕ) (payload store : Bytes) → Bool
stops_with s i failed h payload store =
    frame_refusal s i (length payload) (length store) == 0
    && not ((taken_in s i failed h).answer == 11)
    && flag_of (group_at s).begun
    && silent (group_at s) (port_after s i failed h) (ports_in (group_at s))

-- what a frame may do to the group of a receiver that has begun, where it does not stop: nothing, or gather the first epoch
pub record Gathers (g h : Group) : Type 0 where
  pub first : flag_of g.gathered ≡ false
  pub passed : h ≡ passed_group g

-- A fetch that gives a report.
pub record Given (s : Rows) (store out report : Bytes) : Type 0 where
  pub fitting : lent_fits s store out report ≡ true
  pub due : due_in (group_at s) (ports_in (group_at s)) s ≡ true

-- The output after a sure report of a fixed group (request 2026-12), X being the number of ports: the group frames of an epoch one after the other, of X x P bytes each, in the order of the numbers, and the rest of it as it was.
pub record ByNumber (s : Rows) (store out after : Bytes) : Type 0 where
  -- the port whose ruling packet carries each number
  pub port : ℕ → ℕ
  pub below : (q : ℕ) → q < ports_in (group_at s) → port q < ports_in (group_at s)
  pub carries : (q : ℕ) → q < ports_in (group_at s) → (ruled_by (group_at s) (port_at s (port q))).number ≡ q
  -- byte c of a group frame is byte c div X of the port with the number c mod X
  pub bytes : after
      ≡ (let X = ports_in (group_at s) in
      let XP = X * (group_at s).payload in
      fill_at 0 (frames fixed_kind * XP) (λ b. get_or store (place_in (group_at s) (port (b % XP % X)) (b / XP) + b % XP / X) 0) out)

-- the ports as the report's states are worked out from them
abbrev pub passed_rows : Rows → Bytes → Rows
passed_rows s store = passed_of (group_at s) store (ports_in (group_at s)) s

-- the ports that the report sees
abbrev pub report_ports : Rows → Bytes → List ReplyPort
report_ports s store = reply_ports (group_at (passed_rows s store)) (passed_rows s store) (ports_in (group_at s))

-- one of them, by its own records as the epoch has passed: the word and number of its last good packet, those of the report before, what that one left of it, its times, and whether it is readable
abbrev pub port_seen : Rows → ℕ → ReplyPort
port_seen p i =
    let m = member_at p i in
    record {
      word = m.word;
      number = m.number;
      state = m.state;
      state_number = m.state_number;
      told_word = m.told_word;
      told_number = m.told_number;
      readable = readable (group_at p) (step_at p i);
      hold_off = m.hold_off;
      restore = m.restore;
      elapsed = m.elapsed;
    }

-- RS-Ack after the report
abbrev pub ack_after : Rows → Bytes → ℕ
ack_after s store = ack_of (report_ports s store) (size_of (ports_in (group_at s))) (group_at s).rs_ack

-- a fetch gives a report
abbrev pub gives : (x : Receiver) (out report : Bytes) → Bool
gives x out report = lent_fits x.rows x.store out report && due_in (group_at x.rows) (ports_in (group_at x.rows)) x.rows

-- the epoch that it says
abbrev pub epoch_given : Receiver → ℕ
epoch_given x = (report_if_due (group_at x.rows) (ports_in (group_at x.rows)) x.rows).epoch

-- the epochs of all reports that a list of calls gives
abbrev pub reports_of : Receiver → List ReceiverCall → List ℕ
reports_of x [] = []
reports_of x (Frame i failed h payload ∷ calls) = reports_of (receiver_after x (Frame i failed h payload)) calls
reports_of x (Fetch out report ∷ calls) =
    let rest = reports_of (receiver_after x (Fetch out report)) calls in
    if gives x out report then epoch_given x ∷ rest else rest

-- receiving stops in none of them
abbrev pub Unstopped : Receiver → List ReceiverCall → Type 0
Unstopped x [] = Unit {0}
Unstopped x (Frame i failed h payload ∷ calls) = (stops_with x.rows i failed h payload x.store ≡ false) × Unstopped (receiver_after x (Frame i failed h payload)) calls
Unstopped x (Fetch out report ∷ calls) = Unstopped (receiver_after x (Fetch out report)) calls

-- so many epochs, each the one after the one before
abbrev pub successive : (kind : ℕ) (epoch : Epoch) (n : ℕ) → List Epoch
successive kind e zero = []
successive kind e (suc n) = e ∷ successive kind (epoch_after kind e) n

-- the first epoch to be reported: the one after the epoch that is still to be gathered, or the oldest
abbrev pub next_report : Group → ℕ
next_report g = if flag_of g.gathered then g.oldest else epoch_after g.kind g.oldest

-- no frame of port i
abbrev pub Others : ℕ → List ReceiverCall → Type 0
Others i [] = Unit {0}
Others i (Frame j failed h payload ∷ calls) = (j ≢ i) × Others i calls
Others i (Fetch out report ∷ calls) = Others i calls

-- a frame that is answered 0 and stored
pub record Stored (y : Receiver) (i : ℕ) (failed : Bool) (h : ℕ) (payload : Bytes) : Type 0 where
  pub answer : (frame_of y.rows i failed h payload y.store).answer ≡ 0
  pub at : ℕ
  pub inside : at < (group_at y.rows).window
  pub tag : tag_in (group_at y.rows) at ≡ (port_at y.rows i).step.next
  pub store_is : (frame_of y.rows i failed h payload y.store).store ≡ stored_at y.store (place_in (group_at y.rows) i at) payload h
  pub stands : Stands (group_at y.rows) i at payload h (frame_of y.rows i failed h payload y.store).store

abbrev pub ack_in : Rows → ℕ
ack_in s = (group_at s).rs_ack

-- a whole ruling packet that was refused with 5, 6 or 7
pub record Refused (s : Rows) (i : ℕ) : Type 0 where
  pub port : i < ports_in (group_at s)
  pub whole : flag_of (port_at s i).step.whole ≡ true
  pub refused : (ruled_by (group_at s) (port_at s i)).good ≡ false

-- held, with no bytes
pub record HeldReport (r : Report) (epoch : ℕ) : Type 0 where
  pub mark : r.mark ≡ HELD
  pub epoch_is : r.epoch ≡ epoch
  pub none : r.x ≡ 0
  pub empty : r.bytes ≡ 0
