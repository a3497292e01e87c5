-- 'Join our sender and receiver over a path with whole-epoch delays, a out and b back, all packets undamaged' (02, 2026-13): the way out is a link of demand 3, frame by frame, and the way back is packets of
-- another sender of ours, whose MST and RS-Ack are the receiver's reply.
use Rattle.std.specs.Prelude.{◌≡◌, ◌≢◌, false, List, [], ◌∷◌, ◌++◌, ℕ, suc, ◌+◌, ◌-◌, ◌*◌, ◌≤◌, ◌<◌, get_or, if◌then◌else◌, Ok, Err}
use Rattle.ground.specs.Plain.{◌≤?◌}
use Rattle.ground.specs.Types.{Bytes}
use Rattle.packet.specs.Ruling.{read_row}
use Rattle.packet.specs.Symbols.{packet_row}
use Rattle.packet.specs.Reading.{Reading}
use Rattle.receiver.specs.Shown.{reply_of}
use Rattle.sender.specs.Answers.Answer.{Done}
use Rattle.sender.specs.declared.table.Table.{Table}
use Rattle.sender.specs.Calls.{Call, run}
use Rattle.sender.specs.Calls.Call.{AddSlot, Report}
use Rattle.sender.specs.Commands.{add_of}
use Rattle.sender.specs.Numbering.{slots_in, state_in}
use Rattle.sender.specs.Table.{is_add}
use Rattle.link.specs.Assumed.{Assumed}
use Rattle.link.specs.Demand3.{Started, own_run}
use Rattle.link.specs.History.{Allowed, History, packet_sent, sender_at}
use Rattle.link.specs.Link.{Link, epoch_frames, kind_of}
use Rattle.link.specs.Running.{Moment, has_begun}
use Rattle.link.specs.Sending.{epoch_number}
use Rattle.sure_add.specs.AsSent.{AsSent}

-- a packet of the way back as the host hands it to the sender: its epoch, MST and RS-Ack; one that is refused is not handed
abbrev pub report_by : Reading → List Call
report_by (Ok f) = Report f.epoch f.mst f.rs_ack ∷ []
report_by (Err u) = []

-- the receiver at the start of the t-th epoch: all frames before that frame time, and after each the reports until none was due
abbrev pub at_start : (k : Link) (m₀ : Moment) (t : ℕ) → Moment
at_start k m₀ t = own_run k m₀ (t * epoch_frames k) []

-- the reply that is read at that start, to go back with the packets of an epoch
abbrev pub reply_at : (k : Link) (m₀ : Moment) (t epoch : ℕ) → Bytes
reply_at k m₀ t e = reply_of (at_start k m₀ t).rows e

-- Both ends and the path, up to the start of some epoch.
pub record Joined (k : Link) (m₀ : Moment) (a b until : ℕ) : Type 0 where
  -- the way out: our sender's history over the lines of demand 3 to a receiver started with any times
  pub out : Assumed k
  pub started : Started k m₀
  -- 'all packets undamaged'
  pub undamaged : AsSent k
  -- 'whole-epoch delays, a out'
  pub delayed : (p : ℕ) → p < k.ports → k.delay p ≡ a * epoch_frames k
  -- the way back: a sender of ours of the same kind, from any first epoch on, of which one slot's packets are read
  pub back : History
  pub back_allowed : Allowed back
  pub back_kind : back.kind ≡ kind_of k
  pub from : ℕ
  pub from_below : from < back.slots
  -- each start reads the reply and lends it to the epoch
  pub mst : (t : ℕ) → t ≤ until → back.mst t ≡ get_or (reply_at k m₀ t (epoch_number back.kind back.first t)) 0 0
  pub ack : (t : ℕ) → t ≤ until → back.ack t ≡ get_or (reply_at k m₀ t (epoch_number back.kind back.first t)) 1 0

-- the back packet that has wholly come by the start of the t-th epoch, that of b + 1 epochs ago, as it is handed over
abbrev pub come_back : {k : Link} {m₀ : Moment} {a b until : ℕ} → Joined k m₀ a b until → ℕ → List Call
come_back {k} {m₀} {a} {b} {until} j t = if b + 1 ≤? t then report_by (read_row j.back.kind (packet_row j.back.kind (packet_sent j.back (t - (b + 1)) j.from))) else []

-- the table at the start of the t-th epoch
abbrev pub table_at : {k : Link} {m₀ : Moment} {a b until : ℕ} → Joined k m₀ a b until → ℕ → Table
table_at j t = (sender_at j.out.history t).table

-- The add: between the starts of the t-th epoch and of the next. What was handed and commanded before start t is anything.
pub record Adding (k : Link) (m₀ : Moment) (a b until : ℕ) (j : Joined k m₀ a b until) (slot t : ℕ) : Type 0 where
  -- the back packet of that start is handed over before the add or behind it
  pub earlier : List Call
  pub later : List Call
  pub one_report : earlier ++ later ≡ come_back j (suc t)
  pub command : j.out.history.before (suc t) ≡ earlier ++ (AddSlot slot ∷ later)
  -- 'the add is accepted', which with a wait open it is not
  pub accepted : (add_of (run (table_at j t) earlier) slot).answer ≡ Done
  -- 'no other commands': from start t on, but for the add, back packets alone are handed over
  pub no_other : (u : ℕ) → suc t < u → u ≤ until → j.out.history.before u ≡ come_back j u
  -- 'Let the new member's port be readable': on undamaged lines all ports are from the beginning on, so receiving has begun
  pub readable : has_begun (at_start k m₀ t) ≡ 1
  -- 'every other port in a settled state': of IDLE, ADD, active and DNU, ADD is the one that is on its way to another
  pub settled : (s : ℕ) → s < slots_in (run (table_at j t) earlier) → s ≢ slot → is_add (state_in (run (table_at j t) earlier) s) ≡ false
