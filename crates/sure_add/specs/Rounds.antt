-- The same over calls, whatever befalls the other ports: a receiver that is handed any frames, flagged or not, and gives one report by each start; a sender that is handed what the reports say. From the add on: start 0 is the
-- last one before it. What was under way then is anything.
use Rattle.std.specs.Prelude.{◌≡◌, ◌≢◌, Bool, true, false, List, [], ℕ, zero, suc, ◌+◌, ◌%◌, ◌≤◌, ◌<◌, get_or, length, if◌then◌else◌}
use Rattle.ground.specs.Types.{Bytes, Rows}
use Rattle.packet.specs.Kinds.{epochs}
use Rattle.packet.specs.declared.ruling.Ruling.{Ruling}
use Rattle.phases.specs.Sizes.{ports_in}
use Rattle.receiver.specs.Report.{reply_ports}
use Rattle.receiver.specs.Shown.{reply_of}
use Rattle.receiver.specs.Starting.{start_as_answer}
use Rattle.reply.specs.declared.members.Port.{Port}
use Rattle.reply.specs.Members.{ok_state, port_at}
use Rattle.reply.specs.Waiting.{standing_at}
use Rattle.rows.specs.Group.{group_at}
use Rattle.rows.specs.Packets.{marks_at}
use Rattle.sender.specs.Answers.Answer.{Done}
use Rattle.sender.specs.declared.table.Table.{Table}
use Rattle.sender.specs.Board.{board_of}
use Rattle.sender.specs.Calls.{Call, run}
use Rattle.sender.specs.Commands.{add_of, start_of}
use Rattle.sender.specs.Numbering.{slots_in, state_in}
use Rattle.sender.specs.Ranks.{row_at}
use Rattle.sender.specs.Reports.{report_of}
use Rattle.sender.specs.Table.{is_active, is_add}
use Rattle.step.specs.OwnCount.{own_ruling}
use Rattle.store.specs.Frames.{packet_in}
use Rattle.store.specs.Marks.{first_mark}
use Rattle.invariant.specs.Calls.{Receiver, ReceiverCall, receiver_after, receiver_run, started_with}
use Rattle.invariant.specs.Calls.ReceiverCall.{Fetch}
use Rattle.invariant.specs.Reports.{Given, passed_rows, reports_of}

pub record Rounds : Type 0 where
  pub kind : ℕ
  pub slots : ℕ
  -- the table before the add, made by any calls from a start
  pub calls : List Call
  -- whether a back packet is handed at start k + 1 behind the add: none is at start 1 where it was handed before the add
  pub handed : ℕ → Bool
  -- the number of that of start 1
  pub first : ℕ
  -- what stands in it, and in those behind it
  pub mst : ℕ → ℕ
  pub ack : ℕ → ℕ
  -- the receiver as it stands where the report fetched by start k is due, the fetch, and the calls from there to the next
  pub far : ℕ → Receiver
  pub output : ℕ → Bytes
  pub lent : ℕ → Bytes
  pub between : ℕ → List ReceiverCall

-- a receiver that a start and any calls have made
pub record Starts (x : Receiver) : Type 0 where
  pub kind : ℕ
  pub count : ℕ
  pub payload : ℕ
  pub window : ℕ
  pub hold : List ℕ
  pub restore : List ℕ
  pub rows : Rows
  pub store : Bytes
  pub done : start_as_answer kind count payload window (length store) hold restore (length rows) ≡ 0
  pub calls : List ReceiverCall
  pub is : x ≡ receiver_run (started_with kind count payload window hold restore rows store) calls

module _ (r : Rounds) where
  abbrev pub before : Table
  before = run (start_of r.kind r.slots).table r.calls

  -- the number of the back packet that is handed at start k + 1
  abbrev pub number_of : ℕ → ℕ
  number_of k = (r.first + k) % epochs r.kind

  -- the table at start k, of a slot added: 'no other commands', and what is handed at each start
  unfoldable pub table_of : ℕ → ℕ → Table
  table_of slot zero = (add_of before slot).table
  table_of slot (suc k) = if r.handed k then (report_of (table_of slot k) (number_of k) (r.mst k) (r.ack k)).table else table_of slot k

  -- after the report fetched by start k
  abbrev pub reported : ℕ → Receiver
  reported k = receiver_after (r.far k) (Fetch (r.output k) (r.lent k))

  -- the ports as that report sees them
  abbrev pub seen : ℕ → List Port
  seen k = reply_ports (group_at (passed_rows (r.far k).rows (r.far k).store)) (passed_rows (r.far k).rows (r.far k).store) (ports_in (group_at (r.far k).rows))

  abbrev pub ports : ℕ → ℕ
  ports k = ports_in (group_at (r.far k).rows)

  -- the packet of port p that it takes in
  abbrev pub heard : ℕ → ℕ → Ruling
  heard k p = own_ruling (group_at (r.far k).rows).kind (group_at (r.far k).rows).oldest (packet_in (group_at (r.far k).rows) p (r.far k).store)

  -- Both ends and the path, with a delay of a epochs out and b back, up to some start.
  pub record Path (a b slot port until : ℕ) : Type 0 where
    -- the receiver is one that a start with any times and any calls have made, of the sender's kind
    pub starts : Starts (r.far (a + 2))
    pub kind_is : (group_at (r.far (a + 2)).rows).kind ≡ r.kind
    -- one report by each start, from that of the first ADD on
    pub given : (k : ℕ) → a + 2 ≤ k → k ≤ until → Given (r.far k).rows (r.far k).store (r.output k) (r.lent k)
    pub next : (k : ℕ) → a + 2 ≤ k → k < until → r.far (suc k) ≡ receiver_run (reported k) (r.between k)
    pub none_between : (k : ℕ) → a + 2 ≤ k → k < until → reports_of (reported k) (r.between k) ≡ []
    -- back: what is handed at start k + b + 1 is the reply as it was read at start k
    pub handed_is : (k : ℕ) → a + 2 ≤ k → k + b < until → r.handed (k + b) ≡ true
    pub mst_is : (k : ℕ) → a + 2 ≤ k → k + b < until → r.mst (k + b) ≡ get_or (reply_of (reported k).rows (number_of (k + b))) 0 0
    -- out: the report by start k + a + 1 takes in what the slot sent in the k-th epoch, from the first that starts after the add on
    pub whole : (k : ℕ) → 1 ≤ k → k + a < until → first_mark (marks_at (r.far (k + a + 1)).rows port) ≡ true
    pub good : (k : ℕ) → 1 ≤ k → k + a < until → (heard (k + a + 1) port).good ≡ true
    pub word : (k : ℕ) → 1 ≤ k → k + a < until → (heard (k + a + 1) port).word ≡ (row_at (board_of (table_of slot k)).rows slot).word.0
    pub number : (k : ℕ) → 1 ≤ k → k + a < until → (heard (k + a + 1) port).number ≡ (row_at (board_of (table_of slot k)).rows slot).number

  -- What the request lets be so, from the add on for so many starts.
  pub record Asked (a slot port restore most : ℕ) : Type 0 where
    pub accepted : (add_of before slot).answer ≡ Done
    pub below : port < ports (a + 2)
    -- 'Let the new member's port be readable': at each report from that of the first ADD on
    pub readable : (k : ℕ) → a + 2 ≤ k → k ≤ most → (port_at (seen k) port).readable ≡ true
    -- 'With a wait-to-restore of r epochs', 0 where 'timers zero'
    pub restores : (k : ℕ) → a + 2 ≤ k → k ≤ most → (port_at (seen k) port).restore ≡ restore
    -- 'its number not held by another OK port': of matter only where the port waits to restore
    pub alone : (k other : ℕ) → a + 2 ≤ k → k ≤ most → 1 ≤ restore → other < ports k → other ≢ port → (standing_at (seen k) (ports k) other).state ≡ ok_state
        → (standing_at (seen k) (ports k) other).number ≢ (port_at (seen k) port).number
    -- 'every other port in a settled state': no other slot goes from ADD to active meanwhile
    pub settled : (k other : ℕ) → k < most → other < slots_in (table_of slot k) → other ≢ slot → is_add (state_in (table_of slot k) other) ≡ true → is_active (state_in (table_of slot (suc k)) other) ≡ false
