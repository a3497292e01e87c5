-- Where the packet that rules a port comes from (R-12): it is read from the store when its epoch is passed, and stays until the next one is.
use Rattle.std.specs.Prelude.{◌≡◌, ◌⊎◌, true, false, List, ◌∷◌, ◌++◌, ℕ, ◌<◌, if◌then◌else◌}
use Rattle.ground.specs.Types.{Bytes, Rows}
use Rattle.packet.specs.Kinds.{epoch_after}
use Rattle.rows.specs.declared.group.Group.{Group}
use Rattle.rows.specs.Group.{group_at}
use Rattle.rows.specs.Port.{Port, port_at}
use Rattle.step.specs.Arrival.{flag_of}
use Rattle.store.specs.Frames.{packet_in}
use Rattle.store.specs.Marks.{first_mark}
use Rattle.invariant.specs.Calls.{Fetch, Frame, Receiver, ReceiverCall, port_after, receiver_after, receiver_run}
use Rattle.invariant.specs.Claims.{Claimed, HandedBy}

-- Of each port, as a call takes it from p to q.

-- what rules stays
pub record RulesOn (p q : Port) : Type 0 where
  pub ruling : q.ruling ≡ p.ruling
  pub whole : q.step.whole ≡ p.step.whole

-- nothing rules
pub record Unruled (q : Port) : Type 0 where
  pub whole : q.step.whole ≡ 0

-- the oldest epoch is passed: the packet that came with its frames rules, if they all stand in the store, which is what the first mark says
pub record Passed (g : Group) (store : Bytes) (i : ℕ) (p q : Port) : Type 0 where
  pub ruling : q.ruling ≡ (if first_mark p.marks then packet_in g i store else p.ruling)
  pub whole : q.step.whole ≡ (if first_mark p.marks then 1 else 0)

-- Of all ports at once: all stays, or receiving stops or begins, or the oldest epoch is passed.

pub record AllStay (s r : Rows) : Type 0 where
  pub ports : (j : ℕ) → j < (group_at s).count → RulesOn (port_at s j) (port_at r j)
  pub oldest : (group_at r).oldest ≡ (group_at s).oldest

pub record AllUnruled (s r : Rows) : Type 0 where
  pub ports : (j : ℕ) → j < (group_at s).count → Unruled (port_at r j)

-- the rows in which a call passes an epoch, if it does: a frame comes to its port first
abbrev pub rows_passed : Receiver → ReceiverCall → Rows
rows_passed x (Frame i failed h payload) = port_after x.rows i failed h
rows_passed x (Fetch out report) = x.rows

pub record AllPassed (x : Receiver) (c : ReceiverCall) (store : Bytes) (r : Rows) : Type 0 where
  pub begun : flag_of (group_at (rows_passed x c)).begun ≡ true
  pub ports : (j : ℕ) → j < (group_at x.rows).count → Passed (group_at x.rows) store j (port_at (rows_passed x c) j) (port_at r j)
  pub oldest : (group_at r).oldest ≡ epoch_after (group_at x.rows).kind (group_at x.rows).oldest
  -- what a port claims then it claimed before the call, or it is the frame just handed
  pub claimed : (tag : ℕ) (bytes : Bytes) (h4 j : ℕ) → j < (group_at x.rows).count → Claimed (rows_passed x c) store j tag bytes h4
      → Claimed x.rows x.store j tag bytes h4 ⊎ HandedBy tag bytes h4 x c j

abbrev pub Ruled : (x : Receiver) (c : ReceiverCall) (store : Bytes) (r : Rows) → Type 0
Ruled x c store r = AllStay x.rows r ⊎ (AllUnruled x.rows r ⊎ AllPassed x c store r)

-- All packets that rule after some calls are of one epoch, the one before the oldest: none rules, or they were read from one store, in the call that passed that epoch.
pub data OneEpoch (x : Receiver) (calls : List ReceiverCall) : Type 0 where
  none_rules : ((j : ℕ) → j < (group_at (receiver_run x calls).rows).count → flag_of (port_at (receiver_run x calls).rows j).step.whole ≡ false) → OneEpoch x calls
  passed_in : (earlier : List ReceiverCall) (call : ReceiverCall) (later : List ReceiverCall) → calls ≡ earlier ++ (call ∷ later)
      → ((j : ℕ) → j < (group_at (receiver_run x calls).rows).count → flag_of (port_at (receiver_run x calls).rows j).step.whole ≡ true
      → (port_at (receiver_run x calls).rows j).ruling ≡ packet_in (group_at (receiver_run x earlier).rows) j (receiver_after (receiver_run x earlier) call).store)
      → (group_at (receiver_run x calls).rows).oldest ≡ epoch_after (group_at (receiver_run x earlier).rows).kind (group_at (receiver_run x earlier).rows).oldest
      → OneEpoch x calls
