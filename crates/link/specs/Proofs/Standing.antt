-- What stands at each moment of a run (the invariant of demand 3). Everything of the receiver that matters is a function of how far each port has come and of the window's first position.
use Rattle.std.specs.Prelude.{◌≡◌, false, cond, List, [], ℕ, suc, ◌+◌, ◌-◌, ◌*◌, ◌%◌, ◌≤◌, ◌<◌, leb, ltb, get_or, length}
use Rattle.ground.specs.Table.{tabulate}
use Rattle.packet.specs.Kinds.{epochs, first_tag, tag_of}
use Rattle.packet.specs.Symbols.{symbol_at, symbol_of}
use Rattle.phases.specs.Beginning.{begins}
use Rattle.rows.specs.declared.step.Step.{Step}
use Rattle.rows.specs.Group.{group_at}
use Rattle.rows.specs.Packets.{marks_at, packets_at}
use Rattle.rows.specs.Port.{port_at}
use Rattle.rows.specs.Rows.{rows_for}
use Rattle.rows.specs.Step.{step_at}
use Rattle.step.specs.Arrival.{run_of}
use Rattle.step.specs.SentRuns.{Stays, run_at, start_from}
use Rattle.step.specs.declared.run.Run.{Run}
use Rattle.step.specs.Run.{no_run}
use Rattle.store.specs.Frames.{Stands}
use Rattle.store.specs.Marks.{Sixteen, mark_in}
use Rattle.link.specs.Proofs.Contents.{packet_of, report_after}
use Rattle.link.specs.Road.{L, Road}
use Rattle.link.specs.Running.{Moment}

module _ (r : Road) where
  -- the step rule's run of a port whose next frame is the one at x
  unfoldable pub heard_run : ℕ → ℕ → Run
  heard_run p x = cond (ltb (r.first p) x) (run_at r.kind r.offset (start_from r.kind r.offset (r.first p)) (x - 1)) no_run

  -- What is known of a port's step where its next frame is the one at x. Before the beginning: the run as it is.
  pub record Heard (p x : ℕ) (s : Step) : Type 0 where
    pub from : r.first p ≤ x
    pub heard : s.heard ≡ cond (ltb (r.first p) x) 1 0
    pub failed : s.failed ≡ 0
    pub run : run_of s ≡ heard_run p x

  -- In step: what the step rule says of a run in step that stays so.
  abbrev pub Stepped : ℕ → Step → Type 0
  Stepped x s = Stays r.kind (r.offset + x) (run_of s)

  -- The packet being gathered, in every phase: of each of the last frames of the run its symbol stands at its own place.
  pub record Live (p x : ℕ) (row : List ℕ) : Type 0 where
    pub long : length row ≡ 16
    pub holds : (y : ℕ) → start_from r.kind r.offset (r.first p) ≤ y → y < x → x ≤ y + L r → symbol_at r.kind row (y % L r) ≡ symbol_of r.kind (r.h4 p y)

  -- the rows and the store are the road's
  pub record Lined (m : Moment) : Type 0 where
    pub rows_long : length m.rows ≡ rows_for r.ports
    pub store_long : length m.store ≡ r.ports * r.window * (r.payload + 1)
    pub kind_is : (group_at m.rows).kind ≡ r.kind
    pub count_is : (group_at m.rows).count ≡ r.ports
    pub payload_is : (group_at m.rows).payload ≡ r.payload
    pub window_is : (group_at m.rows).window ≡ r.window
    pub origin_in : (group_at m.rows).origin < r.window

  -- In what follows coming p is the position of port p's next frame.

  -- receiving has not begun
  pub record Before (m : Moment) (coming : ℕ → ℕ) : Type 0 where
    pub lined : Lined m
    pub heard : (p : ℕ) → p < r.ports → Heard p (coming p) (step_at m.rows p)
    pub live : (p : ℕ) → p < r.ports → Live p (coming p) (port_at m.rows p).gathering
    pub begun : (group_at m.rows).begun ≡ 0
    pub unfit : begins (group_at m.rows) m.rows r.ports ≡ false
    pub told : m.told ≡ []

  -- receiving has begun, and the window's first frame is the one at i L
  pub record Open (m : Moment) (coming : ℕ → ℕ) (i : ℕ) : Type 0 where
    pub lined : Lined m
    pub begun : (group_at m.rows).begun ≡ 1
    pub oldest : first_tag r.kind (group_at m.rows).oldest ≡ tag_of r.kind (r.offset + i * L r)
    pub oldest_small : (group_at m.rows).oldest < epochs r.kind
    -- all ports are in step and have been since the beginning
    pub in_step_lem : (p : ℕ) → p < r.ports → start_from r.kind r.offset (r.first p) + L r * 2 ≤ coming p
    pub stepped : (p : ℕ) → p < r.ports → Stepped (coming p) (step_at m.rows p)
    pub live : (p : ℕ) → p < r.ports → Live p (coming p) (port_at m.rows p).gathering
    pub ever_since : (p : ℕ) → p < r.ports → (step_at m.rows p).ever_since ≡ 1
    pub joined_at : (p : ℕ) → p < r.ports → (step_at m.rows p).joined_at ≡ 0
    -- none is further from the window than the window is wide
    pub behind : (p : ℕ) → p < r.ports → i * L r < coming p + r.window
    pub ahead : (p : ℕ) → p < r.ports → coming p ≤ i * L r + r.window
    pub marks_row : (p : ℕ) → p < r.ports → Sixteen (marks_at m.rows p)
    pub marks : (p k : ℕ) → p < r.ports → k < 128 → mark_in (marks_at m.rows p) k ≡ leb (i * L r + (k + 1) * L r) (coming p)
    pub stands : (p x : ℕ) → p < r.ports → i * L r ≤ x → x < coming p → Stands (group_at m.rows) p (x - i * L r) (r.bytes p x) (r.h4 p x) m.store

  -- a port that still owes a frame of the oldest epoch
  pub record Owes (coming : ℕ → ℕ) (i : ℕ) : Type 0 where
    pub port : ℕ
    pub below : port < r.ports
    pub owes : coming port < i * L r + L r

  -- the first epoch is being gathered
  pub record First (m : Moment) (coming : ℕ → ℕ) (i : ℕ) : Type 0 where
    pub open_at : Open m coming i
    pub gathered : (group_at m.rows).gathered ≡ 0
    -- a port joins at the window's first frame
    pub joined : (p : ℕ) → p < r.ports → (step_at m.rows p).joined ≡ cond (ltb (i * L r) (coming p)) 1 0
    pub owes : Owes coming i
    pub told : m.told ≡ []

  -- reports are made: the epochs after epoch g, which was gathered, up to the one before epoch i + 1 are told
  pub record Later (m : Moment) (coming : ℕ → ℕ) (g i : ℕ) : Type 0 where
    pub open_at : Open m coming (suc i)
    pub gathered : (group_at m.rows).gathered ≡ 1
    pub come : g ≤ i
    pub within : (p : ℕ) → p < r.ports → suc i * L r ≤ coming p
    pub joined : (p : ℕ) → p < r.ports → (step_at m.rows p).joined ≡ 1
    pub whole : (p : ℕ) → p < r.ports → (step_at m.rows p).whole ≡ 1
    pub ruling : (p : ℕ) → p < r.ports → get_or (packets_at m.rows p) 1 [] ≡ packet_of r i p
    pub told : m.told ≡ tabulate (i - g) (λ k. report_after r (g + k) (r.output k))
