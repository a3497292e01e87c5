-- The run of the step rule on frames as sent, over the kind of packet, written down outright: where it starts, what it is after each frame, and what stays of it in step where only the kept part of frames comes as sent (request 2026-04).
-- Position x has the tag of the (c0 + x)-th frame after one with tag 0.
use Rattle.std.specs.Prelude.{◌≡◌, ◌≢◌, true, ℕ, ◌+◌, ◌-◌, ◌*◌, ◌/◌, ◌%◌, ◌≤◌, ◌<◌, min, if◌then◌else◌, ◌==◌}
use Rattle.ground.specs.Plain.{◌<?◌}
use Rattle.ground.specs.Types.{Tag}
use Rattle.packet.specs.Counts.{told_bits, told_first}
use Rattle.packet.specs.Kinds.{frames, lead, place_of, tag_of, vc12_kind}
use Rattle.step.specs.Run.{in_step_at}
use Rattle.step.specs.Starts.{no_run}
use Rattle.step.specs.declared.run.Run.{Run}

-- a is the first position from f on that has MFI1 0
pub record Starts (kind c0 f a : ℕ) : Type 0 where
  pub from : f ≤ a
  pub soon : a < f + frames kind
  pub starts : (c0 + a) % frames kind ≡ 0

-- where it lies
unfoldable pub start_from : (kind c0 f : ℕ) → ℕ
start_from kind c0 f = f + (frames kind - (c0 + f) % frames kind) % frames kind

-- H4: the run after the frame at x, where the first of it is that at a
unfoldable pub h4_run_at : (kind c0 a x : ℕ) → Run
h4_run_at kind c0 a x =
    if x <? a then no_run
    else if x == a then record { count = 1; next = told_first kind (c0 + x); breaks = 0; odd = 0; bits = 0 }
    else record { count = min (x - a + 1) (frames kind * 2); next = tag_of kind (c0 + (x + 1)); breaks = 0; odd = 0; bits = 0 }

-- VC-12: the run after the x-th frame after one with tag 0, where the first of it was the a-th
unfoldable pub vc12_run_at : (a x : ℕ) → Run
vc12_run_at a x =
    record { count = min (x - a + 1) 64; next = if x - a <? 4 then x - a + 1 else (x + 1) % 1024; breaks = 0; odd = 0; bits = told_bits (x % 1024 / 32) (x % 32) }

-- the run after the frame at x, of frames as sent from a on, where the first of a count stands
unfoldable pub run_at : (kind c0 a x : ℕ) → Run
run_at kind c0 a x = if kind == vc12_kind then (if x <? a then no_run else vc12_run_at (c0 + a) (c0 + x)) else h4_run_at kind c0 a x

abbrev pub RunAt : (kind c0 a x : ℕ) (run : Run) → Type 0
RunAt kind c0 a x run = run ≡ run_at kind c0 a x

-- Frames of which the kept part alone came as sent. At most so many in a row break the count before the frame with a tag: only those that bring a nibble of MFI2 can.
unfoldable pub most_breaks : (kind : ℕ) (tag : Tag) → ℕ
most_breaks kind t = if place_of kind t == lead kind + 1 then 1 else if place_of kind t == lead kind + 2 then 2 else 0

-- VC-12: what the bits of the packet's count say before the frame at x
abbrev pub BitsTold : (kind x : ℕ) (run : Run) → Type 0
BitsTold kind x run = (kind == vc12_kind) ≡ true → x % 32 ≢ 0 → run.bits ≡ told_bits (x % 1024 / 32) (x % 32 - 1)

-- a run in step, the next frame of which is the x-th after one with tag 0
pub record Stays (kind x : ℕ) (run : Run) : Type 0 where
  pub count : in_step_at kind run.count ≡ true
  pub next : run.next ≡ tag_of kind x
  pub breaks : run.breaks ≤ most_breaks kind (tag_of kind x)
  pub even : run.odd ≡ 0
  pub told : BitsTold kind x run
