-- The step rule (01, 'Step'; request 2026-04), by the kind of packet. This file says when a port comes into step and when it loses it; of VC-12 Starts does.
use Rattle.std.specs.Prelude.{Bool, not, ◌&&◌, ◌||◌, ℕ, ◌+◌, ◌*◌, if◌then◌else◌, ◌==◌}
use Rattle.ground.specs.Plain.{◌≤?◌}
use Rattle.ground.specs.Types.{Tag}
use Rattle.packet.specs.Counts.{starts_count, tag_by_high, carries_low, tag_by_low, h4_counts}
use Rattle.packet.specs.Kinds.{ends_epoch, frames, place_of, tag_after, vc12_kind}
use Rattle.step.specs.declared.run.Run.{Run}
pub use Rattle.step.specs.Starts.{no_run}
use Rattle.step.specs.Starts.{starts_run}

-- 'A port is in step when 32 frames in a row .. count MFI1 rightly': two multiframes. Of VC-12 two whole packets.
unfoldable pub in_step_at : ℕ → ℕ → Bool
in_step_at kind count = frames kind * 2 ≤? count

-- 'starting at MFI1 0': a frame as the first of a new run, if it can be
unfoldable pub begun_run : ℕ → ℕ → Run
begun_run kind h = if starts_count kind h then (record { count = 1; next = tag_by_high kind h; breaks = 0; odd = 0; bits = 0 }) else no_run

-- Coming into step: 'One frame that breaks the count .. can be the first of a new 32.'

-- a run's MFI2 is what its first two frames say
unfoldable pub second_run : (kind : ℕ) (run : Run) (h4 : ℕ) → Run
second_run kind run h = if carries_low kind h then (record { count = 2; next = tag_by_low kind run.next h; breaks = 0; odd = 0; bits = 0 }) else begun_run kind h

-- 'count MFI1 rightly and their second MFI2 is the first plus one': each frame has the tag after the one before
unfoldable pub further_run : (kind : ℕ) (run : Run) (h4 : ℕ) → Run
further_run kind run h =
    if h4_counts run.next h then (record { count = run.count + 1; next = tag_after kind run.next; breaks = 0; odd = 0; bits = 0 }) else begun_run kind h

unfoldable pub gained_run : (kind : ℕ) (run : Run) (h4 : ℕ) → Run
gained_run kind run h = if run.count == 0 then begun_run kind h else if run.count == 1 then second_run kind run h else further_run kind run h

-- In step 'the receiver goes on counting by itself' (request 2026-04): a frame has the tag to come, whatever it carries.

-- the last frame of an epoch ends its packet
unfoldable pub ends_packet : ℕ → Tag → Bool
ends_packet kind tag = ends_epoch kind (place_of kind tag)

-- the frames in a row that break the count, after one that does or does not
unfoldable pub breaks_after : Bool → ℕ → ℕ
breaks_after counted breaks = if counted then 0 else breaks + 1

-- whether the latest packet was odd, after a frame that ends an odd one or not
unfoldable pub odd_after : (kind : ℕ) (run : Run) (odd : Bool) → ℕ
odd_after kind run odd = if ends_packet kind run.next then (if odd then 1 else 0) else run.odd

-- 'step is lost at the fourth frame in a row that breaks the count', and 'at the end of a second packet in a row with right CRC and a differing MFI2'
unfoldable pub loses : (counted : Bool) (run : Run) (odd : Bool) → Bool
loses counted run odd = (not counted && 3 ≤? run.breaks) || (odd && not (run.odd == 0))

-- one that loses step can be the first of a new 32
unfoldable pub stayed_run : (kind : ℕ) (run : Run) (odd : Bool) (h4 : ℕ) → Run
stayed_run kind run odd h =
    let counted = h4_counts run.next h in
    if loses counted run odd then begun_run kind h
    else (record { count = run.count; next = tag_after kind run.next; breaks = breaks_after counted run.breaks; odd = odd_after kind run odd; bits = run.bits })

-- a frame more, which ends an odd packet or not
unfoldable pub h4_run_on : (kind : ℕ) (run : Run) (odd : Bool) (h4 : ℕ) → Run
h4_run_on kind run odd h = if in_step_at kind run.count then stayed_run kind run odd h else gained_run kind run h

-- the bits of a count are VC-12's: H4 leaves them
abbrev pub with_bits : ℕ → Run → Run
with_bits bits run = record { count = run.count; next = run.next; breaks = run.breaks; odd = run.odd; bits = bits }

unfoldable pub run_on : (kind : ℕ) (run : Run) (odd : Bool) (h4 : ℕ) → Run
run_on kind run odd h = if kind == vc12_kind then starts_run run h else with_bits run.bits (h4_run_on kind run odd h)
