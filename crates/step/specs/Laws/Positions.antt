-- Where a run of the step rule starts, over the kind of packet, and what its count says.
use Rattle.std.specs.Prelude.{◌≡◌, ◌≢◌, Bool, false, not, ◌&&◌, ℕ, ◌+◌, ◌-◌, ◌*◌, ◌%◌, ◌≤◌, ◌<◌, eqb, leb}
use Rattle.std.proofs.Common.{arith, leb-false}
use Rattle.std.proofs.lemmas.Bool.{lt-leb}
use Rattle.ground.specs.Truth.{neither}
use Rattle.packet.specs.Kinds.{frames}
use Rattle.packet.specs.Laws.Epochs.{run_fits, start_least, to_start, to_start_lt}
use Rattle.step.specs.SentRuns.{Starts, start_from}
use Rattle.step.specs.declared.run.Run.{Run}
use Rattle.step.specs.Run.{in_step_at, loses}

-- one more frame of a run that is not yet a step still fits a byte
pub count_fits : (kind count : ℕ) → in_step_at kind count ≡ false → count + 1 ≤ 255
unfolding in_step_at
count_fits kind count e =
    let fewer = leb-false (frames kind * 2) count e in
    let most = run_fits kind in
    omega arith

-- where step is not lost, fewer than three in a row have broken the count before one that does
pub few_breaks : (counted : Bool) (run : Run) (odd : Bool) → loses counted run odd ≡ false → counted ≡ false → run.breaks < 3
unfolding loses
few_breaks counted run odd e broken = leb-false 3 run.breaks (rw broken at (neither (not counted && leb 3 run.breaks) (odd && not (eqb run.odd 0)) e).0)

pub few_short : (kind count : ℕ) → count < frames kind * 2 → in_step_at kind count ≡ false
unfolding in_step_at
few_short kind count l = lt-leb (frames kind * 2) count l

-- Frames as sent from position f on. Position x has the tag of the (c0 + x)-th frame after one with tag 0.

pub start_from_lem : (kind c0 f : ℕ) → Starts kind c0 f (start_from kind c0 f)
unfolding start_from
start_from_lem kind c0 f =
    let k : ℕ = (frames kind - (c0 + f) % frames kind) % frames kind in
    let below = to_start_lt kind (c0 + f) in
    let sum : c0 + (f + k) ≡ c0 + f + k = omega arith in
    record { from = omega arith; soon = omega arith; starts = rw sum (to_start kind (c0 + f)) }

-- no position before it has MFI1 0
pub starts_least : (kind c0 f a : ℕ) → Starts kind c0 f a → (x : ℕ) → f ≤ x → x < a → (c0 + x) % frames kind ≢ 0
starts_least kind c0 f a o x low high z =
    let from = o.from in
    let soon = o.soon in
    let at_a : c0 + a ≡ c0 + f + (a - f) = omega arith in
    let at_x : c0 + x ≡ c0 + f + (x - f) = omega arith in
    start_least kind (c0 + f) (a - f) (x - f) (omega arith) (rw at_a at o.starts) (omega arith) (rw at_x at z)
