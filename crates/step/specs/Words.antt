-- VC-12's step rule in the request's own words (2026-01), on the bytes that a fresh port is handed, none flagged: 'two whole packets in a row whose counts differ by one', each start said where it is due and nowhere else.
use Rattle.std.specs.Prelude.{◌≡◌, true, false, [], ◌∷◌, ℕ, zero, suc, ◌+◌, ◌-◌, ◌*◌, ◌%◌, ◌≤◌, ◌<◌, get_or, length, ◌==◌}
use Rattle.ground.specs.Types.{Bytes}
use Rattle.packet.specs.Counts.{says_start}
use Rattle.packet.specs.Kinds.{vc12_kind}
use Rattle.step.specs.Run.{in_step_at, run_on}
use Rattle.step.specs.Starts.{no_run}
use Rattle.step.specs.declared.run.Run.{Run}

-- the run after t frames, none flagged
unfoldable pub run_after : (ℕ → ℕ) → ℕ → Run
run_after b zero = no_run
run_after b (suc t) = run_on vc12_kind (run_after b t) false (b t)

-- m bits from the frame j on, as a number
abbrev pub bits_from : (b : ℕ → ℕ) (j m : ℕ) → ℕ
bits_from b j zero = 0
bits_from b j (suc m) = bits_from b j m * 2 + b (j + m) % 2

-- a packet's count
abbrev pub count_at : (ℕ → ℕ) → ℕ → ℕ
count_at b j = bits_from b j 5

-- From the frame a up to the t-th, a start is said at each 32nd frame and nowhere between, and each packet's count, once its five bits have come, is one more than the one before.
pub record Row (b : ℕ → ℕ) (a t : ℕ) : Type 0 where
  pub starts : (j : ℕ) → a + j < t → says_start (b (a + j)) ≡ (j % 32 == 0)
  pub counts : (k : ℕ) → a + 32 * (k + 1) + 5 ≤ t → count_at b (a + 32 * (k + 1)) ≡ (count_at b (a + 32 * k) + 1) % 32

-- at the t-th frame: a row of 64 or more ends there
pub record InStep (b : ℕ → ℕ) (t : ℕ) : Type 0 where
  pub a : ℕ
  pub enough : a + 64 ≤ t
  pub row : Row b a t

-- Of frames as they are heard one after the other, the latest first, none flagged.

-- the run after them, where none ends an odd packet
abbrev pub run_over : (kind : ℕ) (heard : Bytes) → Run
run_over kind [] = no_run
run_over kind (h ∷ heard) = run_on kind (run_over kind heard) false h

-- the k-th of them, from the first on
abbrev pub heard_at : (heard : Bytes) (k : ℕ) → ℕ
heard_at heard k = get_or heard (length heard - 1 - k) 0

-- 'A port is in step after two whole packets in a row whose counts differ by one': exactly then
pub record InStepExactly (kind : ℕ) (heard : Bytes) (count : ℕ) : Type 0 where
  pub so : InStep (heard_at heard) (length heard) → in_step_at kind count ≡ true
  pub only : in_step_at kind count ≡ true → InStep (heard_at heard) (length heard)
