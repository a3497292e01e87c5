-- When step is lost, in the requests' own words: of H4 2026-04, of VC-12 2026-01.
use Rattle.std.specs.Prelude.{◌≡◌, ◌≢◌, Bool, true, false, not, ℕ, ◌+◌, ◌*◌, ◌/◌, ◌%◌, ◌≤◌, ◌==◌}
use Rattle.packet.specs.Counts.{h4_counts, says_start}
use Rattle.step.specs.declared.run.Run.{Run}

-- 'the fourth frame in a row that breaks the count'
pub record FourthBreak (run : Run) (h : ℕ) : Type 0 where
  pub broken : h4_counts run.next h ≡ false
  pub after : 3 ≤ run.breaks

-- 'the end of a second packet in a row with right CRC and a differing MFI2'
pub record SecondOdd (run : Run) (odd : Bool) : Type 0 where
  pub ends : odd ≡ true
  pub after : run.odd ≢ 0

-- VC-12: a start that is not due, or none where one is
pub record StartNotDue (run : Run) (h : ℕ) : Type 0 where
  pub said : says_start h ≡ not (run.next % 32 == 0)

-- and a packet whose five bits of the count are not those that were to come
pub record OtherCount (run : Run) (h : ℕ) : Type 0 where
  pub said : says_start h ≡ (run.next % 32 == 0)
  pub fifth : run.next % 32 ≡ 4
  pub other : run.bits % 16 * 2 + h % 2 ≢ run.next % 1024 / 32
