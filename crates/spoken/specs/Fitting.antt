-- When changes fit a board. Each is judged against the board as it stood before all of them.
use Rattle.std.specs.Prelude.{◌≡◌, true, false, ℕ, ◌≤◌, ◌<◌}
use Rattle.sender.specs.declared.board.Board.{Board}
use Rattle.sender.specs.Ranks.{row_at}
use Rattle.spoken.specs.declared.lists.Change.{Change}
use Rattle.spoken.specs.declared.lists.Changes.{Changes}
use Rattle.spoken.specs.declared.lists.WaitChange.TheVariants.{Opened, Closed}
use Rattle.spoken.specs.Applying.{change_in}

abbrev pub spoken : Changes → ℕ → Change
spoken cs k = change_in cs.list k

pub record Fits (b : Board) (cs : Changes) : Type 0 where
  -- neither the board's count nor that of the changes is above 64
  pub slots : b.count ≤ 64
  pub many : cs.count ≤ 64
  pub below : (k : ℕ) → k < cs.count → (spoken cs k).slot < b.count
  pub rising : (i j : ℕ) → i < j → j < cs.count → (spoken cs i).slot < (spoken cs j).slot
  pub old : (k : ℕ) → k < cs.count → (spoken cs k).old ≡ row_at b.rows (spoken cs k).slot
  -- a change from a thing to itself does not fit
  pub new : (k : ℕ) → k < cs.count → (spoken cs k).old ≡ (spoken cs k).new → ⊥
  pub opened : cs.wait ≡ Opened → b.wait ≡ false
  pub closed : cs.wait ≡ Closed → b.wait ≡ true
