-- Changes applied to a board: 'changes that don't fit the board they are applied to is 2, and the board stays.' (02, 2026-10)
use Rattle.std.specs.Prelude.{Bool, true, false, not, ◌&&◌, List, ℕ, zero, suc, get_or, set, if◌then◌else◌}
use Rattle.ground.specs.Plain.{◌<?◌, ◌≤?◌}
use Rattle.ground.specs.Counting.Words.{every}
use Rattle.sender.specs.declared.board.Board.{Board}
use Rattle.sender.specs.declared.board.Row.{Row}
use Rattle.sender.specs.Ranks.{row_at}
use Rattle.spoken.specs.Answers.{Applied}
use Rattle.spoken.specs.Answers.Answer.{Done, Unfit}
use Rattle.spoken.specs.declared.lists.Change.{Change}
use Rattle.spoken.specs.declared.lists.Changes.{Changes}
use Rattle.spoken.specs.declared.lists.WaitChange.{WaitChange}
use Rattle.spoken.specs.declared.lists.WaitChange.TheVariants.{Same, Opened, Closed}
use Rattle.spoken.specs.Changes.{no_change, same_row}

abbrev pub change_in : List Change → ℕ → Change
change_in list k = get_or list k no_change

-- slots rise strictly
abbrev pub rises_at : List Change → ℕ → Bool
rises_at list zero = true
rises_at list (suc k) = (change_in list k).slot <? (change_in list (suc k)).slot

-- The slot is below the board's count and above the slot before; the old word and number are the board's; the new ones are others.
abbrev pub fits_by : (c : Change) (row : Row) (count : ℕ) (rises : Bool) → Bool
fits_by c row count rises = c.slot <? count && rises && same_row c.old row && not (same_row c.old c.new)

-- each of the first n changes, against the board as it stood before all of them
unfoldable pub changes_fit : (rows : List Row) (count : ℕ) (list : List Change) (n : ℕ) → Bool
changes_fit rows count list n = every n (λ k. fits_by (change_in list k) (row_at rows (change_in list k).slot) count (rises_at list k))

-- no Opened on an open wait, no Closed on none
abbrev pub wait_fits : Bool → WaitChange → Bool
wait_fits wait Same = true
wait_fits wait Opened = not wait
wait_fits wait Closed = wait

abbrev pub wait_after : Bool → WaitChange → Bool
wait_after wait Same = wait
wait_after wait Opened = true
wait_after wait Closed = false

unfoldable pub fits : Board → Changes → Bool
fits b cs =
    if b.count ≤? 64 && cs.count ≤? 64 && wait_fits b.wait cs.wait then changes_fit b.rows b.count cs.list cs.count else false

-- the rows with the first n changes laid on them
abbrev pub laid_to : (rows : List Row) (list : List Change) (count : ℕ) → List Row
laid_to rows list zero = rows
laid_to rows list (suc n) = set (laid_to rows list n) (change_in list n).slot (change_in list n).new

unfoldable pub with_changes : Board → Changes → Board
with_changes b cs = record { rows = laid_to b.rows cs.list cs.count; count = b.count; wait = wait_after b.wait cs.wait }

unfoldable pub applied_of : Board → Changes → Applied
applied_of b cs = if fits b cs then (record { board = with_changes b cs; answer = Done }) else (record { board = b; answer = Unfit })
