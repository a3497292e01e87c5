-- Receiving begun anew: one flagged frame on every port, in port order, each as any flagged frame is (Frame). The store is only read.
use Rattle.std.specs.Prelude.{Bool, true, ◌&&◌, ℕ, zero, suc, length, replicate, if◌then◌else◌, ◌==◌}
use Rattle.ground.specs.Types.{Bytes, Rows}
use Rattle.phases.specs.Sizes.{ports_in, store_for}
use Rattle.receiver.specs.Frame.{frame_of}
use Rattle.receiver.specs.Lengths.{rows_fit}
use Rattle.rows.specs.declared.group.Group.{Group}
use Rattle.rows.specs.Group.{group_at}

-- the rows after a flagged frame of each of the first n ports, its H4 byte and its P bytes 0: 'The H4 byte of a flagged frame is not looked at', and no byte of it is stored
unfoldable pub flagged_rows : (P : ℕ) (store : Bytes) (n : ℕ) (s : Rows) → Rows
flagged_rows P store zero s = s
flagged_rows P store (suc n) s = (frame_of (flagged_rows P store n s) n true 0 (replicate P 0) store).rows

unfoldable pub anew_fits : (g : Group) (n : ℕ) (rows : ℕ) (store : ℕ) → Bool
anew_fits g n rows store = rows_fit n rows && store == store_for g n

unfoldable pub anew_answer : (s : Rows) (store : ℕ) → ℕ
anew_answer s store = if anew_fits (group_at s) (ports_in (group_at s)) (length s) store then 0 else 9

unfoldable pub anew_rows : (s : Rows) (store : Bytes) → Rows
anew_rows s store =
    if anew_fits (group_at s) (ports_in (group_at s)) (length s) (length store)
    then flagged_rows (group_at s).payload store (ports_in (group_at s)) s
    else s
