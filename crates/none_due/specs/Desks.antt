-- A replay between two lines, and the receiver that it runs.
use Rattle.std.specs.Prelude.{◌≡◌, Bool, false, ◌≤◌, length, take}
use Rattle.ground.specs.Types.{Bytes, Rows}
use Rattle.invariant.specs.Kept.Group.{Kept}
use Rattle.replay_lines.specs.declared.replay.Phase.TheVariants.{Reading}
use Rattle.replay_lines.specs.Replay.{store_of}
use Rattle.replay_lines.specs.Runs.{Desk}
use Rattle.replay_lines.specs.Turn.{is_due}
use Rattle.rows.specs.Group.{group_at}
use Rattle.rows.specs.Rows.{rows_for}

-- the parts of the lent rows and store that are the group's own
abbrev pub own_rows : (d : Desk) → Rows
own_rows d = take (rows_for d.replay.ports) d.rows

abbrev pub own_store : (d : Desk) → Bytes
own_store d = take (store_of d.replay.ports d.replay.size d.replay.window) d.store

-- a fetch would give a report
abbrev pub is_due_at : (out : Bytes) (d : Desk) → Bool
is_due_at out d = is_due d.replay d.rows d.store out

-- lines are read, the receiver is as calls have left it since a start, and no report is due
pub record Ready (out : Bytes) (d : Desk) : Type 0 where
  pub reading : d.replay.phase ≡ Reading
  pub enough : rows_for d.replay.ports ≤ length d.rows
  pub kept : Kept (own_rows d)
  pub window : (group_at (own_rows d)).window ≡ d.replay.window
  pub none : is_due_at out d ≡ false
