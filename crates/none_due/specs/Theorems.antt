-- No report stays due: on every kept state at most so many fetches give a report as the window has epochs.
use Rattle.std.specs.Prelude.{◌≡◌, List, ℕ, ◌*◌, ◌≤◌, ◌<◌, length}
use Rattle.invariant.specs.Calls.{Receiver, ReceiverCall}
use Rattle.invariant.specs.Kept.Group.{Kept}
use Rattle.none_due.specs.Desks.{Ready}
use Rattle.none_due.specs.Fetches.{AllGive}
use Rattle.none_due.specs.Proofs.Desks as D
use Rattle.none_due.specs.Proofs.Fetched as F
use Rattle.none_due.specs.Proofs.Started as S
use Rattle.packet.specs.Kinds.{frames}
use Rattle.replay_lines.specs.declared.replay.Phase.TheVariants.{Reading}
use Rattle.replay_lines.specs.Replay.{beginning}
use Rattle.replay_lines.specs.Runs.{Desk, desk_through}
use Rattle.rows.specs.Group.{group_at}

-- fetches that all give a report are at most as many as the window has epochs, whatever output and record each is lent
pub few_due : (x : Receiver) → Kept x.rows → (calls : List ReceiverCall) → AllGive x calls → length calls * frames (group_at x.rows).kind ≤ (group_at x.rows).window
few_due = F.few_due

-- so of one more some one finds none
pub none_due_lem : (x : Receiver) → Kept x.rows → (calls : List ReceiverCall) → (group_at x.rows).window < length calls * frames (group_at x.rows).kind → AllGive x calls → ⊥
none_due_lem = F.none_due_lem

-- A replay that is ready stays so from line to line: behind each frame every report that is due is fetched, of the W fetches that may follow one finds none, and none stays due at the cut or at the end.
pub stays_ready : (out : List ℕ) (d : Desk) → Ready out d → (lines : List (List ℕ)) → Ready out (desk_through out d lines)
stays_ready = D.stays_ready

-- So of every recording, however far it has been read: while lines are read, no report is due between two of them, nor behind the last. Of the W fetches that may follow a frame one finds none.
pub always_ready : (out : List ℕ) (rows : List (List ℕ)) (store : List ℕ) → 321 ≤ length rows → (lines : List (List ℕ))
    → (desk_through out (record { replay = beginning; rows = rows; store = store }) lines).replay.phase ≡ Reading → Ready out (desk_through out (record { replay = beginning; rows = rows; store = store }) lines)
always_ready = S.always_ready
