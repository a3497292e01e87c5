-- A run of calls behind another is one run.
use Rattle.std.specs.Prelude.{◌≡◌, refl, List, [], ◌∷◌, ◌++◌}
use Rattle.sender.specs.declared.epochs.Sender.{Sender}
use Rattle.sender.specs.declared.table.Table.{Table}
use Rattle.sender.specs.Calls.{Call, outcome_of, run}
use Rattle.sender.specs.Epochs.{SenderCall, sender_outcome_of, sender_run}

pub run_append : (t : Table) (a b : List Call) → run t (a ++ b) ≡ run (run t a) b
run_append t [] b = refl
run_append t (c ∷ a) b = run_append (outcome_of t c).table a b

pub sender_append : (s : Sender) (a b : List SenderCall) → sender_run s (a ++ b) ≡ sender_run (sender_run s a) b
sender_append s [] b = refl
sender_append s (c ∷ a) b = sender_append (sender_outcome_of s c).sender a b
