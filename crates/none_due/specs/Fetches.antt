-- Fetches one behind the other, each of which gives a report.
use Rattle.std.specs.Prelude.{List, [], ◌∷◌}
use Rattle.invariant.specs.Calls.{Fetch, Frame, Receiver, ReceiverCall, receiver_after}
use Rattle.invariant.specs.Reports.{Given}

abbrev pub AllGive : Receiver → List ReceiverCall → Type 0
AllGive x [] = Unit {0}
AllGive x (Fetch out report ∷ calls) = Given x.rows x.store out report × AllGive (receiver_after x (Fetch out report)) calls
AllGive x (Frame port failed h payload ∷ calls) = ⊥
