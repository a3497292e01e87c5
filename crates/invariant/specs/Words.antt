-- What VC-12's step rule is said of, over calls (request 2026-01).
use Rattle.std.specs.Prelude.{◌≡◌, false, List, [], ◌∷◌, ℕ}
use Rattle.invariant.specs.Calls.{Fetch, Frame, ReceiverCall}

-- no frame of the port is flagged
abbrev pub Unflagged : ℕ → List ReceiverCall → Type 0
Unflagged j [] = Unit {0}
Unflagged j (Frame i failed h payload ∷ calls) = (i ≡ j → failed ≡ false) × Unflagged j calls
Unflagged j (Fetch out report ∷ calls) = Unflagged j calls
