-- Runs of the sender's C calls.
use Rattle.std.specs.Prelude.{Bool, true, List, [], ◌∷◌, if◌then◌else◌}
use Rattle.ground.specs.Types.{Bytes}
use Rattle.sender.specs.Calls.Call.{AddSlot, RemoveSlot, Report, Lapse}
use Rattle.sender.specs.Epochs.{SenderCall}
use Rattle.sender.specs.Epochs.SenderCall.{OnTable, StartEpoch}
use Rattle.c_face.specs.Senders.{are_bytes, call_state_c}

-- a C call: the sender's call, with what the C call asks of its numbers
abbrev pub numbers_fit : SenderCall → Bool
numbers_fit (OnTable (AddSlot i)) = true
numbers_fit (OnTable (RemoveSlot i)) = true
numbers_fit (OnTable (Report e mst ack)) = are_bytes e mst ack
numbers_fit (OnTable Lapse) = true
numbers_fit (StartEpoch gid mst ack) = are_bytes gid mst ack

-- the state after C calls
abbrev pub run_c : (state : Bytes) (calls : List SenderCall) → Bytes
run_c state [] = state
run_c state (c ∷ cs) = run_c (call_state_c (numbers_fit c) c state) cs

-- the calls among them that are not refused with 8 for a number that is no byte
abbrev pub meant : List SenderCall → List SenderCall
meant [] = []
meant (c ∷ cs) = if numbers_fit c then c ∷ meant cs else meant cs
