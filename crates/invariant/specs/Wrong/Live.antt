-- The frames of a run taken to be those answered 0: but the frames with which a port comes into step are answered 12, and their nibbles stand in the packet being gathered too.
use Rattle.std.specs.Prelude.{◌≡◌, refl, false, List, [], ◌∷◌, ℕ, ◌+◌, ◌%◌, replicate, if◌then◌else◌, ◌==◌}
use Rattle.invariant.specs.Calls.{Fetch, Frame, Receiver, ReceiverCall, receiver_after, receiver_run, started_with}
use Rattle.invariant.specs.Live.{heard_of, packet_heard}
use Rattle.invariant.specs.Wrong.Sample.{sent_h4}
use Rattle.ground.specs.Plain.{◌<?◌}
use Rattle.ground.specs.Table.{tabulate}
use Rattle.receiver.specs.Frame.{frame_of}
use Rattle.rows.specs.Port.{port_at}
use Rattle.receiver.specs.Opened.{receiver_open}

-- One port is handed the tags 0 to 39, so that the next frame starts an epoch. Each frame carries the nibble 5, but for MFI2's.
calls : List ReceiverCall
calls = tabulate 40 (λ t. Frame 0 false (sent_h4 t + (if 1 <? t % 16 then 80 else 0)) (0 ∷ []))

receiver : Receiver
receiver = started_with 0 1 1 16 [] [] (replicate 6 (replicate 16 0)) (replicate 32 0)

-- the frames answered 0 alone
wrong_heard : Receiver → List ReceiverCall → List ℕ → List ℕ
wrong_heard x [] heard = heard
wrong_heard x (Frame i failed h payload ∷ calls) heard =
    wrong_heard (receiver_after x (Frame i failed h payload)) calls
    (if (frame_of x.rows i failed h payload x.store).answer == 0 then h ∷ heard else heard)
wrong_heard x (Fetch out report ∷ calls) heard = wrong_heard (receiver_after x (Fetch out report)) calls heard

came : List ℕ
came = 5 ∷ 5 ∷ 5 ∷ 5 ∷ 5 ∷ 5 ∷ 5 ∷ 5 ∷ 0 ∷ 2 ∷ 5 ∷ 5 ∷ 5 ∷ 5 ∷ 5 ∷ 5 ∷ []

live_breaks :
    ((port_at (receiver_run receiver calls).rows 0).gathering ≡ came)
    × (packet_heard 0 (heard_of 0 receiver calls []) ≡ came)
    × (packet_heard 0 (wrong_heard receiver calls []) ≡ 0 ∷ 0 ∷ 0 ∷ 0 ∷ 0 ∷ 0 ∷ 0 ∷ 5 ∷ 0 ∷ 2 ∷ 5 ∷ 5 ∷ 5 ∷ 5 ∷ 5 ∷ 5 ∷ [])
unfolding receiver_open calls receiver wrong_heard came
live_breaks = (refl, refl, refl)
