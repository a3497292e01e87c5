-- The packet being gathered (request 2026-04): which frames its symbols came with.
use Rattle.std.specs.Prelude.{◌≡◌, Bool, true, not, ◌&&◌, List, [], ◌∷◌, ℕ, ◌-◌, ◌≤◌, ◌<◌, get_or, length, if◌then◌else◌, ◌==◌}
use Rattle.ground.specs.Types.{Bytes}
use Rattle.packet.specs.Kinds.{frames, place_of, starts_epoch, tag_back}
use Rattle.packet.specs.Symbols.{row_from, symbol_at, symbol_of, with_symbol}
use Rattle.receiver.specs.Frame.{frame_of}
use Rattle.rows.specs.Port.{Port}
use Rattle.step.specs.Run.{ends_packet, in_step_at}
use Rattle.invariant.specs.Calls.{Fetch, Frame, Receiver, ReceiverCall, receiver_after}

-- a frame to the step record (R-5), by its answer
abbrev pub is_heard : (answer : ℕ) → Bool
is_heard answer = not (answer == 1) && not (answer == 9) && not (answer == 11)

-- The H4 bytes of all frames of port j that were frames to its step record, the latest first: after one call more, and after some calls.

abbrev pub heard_with : (port : ℕ) (x : Receiver) (call : ReceiverCall) (heard : Bytes) → Bytes
heard_with j x (Frame i failed h payload) heard =
    if i == j && is_heard (frame_of x.rows i failed h payload x.store).answer then h ∷ heard else heard
heard_with j x (Fetch out report) heard = heard

abbrev pub heard_of : (port : ℕ) (x : Receiver) (calls : List ReceiverCall) (heard : Bytes) → Bytes
heard_of j x [] heard = heard
heard_of j x (c ∷ calls) heard = heard_of j (receiver_after x c) calls (heard_with j x c heard)

-- Of each of the last frames of the run, as many as an epoch has, its symbol stands at its own place.
pub record LiveRow (kind count next : ℕ) (row heard : Bytes) : Type 0 where
  pub long : length row ≡ 16
  pub known : count ≤ length heard
  pub holds : (d : ℕ) → d < count → d < frames kind → symbol_at kind row (place_of kind (tag_back kind next d)) ≡ symbol_of kind (get_or heard d 0)

-- the packet that came with the last frames, as many as an epoch has
abbrev pub packet_heard : (kind : ℕ) (heard : Bytes) → Bytes
packet_heard kind heard = row_from kind (λ k. get_or heard (frames kind - 1 - k) 0)

-- What holds of a port's packet being gathered, of the frames that the port has heard.
pub record Live (kind : ℕ) (p : Port) (heard : Bytes) : Type 0 where
  pub row : LiveRow kind p.step.count p.step.next p.gathering heard
  -- in step, after the last frame of an epoch
  pub came : in_step_at kind p.step.count ≡ true → starts_epoch kind p.step.next ≡ true → p.gathering ≡ packet_heard kind heard
  -- in step, as the last frame of an epoch comes: the packet that is looked at for another MFI2
  pub judged : in_step_at kind p.step.count ≡ true → ends_packet kind p.step.next ≡ true
      → (h : ℕ) → with_symbol kind p.gathering (place_of kind p.step.next) h ≡ packet_heard kind (h ∷ heard)
