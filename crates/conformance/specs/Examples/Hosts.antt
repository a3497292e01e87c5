-- Short runs of a receiver from its start, for the examples: P is 1, and frames carry their count and no good packet, but where it is said.
use Rattle.std.specs.Prelude.{Bool, true, false, List, [], ◌∷◌, ℕ, zero, suc, ◌+◌, ◌*◌, ◌/◌, ◌%◌, get_or, replicate, if◌then◌else◌, ◌==◌}
use Rattle.ground.specs.Types.{Bytes}
use Rattle.packet.specs.Kinds.{epoch_of, place_of}
use Rattle.packet.specs.Layout.{h4_of, nibbles_of}
use Rattle.packet.specs.Words.{IDLE}
use Rattle.phases.specs.Sizes.{ports_in}
use Rattle.receiver.specs.Fetch.{fetch_of}
use Rattle.receiver.specs.Frame.{frame_of}
use Rattle.receiver.specs.Starting.{start_answer, start_rows}
use Rattle.rows.specs.Group.{group_at}
use Rattle.rows.specs.Rows.{rows_for}
use Rattle.rows.specs.Step.{step_at}

-- what the host keeps between calls, and the last call's answer
pub record Host : Type 0 where
  pub answer : ℕ
  pub rows : List (List ℕ)
  pub store : List ℕ

-- a start with n ports and a window of W
abbrev pub opened : ℕ → ℕ → Host
opened n W =
    record {
      answer = start_answer 0 n 1 W (n * W * 2) (rows_for n);
      rows = start_rows 0 n 1 W (n * W * 2) (replicate (rows_for n) (replicate 16 0));
      store = replicate (n * W * 2) 0;
    }

-- the H4 byte of the frame with tag t: MFI1, and MFI2's nibbles at MFI1 0 and 1
abbrev h4_with : ℕ → ℕ
h4_with t = (if t % 16 == 0 then t / 256 else if t % 16 == 1 then t / 16 % 16 else 0) * 16 + t % 16

-- its payload
abbrev payload_with : ℕ → List ℕ
payload_with t = t % 256 ∷ []

-- the frame of a port with an H4 byte, flagged as failed or not
abbrev handed_as : (failed : Bool) (port h4 : ℕ) (payload : Bytes) (h : Host) → Host
handed_as failed port h4 payload h =
    record {
      answer = (frame_of h.rows port failed h4 payload h.store).answer;
      rows = (frame_of h.rows port failed h4 payload h.store).rows;
      store = (frame_of h.rows port failed h4 payload h.store).store;
    }

-- the frame with tag t
abbrev pub handed : (port t : ℕ) (h : Host) → Host
handed port t h = handed_as false port (h4_with t) (payload_with t) h

abbrev pub flagged : (port t : ℕ) (h : Host) → Host
flagged port t h = handed_as true port (h4_with t) (payload_with t) h

-- n frames of a port, the first with tag t
abbrev pub fed : (port n t : ℕ) (h : Host) → Host
fed port zero t h = h
fed port (suc n) t h = fed port n ((t + 1) % 4096) (handed port t h)

-- the H4 byte of the frame with tag t of a whole packet: IDLE under 255, with its CRC
abbrev pub packet_with : ℕ → ℕ
packet_with t = get_or (h4_of (nibbles_of (record { epoch = epoch_of 0 t; word = record { 0 = IDLE }; gid = 0; mst = 255; rs_ack = 0; sq = 255; reserved = 0 }))) (place_of 0 t) 0

-- the same with a reserved bit changed, at MFI1 4
abbrev pub damaged_with : ℕ → ℕ
damaged_with t = packet_with t + (if t % 16 == 4 then 16 else 0)

-- A byte is handed on as a number. The checker would work out a packet's byte, with its CRC, again at each place that reads it.
abbrev by_number : ℕ → (ℕ → Host) → Host
by_number zero next = next zero
by_number (suc b) next = next (suc b)

-- n frames of a port with such bytes, the first with tag t
abbrev pub fed_with : (h4 : ℕ → ℕ) (port n t : ℕ) (h : Host) → Host
fed_with h4 port zero t h = h
fed_with h4 port (suc n) t h = by_number (h4 t) (λ b. fed_with h4 port n ((t + 1) % 4096) (handed_as false port b (payload_with t) h))

-- one fetch, whose answer is left out
abbrev pub fetched : Host → Host
fetched h = record { answer = h.answer; rows = (fetch_of h.rows h.store (replicate 16 0) (replicate 8 0)).rows; store = h.store }

-- the answer, and of a port the tag to come, the frames counted, and the breaks in a row
abbrev pub counting : ℕ → Host → List ℕ
counting port h = let s = step_at h.rows port in h.answer ∷ s.next ∷ s.count ∷ s.breaks ∷ []

-- the answer, and how many ports there are
abbrev pub opened_with : ℕ → List ℕ
opened_with n = let h = opened n 16 in h.answer ∷ ports_in (group_at h.rows) ∷ []

-- the answer, and whether receiving has begun
abbrev pub begun : Host → List ℕ
begun h = h.answer ∷ (group_at h.rows).begun ∷ []

-- the answer, and the payload and H4 at a place in the store
abbrev pub stored : ℕ → Host → List ℕ
stored place h = h.answer ∷ get_or h.store (place * 2) 0 ∷ get_or h.store (place * 2 + 1) 0 ∷ []
