-- Two ends, each with a sender and a receiver, over lines of unequal delay both ways: an add becomes active and its wait is closed by what is heard alone. Each end starts its epochs with its own receiver's reply, and hands what it hears after each report to its sender.
use Rattle.std.specs.Prelude.{◌≡◌, refl, true, false, List, [], ◌∷◌, ◌++◌, ℕ, zero, suc, ◌+◌, ◌-◌, ◌/◌, ◌%◌, get_or, replicate, ◌==◌}
use Rattle.ground.specs.Flags.{one_if}
use Rattle.ground.specs.Plain.{◌≤?◌}
use Rattle.receiver.specs.Fetch.{fetch_of}
use Rattle.receiver.specs.Frame.{frame_of}
use Rattle.receiver.specs.Heard.{heard_out}
use Rattle.receiver.specs.Shown.{reply_of}
use Rattle.receiver.specs.Starting.{start_as_rows}
use Rattle.sender.specs.Calls.Call.{AddSlot, Report}
use Rattle.sender.specs.declared.epochs.Sender.{Sender}
use Rattle.sender.specs.Epochs.{begin_of, packet_bytes, sender_outcome_of}
use Rattle.sender.specs.Epochs.SenderCall.{OnTable, StartEpoch}
use Rattle.sender.specs.Numbering.{state_in}
use Rattle.sender.specs.Table.{is_active}
use Rattle.link.specs.Samples.Computing.{outcome}

-- one end: its sender, the packets that it has sent, the last one first, its receiver's rows and store; and after each report what was heard, whether its slot is active then and whether a wait is open, the last one first
record End : Type 0 where
  sender : Sender
  sent : List (List ℕ)
  rows : List (List ℕ)
  store : List ℕ
  log : List (List ℕ)

-- the number of the first epoch, so that MST speaks of number 0 in the seventh
abbrev first : ℕ
first = 250

-- one slot, P 1, W 32
abbrev fresh : End
fresh =
    record {
      sender = (begin_of 0 1 first).sender;
      sent = [];
      rows = start_as_rows 0 1 1 32 64 [] [] (replicate 6 (replicate 16 0xFF));
      store = replicate 64 0xFF;
      log = [];
    }

-- an epoch starts with what the own receiver replies in it
unfoldable started : End → ℕ → End
started e n =
    let reply = reply_of e.rows n in
    let s = (sender_outcome_of e.sender (StartEpoch 0 (get_or reply 0 0) (get_or reply 1 0))).sender in
    record { sender = s; sent = packet_bytes s 0 (replicate 16 0) ∷ e.sent; rows = e.rows; store = e.store; log = e.log }

-- what is heard after a report goes to the sender
unfoldable told : End → List (List ℕ) → End
told e rows =
    let heard = heard_out rows (9 ∷ 9 ∷ 9 ∷ 9 ∷ []) in
    let s = (sender_outcome_of e.sender (OnTable (Report (get_or heard 1 0) (get_or heard 2 0) (get_or heard 3 0)))).sender in
    elim (get_or heard 0 0 == 1) [ true ↦ record { sender = s; sent = e.sent; rows = rows; store = e.store; log = (heard ++ (one_if (is_active (state_in s.table 0)) ∷ one_if s.table.wait ∷ [])) ∷ e.log } | false ↦ record { sender = e.sender; sent = e.sent; rows = rows; store = e.store; log = heard ∷ e.log } ]

-- a frame with this byte, and a fetch
unfoldable framed : End → ℕ → End
framed e h4 =
    let rows = (frame_of e.rows 0 false h4 (0 ∷ []) e.store).rows in
    let store = (frame_of e.rows 0 false h4 (0 ∷ []) e.store).store in
    let said = (fetch_of rows store (replicate 16 0) (replicate 8 0)).report in
    let next : End = record { sender = e.sender; sent = e.sent; rows = rows; store = store; log = e.log } in
    elim (get_or said 0 0 == 0) [ true ↦ next | false ↦ told next (fetch_of rows store (replicate 16 0) (replicate 8 0)).rows ]

-- the frame that comes in frame time t from an end whose frames take d frame times
unfoldable comes : End → End → ℕ → ℕ → End
comes e far d t = elim (d ≤? t) [ true ↦ framed e (get_or (get_or far.sent (t / 16 - (t - d) / 16) []) ((t - d) % 16) 0) | false ↦ e ]

record Both : Type 0 where
  near : End
  far : End

-- 3 frame times there and 10 back
unfoldable ends : ℕ → Both
ends zero = record { near = record { sender = (sender_outcome_of fresh.sender (OnTable (AddSlot 0))).sender; sent = []; rows = fresh.rows; store = fresh.store; log = [] }; far = fresh }
ends (suc t) =
    let b = ends t in
    let begun : Both = elim (t % 16 == 0) [ true ↦ record { near = started b.near ((first + t / 16) % 256); far = started b.far ((first + t / 16) % 256) } | false ↦ b ] in
    record { near = comes begun.near begun.far 10 t; far = comes begun.far begun.near 3 t }

-- The near end's reports are of epochs 254, 255, 0 and on. In epoch 0 the far end's MST says that number 0 is OK: the slot is active, and a wait opens. The far end reports the EOS of epoch 2, sent behind that, and turns RS-Ack over, which its packets carry from epoch 4 on: the wait closes.
closed :
    (ends 186).near.log
    ≡ (1 ∷ 4 ∷ 255 ∷ 1 ∷ 1 ∷ 0 ∷ [])
    ∷ (1 ∷ 3 ∷ 255 ∷ 0 ∷ 1 ∷ 1 ∷ [])
    ∷ (1 ∷ 2 ∷ 255 ∷ 0 ∷ 1 ∷ 1 ∷ [])
    ∷ (1 ∷ 1 ∷ 255 ∷ 0 ∷ 1 ∷ 1 ∷ [])
    ∷ (1 ∷ 0 ∷ 127 ∷ 0 ∷ 1 ∷ 1 ∷ [])
    ∷ (1 ∷ 255 ∷ 255 ∷ 0 ∷ 0 ∷ 0 ∷ [])
    ∷ (1 ∷ 254 ∷ 255 ∷ 0 ∷ 0 ∷ 0 ∷ [])
    ∷ []
unfolding outcome started told framed comes ends
closed = refl
