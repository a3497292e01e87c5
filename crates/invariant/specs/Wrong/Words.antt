-- Words of the theorems, worked out on a receiver of two ports, P 2 and W 16: a theorem says no more than its words do.
use Rattle.std.specs.Prelude.{◌≡◌, refl, true, false, List, [], ◌∷◌, ℕ, ◌-◌, ◌*◌, replicate}
use Rattle.std.proofs.Common.{sym, arith}
use Rattle.std.proofs.lemmas.Bool.{false≢true}
use Rattle.ground.specs.Table.{tabulate}
use Rattle.invariant.specs.Calls.ReceiverCall.{Fetch, Frame}
use Rattle.invariant.specs.Calls.{Receiver, receiver_run, started_with}
use Rattle.invariant.specs.Claims.{tag_in}
use Rattle.invariant.specs.Live.{heard_of, is_heard, packet_heard}
use Rattle.invariant.specs.Reports.{Others, Unstopped, ack_in, gives, next_report, reports_of, stops_with, successive}
use Rattle.invariant.specs.Times.{outcomes_of, waiting_in}
use Rattle.packet.specs.Kinds.{tag_back}
use Rattle.rows.specs.declared.group.Group.{Group}
use Rattle.rows.specs.Group.{group_at, put_group}
use Rattle.rows.specs.Member.{member_at}
use Rattle.rows.specs.Step.{put_step, step_at}
use Rattle.receiver.specs.Opened.{receiver_open}

abbrev nines : ℕ → List ℕ
nines n = replicate n 9

abbrev group : ℕ → ℕ → Group
group gathered oldest =
    record {
      spare = replicate 4 0;
      kind = 0;
      count = 2;
      payload = 2;
      window = 16;
      begun = 1;
      gathered = gathered;
      oldest = oldest;
      origin = 0;
      rs_ack = 1;
    }

-- Epoch 58 begins with tag 920, epoch 0 with 4,088. With the oldest epoch gathered it is the next to be reported, else the one after it.
tags_and_epochs :
    (tag_in (group 1 58) 3 ≡ 923)
    × (tag_in (group 1 0) 10 ≡ 2)
    × (tag_back 0 5 0 ≡ 4)
    × (tag_back 0 5 2 ≡ 2)
    × (tag_back 0 1 1 ≡ 4095)
    × (successive 0 254 3 ≡ 254 ∷ 255 ∷ 0 ∷ [])
    × (next_report (group 1 58) ≡ 58)
    × (next_report (group 0 58) ≡ 59)
    × (next_report (group 0 255) ≡ 0)
    × (packet_heard 0 (tabulate 20 (λ d. (15 - d) * 16)) ≡ tabulate 16 (λ k. k))
unfolding receiver_open tag_in
tags_and_epochs = (refl, refl, refl, refl, refl, refl, refl, refl, refl, refl)

-- a frame to the step record: not one refused with 1 or 9, nor one outside the window, 11
heard :
    (is_heard 0 ≡ true) × (is_heard 1 ≡ false) × (is_heard 9 ≡ false) × (is_heard 10 ≡ true) × (is_heard 11 ≡ false) × (is_heard 12 ≡ true)
heard = (refl, refl, refl, refl, refl, refl)

abbrev fresh : Receiver
fresh = started_with 0 2 2 16 [] [] (replicate 11 (replicate 16 0)) (nines 96)

-- port 1's frames that are heard, the latest first: not port 0's, and none with a payload of 3; a fetch is no frame
calls :
    (heard_of 1 fresh (Frame 1 false 0x30 (nines 2) ∷ Frame 0 false 0x40 (nines 2) ∷ Fetch (nines 64) (nines 8) ∷ Frame 1 false 0x61 (nines 3) ∷ Frame 1 false 0x51 (nines 2) ∷ []) [] ≡ 0x51 ∷ 0x30 ∷ [])
    × ((step_at (receiver_run fresh (Frame 1 false 0x30 (nines 2) ∷ Frame 1 false 0x51 (nines 2) ∷ [])).rows 1).next ≡ 850)
    × ((step_at (receiver_run fresh (Frame 1 false 0x30 (nines 2) ∷ Frame 1 false 0x51 (nines 2) ∷ [])).rows 0).count ≡ 0)
    × (reports_of fresh (Frame 1 false 0x30 (nines 2) ∷ Fetch (nines 64) (nines 8) ∷ []) ≡ [])
    × (gives fresh (nines 64) (nines 8) ≡ false)
    × (ack_in fresh.rows ≡ 0)
    × (stops_with fresh.rows 1 true 0 (nines 2) (nines 96) ≡ false)
unfolding receiver_open
calls = (refl, refl, refl, refl, refl, refl, refl)

-- what five calls answer and leave
outcomes :
    outcomes_of fresh (Frame 1 true 0x30 (nines 2) ∷ Fetch (nines 64) (nines 8) ∷ Fetch (nines 63) (nines 8) ∷ Frame 2 false 0x30 (nines 2) ∷ Frame 1 false 0x30 (nines 2) ∷ [])
    ≡ record { answer = 10; store = nines 96; out = []; report = [] }
    ∷ record { answer = 0; store = nines 96; out = nines 64; report = replicate 8 0 }
    ∷ record { answer = 9; store = nines 96; out = nines 63; report = nines 8 }
    ∷ record { answer = 1; store = nines 96; out = []; report = [] }
    ∷ record { answer = 12; store = nines 96; out = []; report = [] }
    ∷ []
unfolding receiver_open
outcomes = refl

-- a port's state, its number, its times and the counter
standing : waiting_in (member_at (started_with 0 2 2 16 (3 ∷ 4 ∷ []) (5 ∷ 6 ∷ []) (replicate 11 (replicate 16 0)) (nines 96)).rows 1) ≡ 0 ∷ 255 ∷ 4 ∷ 6 ∷ 0 ∷ []
unfolding receiver_open
standing = refl

-- a receiver in the midst of receiving, none of whose ports is in step; count, P and RS-Ack have numbers of their own
abbrev receiving : ℕ → ℕ → Receiver
receiving begun gathered =
    record {
      rows = put_group (started_with 0 2 3 16 [] [] (replicate 11 (replicate 16 0)) (nines 128)).rows
          (record {
            spare = replicate 4 0;
            kind = 0;
            count = 2;
            payload = 3;
            window = 16;
            begun = begun;
            gathered = gathered;
            oldest = 255;
            origin = 0;
            rs_ack = 1;
          });
      store = nines 128;
    }

-- Two ports, P 3: an output of 96 bytes and a record of 8 fit. No port is readable, so that none owes a frame: every fetch that fits gives the next epoch. (No call leads here: with its last readable port receiving stops.)
reports :
    ((group_at (started_with 0 2 3 16 [] [] (replicate 11 (replicate 16 0)) (nines 128)).rows).count ≡ 2)
    × ((group_at (started_with 0 2 3 16 [] [] (replicate 11 (replicate 16 0)) (nines 128)).rows).payload ≡ 3)
    × (gives (receiving 1 1) (nines 96) (nines 8) ≡ true)
    × (gives (receiving 1 1) (nines 95) (nines 8) ≡ false)
    × (gives (receiving 1 1) (nines 96) (nines 7) ≡ false)
    × (gives (receiving 1 0) (nines 96) (nines 8) ≡ false)
    × (gives (receiving 0 1) (nines 96) (nines 8) ≡ false)
    × (reports_of (receiving 1 1) (Fetch (nines 96) (nines 8) ∷ Fetch (nines 95) (nines 8) ∷ Fetch (nines 96) (nines 8) ∷ []) ≡ 255 ∷ 0 ∷ [])
    × (reports_of (receiving 1 1) (Frame 2 false 0x30 (nines 3) ∷ Fetch (nines 96) (nines 8) ∷ []) ≡ 255 ∷ [])
    × (ack_in (receiving 1 1).rows ≡ 1)
unfolding receiver_open
reports = (refl, refl, refl, refl, refl, refl, refl, refl, refl, refl)

-- the same with port 0 in step and joined
abbrev joined : List (List ℕ)
joined =
    put_step (receiving 1 0).rows 0
    (record { spare = replicate 4 0; heard = 1; failed = 0; count = 32; next = 853; joined = 1; ever_since = 0; joined_at = 0; whole = 0; breaks = 0; odd = 0; bits = 0 })

-- a frame after which no port is readable, flagged or not; none that is refused, none where receiving has not begun, and none that leaves another port readable
stops :
    (stops_with (receiving 1 0).rows 1 false 0x30 (nines 3) (nines 128) ≡ true)
    × (stops_with (receiving 1 0).rows 1 true 0x30 (nines 3) (nines 128) ≡ true)
    × (stops_with (receiving 1 0).rows 2 false 0x30 (nines 3) (nines 128) ≡ false)
    × (stops_with (receiving 1 0).rows 1 false 0x30 (nines 2) (nines 128) ≡ false)
    × (stops_with (receiving 1 0).rows 1 false 0x30 (nines 3) (nines 127) ≡ false)
    × (stops_with (receiving 0 1).rows 1 false 0x30 (nines 3) (nines 128) ≡ false)
    × (stops_with joined 1 true 0x30 (nines 3) (nines 128) ≡ false)
    × (stops_with joined 0 true 0x30 (nines 3) (nines 128) ≡ true)
unfolding receiver_open
stops = (refl, refl, refl, refl, refl, refl, refl, refl)

unstopped : Unstopped (receiving 1 1) (Frame 2 false 0x30 (nines 3) ∷ Fetch (nines 95) (nines 8) ∷ [])
unfolding receiver_open
unstopped = (refl, tt)

stopped : Unstopped (receiving 1 0) (Fetch (nines 95) (nines 8) ∷ Frame 1 false 0x30 (nines 3) ∷ []) → ⊥
unfolding receiver_open
stopped u = false≢true (sym u.0)

-- frames of port 0 and a fetch, none of port 1
others : Others 1 (Frame 0 false 0x30 (nines 3) ∷ Fetch (nines 95) (nines 8) ∷ [])
others = (λ e. omega arith, tt)

not_others : Others 1 (Fetch (nines 95) (nines 8) ∷ Frame 1 false 0x30 (nines 3) ∷ []) → ⊥
not_others o = o.0 refl

-- of a port's numbers those that waiting goes by
waits :
    waiting_in (record { spare = 41 ∷ 42 ∷ 43 ∷ 44 ∷ []; word = 15; number = 16; state = 2; state_number = 17; told_word = 3; told_number = 18; hold_off = 21; restore = 22; elapsed = 23 })
    ≡ 2 ∷ 17 ∷ 21 ∷ 22 ∷ 23 ∷ []
waits = refl
