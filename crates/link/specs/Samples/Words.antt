-- The words in which demand 3 is said, each computed on a small history, link or moment with P 2: what is sent, what reaches the receiver, what is expected, and how the receiver is called.
use Rattle.std.specs.Prelude.{◌≡◌, refl, ◌&&◌, ◌||◌, false, true, List, [], ◌∷◌, ◌%◌, ◌*◌, ◌+◌, ◌-◌, ℕ, length, replicate, if◌then◌else◌, ◌==◌}
use Rattle.ground.specs.Plain.{◌<?◌}
use Rattle.ground.specs.Table.{tabulate}
use Rattle.rows.specs.Group.{group_at, put_group}
use Rattle.rows.specs.Packets.{put_marks}
use Rattle.rows.specs.Step.{put_step}
use Rattle.rows.specs.declared.step.Step.{Step}
use Rattle.sender.specs.Calls.Call.{AddSlot, Lapse, RemoveSlot, Report}
use Rattle.link.specs.FixedGroup.{sending_fixed}
use Rattle.link.specs.History.{History, fields_sent, has_rank, number_sent, payload_sent, sending_of, word_sent, x_at}
use Rattle.link.specs.Link.{Link, all_as_sent, client_bytes, expected, road_of, sent_to}
use Rattle.link.specs.Moments.{coming, next_at, says, says_one}
use Rattle.link.specs.Road.{Road}
use Rattle.link.specs.Running.{Moment, drained, framed, fresh}
use Rattle.link.specs.Sending.{Client, Sending}
use Rattle.link.specs.Opened.{link_open}

-- Three slots from epoch 255 on: slots 1 and 2 are active under 0 and 1 before it starts, and slot 2 is removed before the next. GID and RS-Ack change from epoch to epoch.
abbrev history : History
history =
    record {
      kind = 0;
      slots = 3;
      first = 255;
      before = λ i. if i == 0 then AddSlot 1 ∷ AddSlot 2 ∷ Report 0 0x00 0 ∷ [] else if i == 1 then Lapse ∷ RemoveSlot 2 ∷ [] else [];
      gid = λ i. i % 2;
      mst = λ i. 0xF0 + i;
      ack = λ i. (i + 1) % 2;
    }

-- what each slot sends and carries, P 2; the group frame at position x is 10, 11, 12, 13 from the second epoch on
abbrev client : Client
client x = if x <? 16 then [] else 10 ∷ 11 ∷ 12 ∷ 13 ∷ []

abbrev sending : Sending
sending = sending_of history 2 client (λ x slot. (0xD0 + slot) ∷ x ∷ [])

-- IDLE 255, NORM 0 and EOS 1 in the first epoch, then EOS 0 between two IDLE. X is 0 in the first, 2 in the second, which the first rules, and then 1. In the second slot 1 carries the first and third byte, slot 2 the second and fourth, slot 0 what is given.
sent_words :
    (tabulate 3 (word_sent history 0) ≡ 5 ∷ 2 ∷ 3 ∷ [])
    × (tabulate 3 (number_sent history 0) ≡ 255 ∷ 0 ∷ 1 ∷ [])
    × (tabulate 3 (word_sent history 1) ≡ 5 ∷ 3 ∷ 5 ∷ [])
    × (tabulate 3 (number_sent history 1) ≡ 255 ∷ 0 ∷ 255 ∷ [])
    × (tabulate 3 (word_sent history 2) ≡ 5 ∷ 3 ∷ 5 ∷ [])
    × (number_sent history 2 2 ≡ 255)
    × ((fields_sent history 0 1).epoch ≡ 255)
    × ((fields_sent history 1 1).epoch ≡ 0)
    × ((fields_sent history 2 1).mst ≡ 0xF2)
    × (tabulate 3 (λ i. (fields_sent history i 2).rs_ack) ≡ 1 ∷ 0 ∷ 1 ∷ [])
    × (tabulate 3 (x_at history) ≡ 0 ∷ 2 ∷ 1 ∷ [])
    × (tabulate 3 (has_rank history 15) ≡ false ∷ false ∷ false ∷ [])
    × (tabulate 3 (has_rank history 16) ≡ false ∷ true ∷ true ∷ [])
    × (payload_sent history 2 client 16 1 ≡ 10 ∷ 12 ∷ [])
    × (payload_sent history 2 client 31 2 ≡ 11 ∷ 13 ∷ [])
    × (tabulate 3 (λ i. sending.gid i 1) ≡ 0 ∷ 1 ∷ 0 ∷ [])
    × (tabulate 3 (λ i. sending.word 1 i) ≡ 5 ∷ 3 ∷ 5 ∷ [])
    × (sending.payload 16 2 ≡ 11 ∷ 13 ∷ [])
    × (sending.payload 16 0 ≡ 0xD0 ∷ 16 ∷ [])
    × (sending.payload 15 1 ≡ 0xD1 ∷ 15 ∷ [])
unfolding link_open
sent_words = (refl, refl, refl, refl, refl, refl, refl, refl, refl, refl, refl, refl, refl, refl, refl, refl, refl, refl, refl, refl)

-- two slots of a fixed group, slot 0 with number 1
abbrev fixed : Sending
fixed = sending_fixed (record { x = 2; first = 7; number = λ slot. 1 - slot; unread = λ i slot place. 0 }) 2 client

fixed_words :
    (fixed.payload 16 0 ≡ 11 ∷ 13 ∷ [])
    × (fixed.payload 16 1 ≡ 10 ∷ 12 ∷ [])
    × (fixed.number 3 0 ≡ 1)
    × (fixed.x 0 ≡ 2)
fixed_words = (refl, refl, refl, refl)

-- Slot 2 reaches port 0 and slot 1 port 1. The packets are taken as sixteen bytes that name epoch, slot and place. Of epoch 1 port 1's came otherwise, of epoch 2 port 0's.
abbrev packet : ℕ → ℕ → List ℕ
packet i slot = tabulate 16 (λ k. (i * 64 + slot * 16 + k) % 256)

abbrev told_sending : Sending
told_sending =
    record { kind = 0; slots = 3; first = 255; packet = packet; word = word_sent history; number = number_sent history; gid = λ i slot. 0; x = x_at history; payload = sending.payload; changes = 3 }

abbrev link : Link
link =
    record {
      sending = told_sending;
      ports = 2;
      payload = 2;
      window = 32;
      client = client;
      pairing = λ p. 2 - p;
      came = λ i p. if (i == 1 && p == 1) || (i == 2 && p == 0) then replicate 16 0 else packet i (2 - p);
      delay = λ p. 3 + p * 2;
      first = λ p. 5 + p;
      order = λ t. 1 ∷ 0 ∷ [];
      output = λ j. replicate 70 0xEE;
      lent = λ a j. replicate 8 0xAA;
    }

abbrev road : Road
road = road_of link

-- Tag 4,072 is the first of epoch 255. Port 1's first frame is at position 6 and comes at time 11.
road_words :
    (tabulate 4 (all_as_sent link) ≡ true ∷ false ∷ false ∷ true ∷ [])
    × (sent_to link 1 0 ≡ packet 1 2)
    × (road.offset ≡ 4072)
    × (road.h4 0 35 ≡ 0)
    × (road.h4 1 35 ≡ 147)
    × (road.h4 0 50 ≡ 226)
    × (road.bytes 0 16 ≡ 11 ∷ 13 ∷ [])
    × (road.bytes 1 16 ≡ 10 ∷ 12 ∷ [])
    × (length (client_bytes link 1) ≡ 64)
    × ((expected link 0 (replicate 70 0xEE)).mark ≡ 3)
    × (expected link 1 (replicate 70 0xEE) ≡ record { epoch = 1; mark = 1; bytes = []; rest = replicate 70 0xEE })
    × ((expected link 0 (replicate 70 0xEE)).rest ≡ replicate 6 0xEE)
    × (next_at road 20 [] 1 ≡ 16)
    × (next_at road 20 (1 ∷ []) 1 ≡ 15)
    × (next_at road 20 (1 ∷ []) 0 ≡ 18)
    × (next_at road 7 (0 ∷ []) 0 ≡ 5)
    × (coming road 20 [] 1 ≡ 16)
    × (coming road 20 [] 2 ≡ 7)
    × (says_one road 10 1 ≡ [])
    × (says_one road 11 1 ≡ 12 ∷ [])
    × (says road 8 (1 ∷ 0 ∷ []) ≡ 12 ∷ [])
unfolding link_open
road_words = (refl, refl, refl, refl, refl, refl, refl, refl, refl, refl, refl, refl, refl, refl, refl, refl, refl, refl, refl, refl, refl)

abbrev zeros : ℕ → List ℕ
zeros n = replicate n 0

-- a port that has counted so many frames, with the tag that it waits for
abbrev step : ℕ → ℕ → Step
step count next =
    record {
      spare = zeros 4;
      heard = 1;
      failed = 0;
      count = count;
      next = next;
      joined = 1;
      ever_since = 1;
      joined_at = 0;
      whole = 0;
      breaks = 0;
      odd = 0;
      bits = 0;
    }

-- a fresh receiver of this road
abbrev begin : Moment
begin = fresh road [] [] (replicate 11 (zeros 16)) (replicate 192 9)

-- A road of one port, whose frames have the right MFI1.
abbrev alone : Road
alone =
    record {
      kind = 0;
      ports = 1;
      payload = 2;
      window = 32;
      offset = 0;
      h4 = λ p x. x % 16;
      bytes = λ p x. 1 ∷ 2 ∷ [];
      delay = λ p. 0;
      first = λ p. 0;
      order = λ t. 0 ∷ [];
      output = λ j. replicate 32 0xEE;
      lent = λ a j. zeros 8;
    }

-- its port has counted 31 frames and waits for tag 11
abbrev nearly : Moment
nearly = record { rows = put_step (fresh alone [] [] (replicate 6 (zeros 16)) (zeros 96)).rows 0 (step 31 11); store = zeros 96; answers = 7 ∷ []; told = [] }

-- two of its epochs are due
abbrev both_due : Moment
both_due =
    record {
      rows =
          put_marks
          (put_step
          (put_group
          (replicate 6 (zeros 16))
          (record { spare = zeros 4; kind = 0; count = 1; payload = 2; window = 32; begun = 1; gathered = 1; oldest = 58; origin = 0; rs_ack = 0 }))
          0
          (step 32 0))
          0
          (3 ∷ zeros 15);
      store = zeros 96;
      answers = [];
      told = [];
    }

-- The receiver is started with the road's P, a frame is handed over with its own H4 and payload, and reports are fetched until none is due.
run_words :
    ((group_at begin.rows).payload ≡ 2)
    × ((framed road 1 6 begin).answers ≡ 12 ∷ [])
    × ((framed alone 0 11 nearly).answers ≡ 7 ∷ 0 ∷ [])
    × ((framed alone 0 12 nearly).answers ≡ 7 ∷ 12 ∷ [])
    × (length (drained alone 0 both_due).told ≡ 0)
    × (length (drained alone 1 both_due).told ≡ 1)
    × (length (drained alone 2 both_due).told ≡ 2)
    × (length (drained alone 3 both_due).told ≡ 2)
unfolding link_open
run_words = (refl, refl, refl, refl, refl, refl, refl, refl)
