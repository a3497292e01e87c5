-- A link with two members: they are added one after the other, one fails, is restored and is removed.
use Rattle.std.specs.Prelude.{Bool, ◌&&◌, List, [], ◌∷◌, ℕ, ◌+◌, ◌-◌, ◌*◌, ◌%◌, get_or, replicate, if◌then◌else◌, ◌==◌}
use Rattle.ground.specs.Table.{tabulate}
use Rattle.sender.specs.Calls.{Call}
use Rattle.sender.specs.Calls.Call.{AddSlot, Lapse, RemoveSlot, Report}
use Rattle.link.specs.History.{History, packet_sent, sending_of, x_at}
use Rattle.link.specs.Link.{Link}
use Rattle.link.specs.Sending.{Client, epoch_at}

-- the commands and reports before each epoch's start
abbrev pub calls : List (List Call)
calls =
    []
    -- slot 0 is to be added
    ∷ (AddSlot 0 ∷ [])
    -- it is active: a wait opens
    ∷ (Report 0 0x00 0 ∷ [])
    -- the wait lapses; slot 1 is to be added
    ∷ (Lapse ∷ AddSlot 1 ∷ [])
    ∷ []
    -- it is active: a wait opens
    ∷ (Report 0 0x00 0 ∷ [])
    -- RS-Ack turns over and closes the wait; then number 0 fails
    ∷ (Report 0 0x00 1 ∷ Report 0 0x80 1 ∷ [])
    -- it is restored
    ∷ (Report 0 0x00 1 ∷ [])
    ∷ []
    -- slot 0 is removed, and slot 1 falls to number 0
    ∷ (RemoveSlot 0 ∷ [])
    ∷ []

-- The first epoch is 249, so that epochs and tags go round while reports are made.
abbrev pub history : History
history = record { kind = 0; slots = 2; first = 249; before = λ i. get_or calls i []; gid = λ i. 1; mst = λ i. 255; ack = λ i. 0 }

-- P is 1: X bytes to a group frame
abbrev pub client : Client
client x = tabulate (x_at history (epoch_at history.kind x) * 1) (λ j. (x * 2 + j) % 256)

-- what a slot carries that has no rank
abbrev pub unranked : ℕ → ℕ → List ℕ
unranked x slot = 0xDD ∷ []

-- slot 1 reaches port 0, and slot 0 port 1
abbrev pub pairing : ℕ → ℕ
pairing p = 1 - p

abbrev pub sent : ℕ → ℕ → List ℕ
sent i p = packet_sent history i (pairing p)

-- Of the packet EOS 1 of the eighth epoch three bits came otherwise: it says NORM 0, and a reserved bit is set.
abbrev pub damaged : List ℕ
damaged = 0xF8 ∷ 0xF9 ∷ 0x0A ∷ 0x1B ∷ 0x0C ∷ 0x0D ∷ 0x0E ∷ 0x0F ∷ 0x00 ∷ 0x11 ∷ 0x22 ∷ 0x13 ∷ 0x04 ∷ 0x05 ∷ 0xD6 ∷ 0x57 ∷ []

abbrev pub came : ℕ → ℕ → List ℕ
came i p = if i == 8 && p == 0 then damaged else sent i p

-- the output lent for a report, a byte longer than need be, and the record lent to a fetch
abbrev pub output : List ℕ
output = replicate 33 0xEE

abbrev pub lent : List ℕ
lent = replicate 8 0xAA

-- A client's group frames, and the packets as they came. Port 0 is late by some frames, and comes first in the frame times that are named.
abbrev pub link_of : (came : ℕ → ℕ → List ℕ) (client : Client) (late : ℕ) (late_first : ℕ → Bool) → Link
link_of came client late late_first =
    record {
      sending = sending_of history 1 client unranked;
      ports = 2;
      payload = 1;
      window = 20;
      client = client;
      pairing = pairing;
      came = came;
      delay = λ p. if p == 0 then late else 0;
      first = λ p. if p == 0 then 3 else 21;
      order = λ t. if late_first t then 0 ∷ 1 ∷ [] else 1 ∷ 0 ∷ [];
      output = λ j. output;
      lent = λ a j. lent;
    }

abbrev pub link_by : (client : Client) (late : ℕ) (late_first : ℕ → Bool) → Link
link_by client late late_first = link_of came client late late_first

abbrev pub link_with : ℕ → (ℕ → Bool) → Link
link_with late late_first = link_by client late late_first

-- W is 20, so port 0 is as late as demand 3 lets it be.
abbrev pub link : Link
link = link_with 4 (λ t. t % 2 == 0)
