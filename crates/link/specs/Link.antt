-- Demand 3's environment: what is sent, its lines and one receiver (the minutes, item 3), and the reports that are then to come.
use Rattle.std.specs.Prelude.{◌≡◌, ◌⊎◌, Bool, true, List, [], ◌∷◌, ◌++◌, ℕ, zero, suc, ◌+◌, ◌-◌, ◌*◌, ◌%◌, ◌≤◌, ◌<◌, drop, get_or, length, if◌then◌else◌}
use Rattle.ground.specs.Counting.Words.{every}
pub use Rattle.ground.specs.Finite.{same_bytes}
use Rattle.ground.specs.Types.{Bytes}
use Rattle.judge.specs.Verdict.{HELD, SURE}
use Rattle.packet.specs.Changes.{brings_mfi2, changed, kept_part}
use Rattle.packet.specs.Kinds.{first_tag, frames}
use Rattle.packet.specs.Symbols.{symbol_of}
use Rattle.phases.specs.Sizes.{start_sized}
use Rattle.link.specs.Moments.{Unready}
use Rattle.link.specs.Road.{Below, Road, times}
use Rattle.link.specs.Sending.{Client, Covered, Lawful, Pairing, Sending, epoch_at, epoch_number, epoch_start}
use Rattle.link.specs.Told.{Told}

pub record Link : Type 0 where
  -- what each slot sends
  pub sending : Sending
  pub ports : ℕ
  -- P and W
  pub payload : ℕ
  pub window : ℕ
  -- the client's group frames, by their positions
  pub client : Client
  -- the slot that reaches each port
  pub pairing : ℕ → ℕ
  -- the packet of an epoch as it came to a port: its H4 bytes
  pub came : ℕ → ℕ → List ℕ
  -- each port's delay, and the position of its first frame
  pub delay : ℕ → ℕ
  pub first : ℕ → ℕ
  -- the ports in the order of their frames, in each frame time
  pub order : ℕ → List ℕ
  -- the output lent for each report, and the record lent to each fetch, by how many frames and how many reports there have been
  pub output : ℕ → List ℕ
  pub lent : ℕ → ℕ → List ℕ

-- the kind of packets, and the frames that an epoch has
abbrev pub kind_of : Link → ℕ
kind_of k = k.sending.kind

abbrev pub epoch_frames : Link → ℕ
epoch_frames k = frames (kind_of k)

-- the packet of an epoch as it was sent to a port
abbrev pub sent_to : (k : Link) (i port : ℕ) → List ℕ
sent_to k i p = k.sending.packet i (k.pairing p)

-- 'with one to three bits changed' (the minutes), 'anywhere in a packet's 64, MFI1 still coming as sent' (request 2026-04): how many at most is the sending side's to say
pub record Damaged (kind changes : ℕ) (sent came : List ℕ) : Type 0 where
  pub long : length came ≡ frames kind
  pub bytes : (k : ℕ) → k < frames kind → get_or came k 0 < 256
  pub least : 1 ≤ changed kind sent came
  pub most : changed kind sent came ≤ changes
  -- what of each frame is never changed: MFI1, which tells its place
  pub placed : (k : ℕ) → k < frames kind → kept_part kind k (get_or came k 0) ≡ kept_part kind k (get_or sent k 0)

-- Each packet arrives as sent, or is damaged
abbrev pub Arrived : (kind changes : ℕ) (sent came : List ℕ) → Type 0
Arrived kind changes sent came = (came ≡ sent) ⊎ Damaged kind changes sent came

-- what reaches the receiver: each port gets its slot's frames
unfoldable pub road_of : Link → Road
road_of k =
    record {
      kind = kind_of k;
      ports = k.ports;
      payload = k.payload;
      window = k.window;
      offset = first_tag (kind_of k) k.sending.first;
      h4 = λ p x. get_or (k.came (epoch_at (kind_of k) x) p) (x % epoch_frames k) 0;
      bytes = λ p x. k.sending.payload x (k.pairing p);
      delay = k.delay;
      first = k.first;
      order = k.order;
      output = k.output;
      lent = k.lent;
    }

-- the frame at a place of a packet brings a nibble of MFI2, the high or the low one
abbrev pub BringsMfi2 : ℕ → ℕ → Type 0
BringsMfi2 kind place = brings_mfi2 kind place ≡ true

-- port p's frame in frame time t brings, if one of MFI2, the nibble that was sent
abbrev pub NumberKept : (k : Link) (t port : ℕ) → Type 0
NumberKept k t p =
    let x = t - k.delay p in
    BringsMfi2 (kind_of k) (x % epoch_frames k)
    → symbol_of (kind_of k) (get_or (k.came (epoch_at (kind_of k) x) p) (x % epoch_frames k) 0) ≡ symbol_of (kind_of k) (get_or (sent_to k (epoch_at (kind_of k) x) p) (x % epoch_frames k) 0)

-- What demand 3 lets be so of the client, the lines and what is lent. That each frame comes once, with its payload undamaged and not flagged failed, that reports are fetched after each frame, and that the receiver's
-- state and the store stay untouched between calls is said by how the receiver is called on this road.
pub record Lines (k : Link) : Type 0 where
  -- 01, 'Numbers that bound the work'; of VC-12 'P is 136' (02, 2026-01)
  pub sizes : start_sized (kind_of k) k.ports k.payload k.window ≡ true
  -- 'any client bytes'; 'a group frame has X x P bytes'
  pub client : (x : ℕ) → length (k.client x) ≡ k.sending.x (epoch_at (kind_of k) x) * k.payload
  -- 'spread at most the window less 16 frames', of VC-12 32: an epoch's
  pub spread : (p q : ℕ) → p < k.ports → q < k.ports → k.delay p + epoch_frames k ≤ k.delay q + k.window
  -- 'in any port order within a frame time': every port once in each
  pub once : (t p : ℕ) → p < k.ports → times p (k.order t) ≡ 1
  pub only : (t : ℕ) → Below k.ports (k.order t)
  -- what came of each packet
  pub arrived : (i p : ℕ) → p < k.ports → Arrived (kind_of k) k.sending.changes (sent_to k i p) (k.came i p)
  -- 'Demand 3 then spares the multiframe number only until receiving begins' (request 2026-04): the frame of port p comes in frame time t, after those of `done`, and up to then not all ports were ready. So it is handed before receiving
  -- has begun, or receiving begins with it.
  pub spared : (t p : ℕ) (done rest : List ℕ) → p < k.ports → k.order t ≡ done ++ (p ∷ rest) → k.delay p + k.first p ≤ t → Unready (road_of k) t done → NumberKept k t p
  -- 'The lent output holds at least ports x 16 x P bytes', of VC-12 32
  pub room : (j : ℕ) → k.ports * epoch_frames k * k.payload ≤ length (k.output j)
  -- and the record any eight
  pub eight : (a j : ℕ) → length (k.lent a j) ≡ 8

-- What demand 3 over any sending side lets be so.
pub record AssumedOver (k : Link) : Type 0 where
  pub lawful : Lawful k.sending k.payload k.client
  pub lines : Lines k
  -- each port has a slot of its own
  pub paired : Pairing k.ports k.sending.slots k.pairing
  -- every slot that is not IDLE in an epoch that starts after some position reaches a port, and no port's first frame is before that position: the epoch in which it falls had its packets fixed before, and rules no reported one
  pub earliest : ℕ
  pub not_before : (p : ℕ) → p < k.ports → earliest ≤ k.first p
  pub covered : (i : ℕ) → earliest < epoch_start (kind_of k) i → Covered k.sending i k.ports k.pairing

-- all packets of the i-th epoch came as sent
unfoldable pub all_as_sent : Link → ℕ → Bool
all_as_sent k i = every k.ports (λ p. same_bytes (k.came i p) (sent_to k i p))

-- n of the client's group frames from position x on, one after the other
unfoldable pub frames_of : (client : Client) (x n : ℕ) → List ℕ
frames_of client x zero = []
frames_of client x (suc n) = frames_of client x n ++ client (x + n)

-- the client's bytes of the i-th epoch
abbrev pub client_bytes : Link → ℕ → Bytes
client_bytes k i = frames_of k.client (epoch_start (kind_of k) i) (epoch_frames k)

-- The report of epoch i + 1, ruled by the packets of epoch i, into an output: 'exactly the client's bytes, marked sure, if all its ruling packets came as sent; otherwise held, with no bytes'. What is beyond its bytes
-- stands as it was lent: where it is held, the whole output.
unfoldable pub expected : (k : Link) (i : ℕ) (out : Bytes) → Told
expected k i out =
    let bytes = if all_as_sent k i then client_bytes k (suc i) else [] in
    record {
      epoch = epoch_number (kind_of k) k.sending.first (suc i);
      mark = if all_as_sent k i then SURE else HELD;
      bytes = bytes;
      rest = drop (length bytes) out;
    }

-- 'over the same tags, delays, first frames and port orders', at receivers of one size
pub record Alike (k j : Link) : Type 0 where
  -- tags: those of the kind, from the same first epoch on
  pub kind : kind_of k ≡ kind_of j
  pub epoch : k.sending.first ≡ j.sending.first
  pub payload : k.payload ≡ j.payload
  pub window : k.window ≡ j.window
  pub delay : (p : ℕ) → p < k.ports → k.delay p ≡ j.delay p
  pub first : (p : ℕ) → p < k.ports → k.first p ≡ j.first p
  pub order : (t : ℕ) → k.order t ≡ j.order t

-- the client streams of two links are the same in the i-th epoch
abbrev pub SameIn : (i : ℕ) (k j : Link) → Type 0
SameIn i k j = (m : ℕ) → m < epoch_frames k → k.client (epoch_start (kind_of k) i + m) ≡ j.client (epoch_start (kind_of k) i + m)
