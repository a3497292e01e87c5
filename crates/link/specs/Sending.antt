-- The sending side of demand 3, whoever sends: what each slot sends, and the laws that it keeps. Our sender's histories are one instance (History). Nothing here is a rule of one kind of sender: which words active members send, and what X is at first, is the instance's.
use Rattle.std.specs.Prelude.{◌≡◌, ◌≢◌, true, false, List, ℕ, suc, ◌+◌, ◌*◌, ◌/◌, ◌%◌, ◌≤◌, ◌<◌, get_or, length}
use Rattle.judge.specs.declared.seen.Seen.{Seen}
use Rattle.judge.specs.Order.{active_in, port_of}
use Rattle.judge.specs.Seen.{seen_at}
use Rattle.judge.specs.Verdict.{SURE, judge_of}
use Rattle.packet.specs.Changes.{changed}
use Rattle.packet.specs.Kinds.{epochs, first_tag, frames}
use Rattle.packet.specs.Symbols.{packet_row}
use Rattle.packet.specs.Words.{IDLE}
use Rattle.payload.specs.Order.{member_frame}
use Rattle.step.specs.OwnCount.{odd_packet, own_ruling}
use Rattle.step.specs.Sent.{SentWith}

pub record Sending : Type 0 where
  -- the kind of its packets, how many slots there are, and the number of the first epoch
  pub kind : ℕ
  pub slots : ℕ
  pub first : ℕ
  -- by epoch and slot: the packet's bytes, one a frame, and the word, number and GID that are to be read of them
  pub packet : ℕ → ℕ → List ℕ
  pub word : ℕ → ℕ → ℕ
  pub number : ℕ → ℕ → ℕ
  pub gid : ℕ → ℕ → ℕ
  -- X of each epoch
  pub x : ℕ → ℕ
  -- by position and slot: the payload of the frame
  pub payload : ℕ → ℕ → List ℕ
  -- in how many bits a packet may come changed
  pub changes : ℕ

-- Frames are counted on without end from the first frame of the first epoch, each by its position: 0, 1, 2 and on.

-- the number of the i-th epoch, by the first one's
unfoldable pub epoch_number : (kind first i : ℕ) → ℕ
epoch_number kind first i = (first + i) % epochs kind

-- the position of the i-th epoch's first frame
abbrev pub epoch_start : (kind i : ℕ) → ℕ
epoch_start kind i = i * frames kind

-- the epoch of the frame at x
abbrev pub epoch_at : (kind x : ℕ) → ℕ
epoch_at kind x = x / frames kind

-- The client's bytes: a group frame for each position.
abbrev pub Client : Type 0
Client = ℕ → List ℕ

-- 'Let each slot reach one port and each port one slot': the slots of n ports, each port's its own
pub record Pairing (n slots : ℕ) (slot_of : ℕ → ℕ) : Type 0 where
  pub below : (p : ℕ) → p < n → slot_of p < slots
  pub once : (p q : ℕ) → p < n → q < n → slot_of p ≡ slot_of q → p ≡ q

-- the port that a slot reaches
pub record Reached (n : ℕ) (slot_of : ℕ → ℕ) (slot : ℕ) : Type 0 where
  pub port : ℕ
  pub below : port < n
  pub is : slot_of port ≡ slot

-- every slot whose word is not IDLE in the i-th epoch reaches a port
abbrev pub Covered : (s : Sending) (i n : ℕ) (slot_of : ℕ → ℕ) → Type 0
Covered s i n slot_of = (slot : ℕ) → slot < s.slots → s.word i slot ≢ IDLE → Reached n slot_of slot

-- what is seen of a slot's packet of the i-th epoch where it came as sent, and the next epoch's frames came too
abbrev pub seen_sent : (s : Sending) (i slot : ℕ) → Seen
seen_sent s i slot = record { whole = true; good = true; word = s.word i slot; number = s.number i slot; gid = s.gid i slot; here = true }

-- 'The packets of one epoch rule the payload of the next epoch, from its first frame': what n ports have seen of the i-th epoch is judged sure, and the ranks that it gives carry the client's group frames of the next.
pub record Rules (s : Sending) (P : ℕ) (client : Client) (i n : ℕ) (slot_of : ℕ → ℕ) (ports : List Seen) : Type 0 where
  pub mark : judge_of s.kind ports n ≡ SURE
  pub members : active_in ports n ≡ s.x (suc i)
  pub carried : (r j : ℕ) → r < s.x (suc i) → j < frames s.kind
      → s.payload (epoch_start s.kind (suc i) + j) (slot_of (port_of ports n r)) ≡ member_frame (s.x (suc i)) P (client (epoch_start s.kind (suc i) + j)) r

-- The laws of a sending side that carries a client's group frames, P bytes a member.
pub record Lawful (s : Sending) (P : ℕ) (client : Client) : Type 0 where
  pub first : s.first < epochs s.kind
  -- packets count as their tags say
  pub counts : (i slot k : ℕ) → slot < s.slots → k < frames s.kind
      → SentWith s.kind (first_tag s.kind s.first + (epoch_start s.kind i + k)) (get_or (s.packet i slot) k 0)
  -- each reads as said
  pub reads : (i slot : ℕ) → slot < s.slots
      → own_ruling s.kind (epoch_number s.kind s.first i) (packet_row s.kind (s.packet i slot))
      ≡ record { good = true; word = s.word i slot; number = s.number i slot; gid = s.gid i slot }
  -- a changed one is refused
  pub refused : (i slot : ℕ) (came : List ℕ) → slot < s.slots → 1 ≤ changed s.kind (s.packet i slot) came → changed s.kind (s.packet i slot) came ≤ s.changes
      → (own_ruling s.kind (epoch_number s.kind s.first i) (packet_row s.kind came)).good ≡ false
  -- and shows by its CRC that it is
  pub even : (i slot : ℕ) (came : List ℕ) → slot < s.slots → 1 ≤ changed s.kind (s.packet i slot) came → changed s.kind (s.packet i slot) came ≤ s.changes
      → odd_packet s.kind (epoch_number s.kind s.first i) (packet_row s.kind came) ≡ false
  -- all as said rule
  pub rules : (i n : ℕ) (slot_of : ℕ → ℕ) (ports : List Seen) → Pairing n s.slots slot_of → Covered s i n slot_of
      → ((p : ℕ) → p < n → seen_at ports p ≡ seen_sent s i (slot_of p)) → Rules s P client i n slot_of ports
  pub long : (x slot : ℕ) → slot < s.slots → length (s.payload x slot) ≡ P
