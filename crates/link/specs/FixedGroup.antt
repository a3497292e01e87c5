-- A fixed group's side of demand 3 (request 2026-12): 'X slots for the X ports, each sending FIXED under its own number, together 0 to X-1, and carrying payload in that order from the first frame on'.
use Rattle.std.specs.Prelude.{◌≡◌, List, ℕ, suc, ◌+◌, ◌/◌, ◌%◌, ◌≤◌, ◌<◌, drop, get_or, length}
use Rattle.ground.specs.Table.{tabulate}
use Rattle.judge.specs.Verdict.{SURE}
use Rattle.packet.specs.Changes.{most_changes}
use Rattle.packet.specs.Fixed.{fixed_nibbles_with}
use Rattle.packet.specs.Kinds.{epochs, fixed_kind}
use Rattle.packet.specs.Layout.{h4_of}
use Rattle.packet.specs.Words.{FIXED}
use Rattle.payload.specs.Order.{member_frame}
use Rattle.link.specs.Link.{Lines, Link, client_bytes, kind_of}
use Rattle.link.specs.Running.{Moment}
use Rattle.link.specs.Sending.{Client, Pairing, Sending, epoch_number}
use Rattle.link.specs.Told.{Told}

-- X, the number of the first epoch, each slot's number, and by epoch, slot and place the nibbles that are 'not looked at in reading', whatever the neighbour puts there
pub record FixedGroup : Type 0 where
  pub x : ℕ
  pub first : ℕ
  pub number : ℕ → ℕ
  pub unread : (i slot place : ℕ) → ℕ

-- in any order, 'together 0 to X-1'
pub record Numbered (f : FixedGroup) : Type 0 where
  pub most : f.x ≤ 64
  pub first : f.first < epochs fixed_kind
  pub low : (slot : ℕ) → slot < f.x → f.number slot < f.x
  pub once : (slot other : ℕ) → slot < f.x → other < f.x → f.number slot ≡ f.number other → slot ≡ other

-- the H4 bytes of a slot's packet in the i-th epoch
unfoldable pub fixed_sent : (f : FixedGroup) (i slot : ℕ) → List ℕ
fixed_sent f i slot = h4_of (fixed_nibbles_with (f.unread i slot) (epoch_number fixed_kind f.first i) (f.number slot))

-- nibbles with SQ, MFI2 and the word in their places, and whatever a neighbour puts into the others
pub record InPlaces (epoch sq : ℕ) (ns : List ℕ) : Type 0 where
  pub sq_high : get_or ns 6 0 ≡ sq / 16
  pub sq_low : get_or ns 7 0 ≡ sq % 16
  pub mfi2_high : get_or ns 8 0 ≡ epoch / 16
  pub mfi2_low : get_or ns 9 0 ≡ epoch % 16
  pub word : get_or ns 10 0 ≡ FIXED

-- the group that sends such nibbles, by epoch and slot
abbrev pub sending_these : (f : FixedGroup) (packet : (i slot : ℕ) → List ℕ) → FixedGroup
sending_these f packet = record { x = f.x; first = f.first; number = f.number; unread = λ i slot place. get_or (packet i slot) place 0 }

-- What it sends. 'no changed bit at all, since nothing detects one'.
abbrev pub sending_fixed : (f : FixedGroup) (P : ℕ) (client : Client) → Sending
sending_fixed f P client =
    record {
      kind = fixed_kind;
      slots = f.x;
      first = f.first;
      packet = fixed_sent f;
      word = λ i slot. FIXED;
      number = λ i slot. f.number slot;
      gid = λ i slot. 0;
      x = λ i. f.x;
      payload = λ x slot. member_frame f.x P (client x) (f.number slot);
      changes = most_changes fixed_kind;
    }

-- What demand 3 then lets be so.
pub record AssumedFixed (k : Link) : Type 0 where
  pub group : FixedGroup
  pub numbered : Numbered group
  pub sends : k.sending ≡ sending_fixed group k.payload k.client
  -- 'X slots for the X ports', each port its own
  pub all : k.ports ≡ group.x
  pub paired : Pairing group.x group.x k.pairing
  -- the rest: the client, the lines, what is lent
  pub lines : Lines k

-- 'exactly the client's bytes, marked sure': the report of the i-th epoch into an output
abbrev pub sure_report : (k : Link) (i : ℕ) (out : List ℕ) → Told
sure_report k i out =
    record {
      epoch = epoch_number (kind_of k) k.sending.first i;
      mark = SURE;
      bytes = client_bytes k i;
      rest = drop (length (client_bytes k i)) out;
    }

-- all reports made up to a moment are sure: they are those of the epochs behind some epoch, one after the other
pub record ToldSure (k : Link) (m : Moment) : Type 0 where
  pub before : ℕ
  pub many : ℕ
  pub are : m.told ≡ tabulate many (λ j. sure_report k (suc (before + j)) (k.output j))
