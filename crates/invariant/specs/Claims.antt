-- What a port says of the store: which frames of the window stand there, and the calls that handed them.
use Rattle.std.specs.Prelude.{◌≡◌, ◌⊎◌, Bool, true, false, List, [], ◌∷◌, ℕ, ◌+◌, ◌*◌, ◌/◌, ◌≤◌, ◌<◌, ◌%◌, get_or}
use Rattle.ground.specs.Types.{Bytes, Rows}
use Rattle.invariant.specs.Kept.Port.{offset}
use Rattle.packet.specs.Kinds.{frames, tags, first_tag}
use Rattle.receiver.specs.Frame.{frame_of}
use Rattle.rows.specs.declared.group.Group.{Group}
use Rattle.rows.specs.declared.step.Step.{Step}
use Rattle.step.specs.Arrival.{flag_of}
use Rattle.store.specs.Frames.{Stands}
use Rattle.store.specs.Marks.{mark_in}
use Rattle.rows.specs.Group.{group_at}
use Rattle.rows.specs.Port.{port_at}
use Rattle.invariant.specs.Calls.{Fetch, Frame, Receiver, ReceiverCall, receiver_after}

-- of the epoch that a joined port is in the midst of: from its first frame, or the epoch joined at, up to the tag to come
pub record Part (g : Group) (s : Step) (d : ℕ) : Type 0 where
  pub joined : flag_of s.joined ≡ true
  pub joined_at : frames g.kind * s.joined_at ≤ d
  pub from : frames g.kind * (offset g s / frames g.kind) ≤ d
  pub upto : d < offset g s

-- the frame that lies d after the window's first
pub record Claims (g : Group) (s : Step) (marks : Bytes) (d : ℕ) : Type 0 where
  pub begun : flag_of g.begun ≡ true
  pub has : (mark_in marks (d / frames g.kind) ≡ true) ⊎ Part g s d

-- the tag of the frame that lies d after the window's first
unfoldable pub tag_in : Group → ℕ → ℕ
tag_in g d = (first_tag g.kind g.oldest + d) % tags g.kind

-- port i claims a frame with this tag, and there stand this payload and this H4
pub record Claimed (s : Rows) (store : Bytes) (i tag : ℕ) (payload : Bytes) (h : ℕ) : Type 0 where
  pub at : ℕ
  pub claims : Claims (group_at s) (port_at s i).step (port_at s i).marks at
  pub tag_is : tag ≡ tag_in (group_at s) at
  pub stands : Stands (group_at s) i at payload h store

-- it is the frame just handed: answered 0, with the tag to come, which it has by the receiver's own count whatever it carries
pub record Handed (s : Rows) (i : ℕ) (failed : Bool) (h : ℕ) (payload store : Bytes) (j tag : ℕ) (bytes : Bytes) (h4 : ℕ) : Type 0 where
  pub port : j ≡ i
  pub unflagged : failed ≡ false
  pub answer : (frame_of s i failed h payload store).answer ≡ 0
  pub tag_is : tag ≡ (port_at s i).step.next
  pub h4_is : h4 ≡ h
  pub bytes_are : (k : ℕ) → k < (group_at s).payload → get_or bytes k 0 ≡ get_or payload k 0

module _ (tag : ℕ) (bytes : Bytes) (h4 : ℕ) where
  -- a call handed it
  abbrev pub HandedBy : (x : Receiver) (call : ReceiverCall) (port : ℕ) → Type 0
  HandedBy x (Frame i failed h payload) j = Handed x.rows i failed h payload x.store j tag bytes h4
  HandedBy x (Fetch out report) j = ⊥

  -- the port claims this very frame before the calls and after each of them
  abbrev pub ClaimedOn : (x : Receiver) (calls : List ReceiverCall) (port : ℕ) → Type 0
  ClaimedOn x [] j = Claimed x.rows x.store j tag bytes h4
  ClaimedOn x (c ∷ calls) j = Claimed x.rows x.store j tag bytes h4 × ClaimedOn (receiver_after x c) calls j

  -- One of the calls handed it, and the port has claimed it ever since: no later call has put another frame with its tag in its place.
  abbrev pub HandedLast : (x : Receiver) (calls : List ReceiverCall) (port : ℕ) → Type 0
  HandedLast x [] j = ⊥
  HandedLast x (c ∷ calls) j = (HandedBy x c j × ClaimedOn (receiver_after x c) calls j) ⊎ HandedLast (receiver_after x c) calls j
