-- Frames in the lent store (01, 'Numbers that bound the work': 'exactly ports x W x (P+1) bytes, a frame's payload and its H4').
use Rattle.std.specs.Prelude.{◌≡◌, List, ℕ, ◌+◌, ◌*◌, ◌%◌, ◌<◌, length, get_or, if◌then◌else◌, ◌==◌}
use Rattle.ground.specs.Drawn.{fill_at}
use Rattle.ground.specs.Plain.{◌<?◌}
use Rattle.ground.specs.Types.{Bytes}
use Rattle.packet.specs.Symbols.{row_from}
use Rattle.rows.specs.declared.group.Group.{Group}

-- a port's W places go round; the window's first frame stands at the origin
unfoldable pub ring_of : (origin distance W : ℕ) → ℕ
ring_of origin d W = if W == 0 then 0 else (origin + d) % W

-- where the frame of a port stands that lies d after the window's first
unfoldable pub place_in : (g : Group) (port distance : ℕ) → ℕ
place_in g port d = (port * g.window + ring_of g.origin d g.window) * (g.payload + 1)

-- a frame's payload, then its H4, from a place on; one that would go beyond the end is dropped
unfoldable pub stored_at : (s : Bytes) (place : ℕ) (payload : Bytes) (h4 : ℕ) → Bytes
stored_at s place payload h = if place + length payload <? length s then fill_at place (length payload + 1) (λ j. get_or payload j h) s else s

unfoldable pub byte_at : Bytes → ℕ → ℕ
byte_at s place = get_or s place 0

-- the H4 byte of the frame that lies d after the window's first
unfoldable pub h4_at : (g : Group) (port distance : ℕ) (s : Bytes) → ℕ
h4_at g port d s = byte_at s (place_in g port d + g.payload)

-- the packet that came with the frames of the oldest epoch
unfoldable pub packet_in : (g : Group) (port : ℕ) (s : Bytes) → List ℕ
packet_in g port s = row_from g.kind (λ k. h4_at g port k s)

-- the frame of port i at distance d stands in the store with this payload and this H4
pub record Stands (g : Group) (i d : ℕ) (payload : Bytes) (h : ℕ) (s : Bytes) : Type 0 where
  pub bytes : (k : ℕ) → k < g.payload → get_or s (place_in g i d + k) 0 ≡ get_or payload k 0
  pub last : get_or s (place_in g i d + g.payload) 0 ≡ h
