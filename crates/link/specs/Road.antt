-- What reaches the receiver, and when (the minutes, demand 3). Nothing here knows what the frames mean.
-- A line's frames have positions 0, 1, 2, .. in an endless count; the frame at position x has the tag of x + offset.
use Rattle.std.specs.Prelude.{List, [], ◌∷◌, ℕ, ◌+◌, ◌<◌, if◌then◌else◌, ◌==◌}
use Rattle.packet.specs.Kinds.{frames}

pub record Road : Type 0 where
  pub kind : ℕ
  pub ports : ℕ
  -- P and W
  pub payload : ℕ
  pub window : ℕ
  -- the tag of position 0
  pub offset : ℕ
  -- the H4 byte and the payload of the frame of a port at a position
  pub h4 : ℕ → ℕ → ℕ
  pub bytes : ℕ → ℕ → List ℕ
  -- 'each port with a fixed delay' and a first frame of its own: the frame at position x comes at the time x + delay
  pub delay : ℕ → ℕ
  pub first : ℕ → ℕ
  -- 'in any port order within a frame time', new in each
  pub order : ℕ → List ℕ
  -- the output lent for the k-th report, which may be anything
  pub output : ℕ → List ℕ
  -- the record lent to a fetch, by how many frames and how many reports there have been
  pub lent : ℕ → ℕ → List ℕ

-- frames that an epoch has
abbrev pub L : Road → ℕ
L r = frames r.kind

-- how often a port stands in a list
abbrev pub times : ℕ → List ℕ → ℕ
times p [] = 0
times p (q ∷ qs) = (if p == q then 1 else 0) + times p qs

-- all ports of a list are below n
abbrev pub Below : ℕ → List ℕ → Type 0
Below n [] = Unit {0}
Below n (q ∷ qs) = (q < n) × Below n qs
