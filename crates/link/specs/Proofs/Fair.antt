-- The assumptions of demand 3 that concern the transport alone.
use Rattle.std.specs.Prelude.{◌≡◌, true, false, List, ◌∷◌, ◌++◌, ℕ, ◌+◌, ◌-◌, ◌*◌, ◌≤◌, ◌<◌, length}
use Rattle.packet.specs.Kinds.{starts_epoch}
use Rattle.phases.specs.Sizes.{start_sized}
use Rattle.receiver.specs.Laws.Sizes.{Sizes, start_sizes_of}
use Rattle.step.specs.OwnCount.{odd_packet}
use Rattle.step.specs.Sent.{KeptAs, SentWith}
use Rattle.link.specs.Moments.{Unready}
use Rattle.link.specs.Proofs.Contents.{number_of, packet_of}
use Rattle.link.specs.Road.{Below, L, Road, times}

pub record Fair (r : Road) : Type 0 where
  -- 01, 'Numbers that bound the work'
  pub sizes : start_sized r.kind r.ports r.payload r.window ≡ true
  -- what lines never change comes as sent
  pub placed : (p x : ℕ) → p < r.ports → r.first p ≤ x → KeptAs r.kind (r.offset + x) (r.h4 p x)
  -- and with it MFI2, of every frame that is handed before receiving has begun, and of the one with which it begins
  pub counted : (t p : ℕ) (done rest : List ℕ) → p < r.ports → r.order t ≡ done ++ (p ∷ rest) → r.delay p + r.first p ≤ t → Unready r t done
      → SentWith r.kind (r.offset + (t - r.delay p)) (r.h4 p (t - r.delay p))
  -- no packet has a right CRC and another MFI2 than its epoch's number
  pub even : (i p : ℕ) → p < r.ports → odd_packet r.kind (number_of r i) (packet_of r i p) ≡ false
  pub long : (p x : ℕ) → p < r.ports → length (r.bytes p x) ≡ r.payload
  -- 'spread at most the window less 16 frames'
  pub spread : (p q : ℕ) → p < r.ports → q < r.ports → r.delay p + L r ≤ r.delay q + r.window
  -- every port once in each frame time
  pub once : (t p : ℕ) → p < r.ports → times p (r.order t) ≡ 1
  pub only : (t : ℕ) → Below r.ports (r.order t)
  pub room : (k : ℕ) → r.ports * L r * r.payload ≤ length (r.output k)
  pub eight : (a k : ℕ) → length (r.lent a k) ≡ 8
  -- position 0 starts an epoch
  pub starts : starts_epoch r.kind r.offset ≡ true

pub sizes_in : (r : Road) → Fair r → Sizes r.kind r.ports r.payload r.window
sizes_in r f = start_sizes_of r.kind r.ports r.payload r.window f.sizes
