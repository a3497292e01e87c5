-- Losing step (request 2026-04), said of the frames heard of a port: their H4 bytes, the latest first, and the tag to come by the own count.
use Rattle.std.specs.Prelude.{◌≡◌, Bool, true, [], ◌∷◌, ℕ, suc, drop, if◌then◌else◌}
use Rattle.ground.specs.Types.{Bytes}
use Rattle.packet.specs.Counts.{counts}
use Rattle.packet.specs.Kinds.{epoch_of, place_of, tag_after, tag_back, tag_before}
use Rattle.rows.specs.Port.{Port}
use Rattle.step.specs.Arrival.{flag_of}
use Rattle.step.specs.OwnCount.{odd_packet}
use Rattle.step.specs.Run.{ends_packet}
use Rattle.invariant.specs.Live.{packet_heard}

-- how many of the latest in a row do not count by the own count
abbrev pub broken : (kind next : ℕ) (heard : Bytes) → ℕ
broken kind next [] = 0
broken kind next (h ∷ heard) = if counts kind (tag_before kind next) h then 0 else suc (broken kind (tag_before kind next) heard)

-- Whether the last packet that ended had a right CRC and another MFI2 than the own count's. Since then so many frames have come as stand in their epoch before the one to come.
abbrev pub ended_odd : (kind next : ℕ) (heard : Bytes) → Bool
ended_odd kind next heard =
    let since = place_of kind next in
    odd_packet kind (epoch_of kind (tag_back kind next since)) (packet_heard kind (drop since heard))

-- What the record of a port in step says of them.
pub record Recorded (kind : ℕ) (p : Port) (heard : Bytes) : Type 0 where
  pub breaks : p.step.breaks ≡ broken kind p.step.next heard
  pub odd : flag_of p.step.odd ≡ ended_odd kind p.step.next heard

-- 'the fourth frame in a row that breaks the count'
abbrev pub Fourth : (kind next h4 : ℕ) (heard : Bytes) → Type 0
Fourth kind next h heard = broken kind (tag_after kind next) (h ∷ heard) ≡ 4

-- 'the end of a second packet in a row with right CRC and a differing MFI2'
pub record Second (kind next h : ℕ) (heard : Bytes) : Type 0 where
  pub ends : ends_packet kind next ≡ true
  pub this : ended_odd kind (tag_after kind next) (h ∷ heard) ≡ true
  pub last : ended_odd kind next heard ≡ true
