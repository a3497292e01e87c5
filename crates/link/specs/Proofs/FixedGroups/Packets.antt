-- A fixed group's packets: they count as their tags say, and each reads as said, whatever the nibbles that are not looked at.
use Rattle.std.specs.Prelude.{◌≡◌, refl, true, List, ℕ, ◌+◌, ◌<◌, get_or}
use Rattle.std.proofs.Common.{sym, mod-lt, arith}
use Rattle.packet.specs.Fixed.{fixed_nibbles_with}
use Rattle.packet.specs.Kinds.{first_tag, fixed_kind, frames}
use Rattle.packet.specs.Layout.{h4_of}
use Rattle.packet.specs.Symbols.{packet_row}
use Rattle.packet.specs.Theorems.Fixed.{fixed_counted}
use Rattle.packet.specs.Theorems.Tags.{epochs_fit, epochs_some}
use Rattle.packet.specs.Words.{FIXED}
use Rattle.step.specs.OwnCount.{own_ruling}
use Rattle.step.specs.Sent.{SentWith}
use Rattle.step.specs.Theorems.FixedPackets as Step
use Rattle.link.specs.FixedGroup.{FixedGroup, InPlaces, Numbered, fixed_sent, sending_these}
use Rattle.link.specs.Proofs.Laws.Counts.{tag_epoch, tag_place}
use Rattle.link.specs.Sending.{epoch_number, epoch_start}

-- an epoch's number is a byte
pub number_byte : (first i : ℕ) → epoch_number fixed_kind first i < 256
unfolding epoch_number
number_byte first i = let below = mod-lt (first + i) (epochs_some fixed_kind) in let few = epochs_fit fixed_kind in omega arith

pub fixed_counts : (f : FixedGroup) (i slot k : ℕ) → k < frames fixed_kind → SentWith fixed_kind (first_tag fixed_kind f.first + (epoch_start fixed_kind i + k)) (get_or (fixed_sent f i slot) k 0)
unfolding fixed_sent
fixed_counts f i slot k l =
    rw (tag_place fixed_kind f.first i k l) at
    (fixed_counted (f.unread i slot) (first_tag fixed_kind f.first + (epoch_start fixed_kind i + k)) (epoch_number fixed_kind f.first i) (f.number slot) (number_byte f.first i) (sym (tag_epoch fixed_kind f.first i k l)))

-- any nibbles with these in their places are sent by some group of the kind: the one whose other nibbles they are
pub any_sent : (f : FixedGroup) (packet : (i slot : ℕ) → List ℕ) (i slot : ℕ) → InPlaces (epoch_number fixed_kind f.first i) (f.number slot) (packet i slot)
    → fixed_sent (sending_these f packet) i slot ≡ h4_of (packet i slot)
unfolding fixed_sent h4_of fixed_nibbles_with
any_sent f packet i slot c = rw (c.sq_high, c.sq_low, c.mfi2_high, c.mfi2_low, c.word) refl

module _ (f : FixedGroup) (a : Numbered f) where
  slot_byte_lem : (slot : ℕ) → slot < f.x → f.number slot < 256
  slot_byte_lem slot b = let m = a.most in let l = a.low slot b in omega arith

  pub fixed_reads_lem : (i slot : ℕ) → slot < f.x
      → own_ruling fixed_kind (epoch_number fixed_kind f.first i) (packet_row fixed_kind (fixed_sent f i slot)) ≡ record { good = true; word = FIXED; number = f.number slot; gid = 0 }
  unfolding fixed_sent
  fixed_reads_lem i slot b = Step.fixed_reads_lem (f.unread i slot) (epoch_number fixed_kind f.first i) (f.number slot) (number_byte f.first i) (slot_byte_lem slot b)
