-- Positions and tags from the first epoch on, and bytes that came with their multiframe numbers as sent: they count as what was sent counts.
use Rattle.std.specs.Prelude.{◌≡◌, List, ℕ, ◌+◌, ◌<◌, get_or}
use Rattle.packet.specs.Changes.{kept_part}
use Rattle.packet.specs.Kinds.{epoch_of, first_tag, frames, place_of, tag_of}
use Rattle.packet.specs.Laws.Changes.{counts_kept}
use Rattle.packet.specs.Symbols.{symbol_of}
use Rattle.packet.specs.Theorems.Tags.{epoch_each, place_each}
use Rattle.step.specs.Sent.{SentWith}
use Rattle.link.specs.Link.{BringsMfi2}
use Rattle.link.specs.Sending.{epoch_number, epoch_start}

-- the frame at place k of the i-th epoch

abbrev pub tag_at : (kind first i k : ℕ) → ℕ
tag_at kind first i k = tag_of kind (first_tag kind first + (epoch_start kind i + k))

pub tag_place : (kind first i k : ℕ) → k < frames kind → place_of kind (tag_at kind first i k) ≡ k
tag_place kind first i k b = place_each kind first i k b

pub tag_epoch : (kind first i k : ℕ) → k < frames kind → epoch_of kind (tag_at kind first i k) ≡ epoch_number kind first i
unfolding epoch_number
tag_epoch kind first i k b = epoch_each kind first i k b

-- what came with its kept part as sent, and with the symbol that was sent where that is a nibble of MFI2, counts
pub kept_counts : (kind first i k : ℕ) (sent came : List ℕ) → k < frames kind → kept_part kind k (get_or came k 0) ≡ kept_part kind k (get_or sent k 0)
    → (BringsMfi2 kind k → symbol_of kind (get_or came k 0) ≡ symbol_of kind (get_or sent k 0))
    → SentWith kind (first_tag kind first + (epoch_start kind i + k)) (get_or sent k 0) → SentWith kind (first_tag kind first + (epoch_start kind i + k)) (get_or came k 0)
kept_counts kind first i k sent came l kept same e =
    let place = tag_place kind first i k l in
    counts_kept kind (tag_at kind first i k) (get_or came k 0) (get_or sent k 0) e (rw place kept) (rw place same)
