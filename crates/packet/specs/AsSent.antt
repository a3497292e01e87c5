-- A packet as our sender writes it, by its kind: it fits, has a byte for each frame of its epoch, these count as their tags say, it reads back as its fields, and one that came changed is refused with 5.
use Rattle.std.specs.Prelude.{◌≡◌, ℕ, ◌≤◌, true, length, slice_index, Ok, Err}
use Rattle.ground.specs.Types.{Bytes}
use Rattle.packet.specs.Changes.{changed, most_changes}
use Rattle.packet.specs.Counts.{counts}
use Rattle.packet.specs.Kinds.{epoch_of, frames, place_of, tag_of}
use Rattle.packet.specs.Ruling.{read_row}
use Rattle.packet.specs.Sent.{sent_bytes, sent_fits}
use Rattle.packet.specs.Symbols.{packet_row}
use Rattle.packet.specs.declared.layout.Fields.{Fields}
use Rattle.packet.specs.declared.reader.Unread.TheVariants.{Crc}

pub record Sent (kind : ℕ) (f : Fields) (s : Bytes) : Type 0 where
  pub fits : sent_fits kind f ≡ true
  pub long : length (sent_bytes kind f s) ≡ frames kind
  pub told : (x : ℕ) → f.epoch ≡ epoch_of kind (tag_of kind x) → counts kind (tag_of kind x) (slice_index (sent_bytes kind f s) (place_of kind (tag_of kind x))) ≡ true
  pub reads : read_row kind (packet_row kind (sent_bytes kind f s)) ≡ Ok f
  pub refused : (came : Bytes) → 1 ≤ changed kind (sent_bytes kind f s) came → changed kind (sent_bytes kind f s) came ≤ most_changes kind → read_row kind (packet_row kind came) ≡ Err Crc
