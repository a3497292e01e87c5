-- What a packet that rules carries, for the host to read: its reading by its kind (requests 2026-01 and 2026-12), and whether its number is another than the receiver's own count (request 2026-04).
use Rattle.std.specs.Prelude.{Bool, not, ◌||◌, List, ℕ, if◌then◌else◌, ◌==◌}
use Rattle.packet.specs.Fixed.{read_fixed_nibbles}
use Rattle.packet.specs.Kinds.{fixed_kind}
use Rattle.packet.specs.Ruling.{read_row}
use Rattle.packet.specs.Reading.{Reading}
use Rattle.step.specs.OwnCount.{own_number, without_mfi2}

-- 'For reading a packet: 9, 5, 7, 6' (01), by its kind
unfoldable pub reading_in : (kind : ℕ) (row : List ℕ) → Reading
reading_in kind row = if kind == fixed_kind then read_fixed_nibbles row else read_row kind row

-- it carries an MFI2, and not the number of its epoch by the own count
unfoldable pub other_number : (kind : ℕ) (epoch : ℕ) (row : List ℕ) → Bool
other_number kind epoch row = not (without_mfi2 kind || own_number epoch row)
