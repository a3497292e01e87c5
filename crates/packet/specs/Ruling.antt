-- A packet read for what it rules (01, 'Report of an epoch'; 'For reading a packet: 9, 5, 7, 6'), by its kind.
use Rattle.std.specs.Prelude.{ℕ, true, false, List, if◌then◌else◌, ◌==◌, Ok, Err}
use Rattle.packet.specs.declared.layout.Fields.{Fields}
use Rattle.ground.specs.Types.{Epoch}
use Rattle.packet.specs.Kinds.{vc12_kind}
use Rattle.packet.specs.Layout.{fields_of}
use Rattle.packet.specs.Reading.{read_nibbles, Reading}
use Rattle.packet.specs.Vc12.{read_vc12_row, row_bits, vc12_fields}
use Rattle.packet.specs.declared.ruling.Ruling.{Ruling}

abbrev pub refused : Ruling
refused = record { good = false; word = 0; number = 0; gid = 0 }

abbrev pub ruling_by : Reading → Ruling
ruling_by (Ok f) = record { good = true; word = f.word.0; number = f.sq; gid = f.gid }
ruling_by (Err u) = refused

-- the sixteen entries of a packet read
unfoldable pub read_row : ℕ → List ℕ → Reading
read_row kind row = if kind == vc12_kind then read_vc12_row row else read_nibbles row

-- the fields that they carry, under a right CRC or a wrong one
unfoldable pub fields_in : ℕ → List ℕ → Fields
fields_in kind row = if kind == vc12_kind then vc12_fields (row_bits row) else fields_of row

-- of the packet of an epoch by the receiver's own count, which is not looked at: the epoch inside the packet is the step rule's to judge
unfoldable pub ruling_of : (kind : ℕ) (epoch : Epoch) (nibbles : List ℕ) → Ruling
ruling_of kind epoch row = ruling_by (read_row kind row)
