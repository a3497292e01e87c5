-- A relay over the C calls (request 2026-08): it hands the fields that levelspruce_packet_read gives to levelspruce_packet_write.
use Rattle.std.specs.Prelude.{◌≡◌, ℕ, ◌+◌, ◌*◌, ◌^◌, get_or}
use Rattle.ground.specs.Types.{Bytes}
use Rattle.packet.specs.Again.{Counted}
use Rattle.packet.specs.declared.layout.Fields.{Fields}
use Rattle.packet.specs.Crc.{bits_of}
use Rattle.packet.specs.Layout.{highs_of}
use Rattle.c_face.specs.Packets.{given, write_answer_c, write_bytes_c}

-- the reserved number in ten bytes of fields
abbrev pub reserved_in : Bytes → ℕ
reserved_in b = get_or b 6 0 * 2 ^ 24 + get_or b 7 0 * 2 ^ 16 + get_or b 8 0 * 2 ^ 8 + get_or b 9 0

-- the fields that a relay hands on, byte by byte
abbrev pub handed_on : Bytes → Fields
handed_on b = given (get_or b 0 0) (get_or b 1 0) (get_or b 2 0) (get_or b 3 0) (get_or b 4 0) (get_or b 5 0) (reserved_in b)

-- what it writes of them into t, where it read h4: done, with the same bits, and where the packet counts the same bytes
pub record Relayed (h4 t : Bytes) (f : Fields) : Type 0 where
  pub answer : write_answer_c f.epoch f.word.0 f.gid f.mst f.rs_ack f.sq f.reserved t ≡ 0
  pub bits : bits_of (highs_of (write_bytes_c f.epoch f.word.0 f.gid f.mst f.rs_ack f.sq f.reserved t)) ≡ bits_of (highs_of h4)
  pub bytes : Counted h4 → write_bytes_c f.epoch f.word.0 f.gid f.mst f.rs_ack f.sq f.reserved t ≡ h4
