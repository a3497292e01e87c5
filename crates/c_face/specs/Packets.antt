-- The packet's C calls in terms of the packet's own.
use Rattle.std.specs.Prelude.{Bool, ◌&&◌, List, [], ◌∷◌, ℕ, ◌/◌, ◌%◌, ◌^◌, length, if◌then◌else◌, ◌==◌, Ok, Err}
use Rattle.ground.specs.Plain.{◌<?◌}
use Rattle.ground.specs.Types.{Bytes, Epoch}
use Rattle.packet.specs.declared.layout.Fields.{Fields}
use Rattle.packet.specs.Fixed.{read_fixed_answer, write_fixed_answer}
use Rattle.packet.specs.Kinds.{frames}
use Rattle.packet.specs.Reading.{read_answer, reading_number, Reading}
use Rattle.packet.specs.Sent.{sent_answer, sent_bytes}
use Rattle.packet.specs.Vc12.{read_vc12_answer, write_vc12_answer, write_vc12_bytes}
use Rattle.packet.specs.Writing.{write_answer, write_bytes, writing_number}

-- the fields that a C call gives, in its order
abbrev pub given : (epoch : Epoch) (word gid mst ack sq reserved : ℕ) → Fields
given epoch word gid mst ack sq reserved =
    record { epoch = epoch; word = record { 0 = word }; gid = gid; mst = mst; rs_ack = ack; sq = sq; reserved = reserved }

-- Writing for C: any 32 bits may come as a field.
abbrev pub write_answer_c : (epoch : Epoch) (word gid mst ack sq reserved : ℕ) (h4 : Bytes) → ℕ
write_answer_c epoch word gid mst ack sq reserved h4 = writing_number (write_answer (given epoch word gid mst ack sq reserved) h4)

abbrev pub write_bytes_c : (epoch : Epoch) (word gid mst ack sq reserved : ℕ) (h4 : Bytes) → Bytes
write_bytes_c epoch word gid mst ack sq reserved h4 = write_bytes (given epoch word gid mst ack sq reserved) h4

-- Reading for C: the fields go into ten lent bytes, of which another number is refused with 9 before all else.
unfoldable pub read_answer_c : Bytes → Bytes → ℕ
read_answer_c h4 fields = if length fields == 10 then reading_number (read_answer h4) else 9

-- a packet's values, of the reserved bits four bytes, the highest first
abbrev pub values_in : Fields → List ℕ
values_in f =
    f.epoch
    ∷ f.word.0
    ∷ f.gid
    ∷ f.mst
    ∷ f.rs_ack
    ∷ f.sq
    ∷ (f.reserved / 2 ^ 24)
    ∷ (f.reserved / 2 ^ 16 % 256)
    ∷ (f.reserved / 2 ^ 8 % 256)
    ∷ (f.reserved % 256)
    ∷ []

-- these, or the lent bytes as they were
abbrev pub values_or : Reading → Bytes → Bytes
values_or (Ok f) fields = values_in f
values_or (Err u) fields = fields

unfoldable pub read_fields_c : Bytes → Bytes → Bytes
read_fields_c h4 fields = if length fields == 10 then values_or (read_answer h4) fields else fields

-- Of a fixed group (request 2026-12), by the same lent bytes.

abbrev pub write_fixed_answer_c : (epoch : Epoch) (sq : ℕ) (h4 : Bytes) → ℕ
write_fixed_answer_c epoch sq h4 = writing_number (write_fixed_answer epoch sq h4)

unfoldable pub read_fixed_answer_c : Bytes → Bytes → ℕ
read_fixed_answer_c h4 fields = if length fields == 10 then reading_number (read_fixed_answer h4) else 9

unfoldable pub read_fixed_fields_c : Bytes → Bytes → Bytes
read_fixed_fields_c h4 fields = if length fields == 10 then values_or (read_fixed_answer h4) fields else fields

-- Of VC-12 (request 2026-01), by the same fields and the same lent bytes.

abbrev pub write_vc12_answer_c : (epoch : Epoch) (word gid mst ack sq reserved : ℕ) (bits : Bytes) → ℕ
write_vc12_answer_c epoch word gid mst ack sq reserved bits = writing_number (write_vc12_answer (given epoch word gid mst ack sq reserved) bits)

abbrev pub write_vc12_bytes_c : (epoch : Epoch) (word gid mst ack sq reserved : ℕ) (bits : Bytes) → Bytes
write_vc12_bytes_c epoch word gid mst ack sq reserved bits = write_vc12_bytes (given epoch word gid mst ack sq reserved) bits

unfoldable pub read_vc12_answer_c : List ℕ → List ℕ → ℕ
read_vc12_answer_c bits fields = if length fields == 10 then reading_number (read_vc12_answer bits) else 9

unfoldable pub read_vc12_fields_c : List ℕ → List ℕ → List ℕ
read_vc12_fields_c bits fields = if length fields == 10 then values_or (read_vc12_answer bits) fields else fields

-- for the functions behind the calls
abbrev pub are_bytes : (epoch : Epoch) (word gid mst ack sq : ℕ) → Bool
are_bytes epoch word gid mst ack sq = epoch <? 256 && word <? 256 && gid <? 256 && mst <? 256 && ack <? 256 && sq <? 256

-- by the kind of the packet, which has a byte for each frame of its epoch
abbrev pub write_refusal : ℕ → ℕ → ℕ
write_refusal kind n = if n == frames kind then 8 else 9

abbrev pub sent_answer_c : (kind : ℕ) (epoch : Epoch) (word gid mst ack sq reserved : ℕ) (bytes : Bytes) → ℕ
sent_answer_c kind epoch word gid mst ack sq reserved bytes = writing_number (sent_answer kind (given epoch word gid mst ack sq reserved) bytes)

abbrev pub sent_bytes_c : (kind : ℕ) (epoch : Epoch) (word gid mst ack sq reserved : ℕ) (bytes : Bytes) → Bytes
sent_bytes_c kind epoch word gid mst ack sq reserved bytes = sent_bytes kind (given epoch word gid mst ack sq reserved) bytes
