-- A relay over the C calls (request 2026-08): what levelspruce_packet_read gives, handed to levelspruce_packet_write, is the same packet again.
use Rattle.std.specs.Prelude.{◌≡◌, refl, Bool, true, false, List, ℕ, ◌+◌, ◌*◌, ◌/◌, ◌%◌, ◌^◌, eqb, length, Ok, Err}
use Rattle.std.proofs.Common.{ap, arith}
use Rattle.packet.specs.Theorems.WrittenAgain.{again, again_bytes}
use Rattle.packet.specs.declared.layout.Fields.{Fields}
use Rattle.packet.specs.declared.reader.Unread.TheVariants.{Length, Crc, Fixed, Unassigned}
use Rattle.packet.specs.Reading.{read_answer, Reading}
use Rattle.packet.specs.Writing.{writing_number}
use Rattle.c_face.specs.Packets.{read_answer_c, read_fields_c, values_in}
use Rattle.c_face.specs.Relaying.{Relayed, handed_on}

four_bytes : (r : ℕ) → r / 2 ^ 24 * 2 ^ 24 + r / 2 ^ 16 % 256 * 2 ^ 16 + r / 2 ^ 8 % 256 * 2 ^ 8 + r % 256 ≡ r
four_bytes r = sum (r / 2 ^ 8) (r / 2 ^ 16) (r / 2 ^ 24) (r % 256) (r / 2 ^ 8 % 256) (r / 2 ^ 16 % 256) (omega arith) (omega arith) (omega arith)
  where
    sum : (a b c x y z : ℕ) → r ≡ a * 256 + x → a ≡ b * 256 + y → b ≡ c * 256 + z → c * 2 ^ 24 + z * 2 ^ 16 + y * 2 ^ 8 + x ≡ r
    sum a b c x y z p q s = omega arith

same_fields : (f : Fields) → handed_on (values_in f) ≡ f
same_fields f =
    λ i. record {
      epoch = f.epoch;
      word = f.word;
      gid = f.gid;
      mst = f.mst;
      rs_ack = f.rs_ack;
      sq = f.sq;
      reserved = four_bytes f.reserved i;
    }

-- where a read is answered 0, the bytes are a packet's
record Read (h4 fields : List ℕ) : Type 0 where
  packet : Fields
  is : read_answer h4 ≡ Ok packet
  values : read_fields_c h4 fields ≡ values_in packet

read_well : (h4 fields : List ℕ) → read_answer_c h4 fields ≡ 0 → Read h4 fields
unfolding read_answer_c read_fields_c
read_well h4 fields e = go (eqb (length fields) 10) (read_answer h4) refl refl
  where
    go : (l : Bool) (r : Reading) → eqb (length fields) 10 ≡ l → read_answer h4 ≡ r → Read h4 fields
    go true (Ok f) hl hr = record { packet = f; is = hr; values = rw (hl, hr) refl }
    go true (Err Length) hl hr = absurd (let n : ◌≡◌ {A = ℕ} 9 0 = rw (hl, hr) at e in omega arith)
    go true (Err Crc) hl hr = absurd (let n : ◌≡◌ {A = ℕ} 5 0 = rw (hl, hr) at e in omega arith)
    go true (Err Fixed) hl hr = absurd (let n : ◌≡◌ {A = ℕ} 7 0 = rw (hl, hr) at e in omega arith)
    go true (Err Unassigned) hl hr = absurd (let n : ◌≡◌ {A = ℕ} 6 0 = rw (hl, hr) at e in omega arith)
    go false r hl hr = absurd (let n : ◌≡◌ {A = ℕ} 9 0 = rw hl at e in omega arith)

pub relayed : (h4 fields t : List ℕ) → read_answer_c h4 fields ≡ 0 → length t ≡ 16 → Relayed h4 t (handed_on (read_fields_c h4 fields))
relayed h4 fields t e room =
    let r = read_well h4 fields e in
    rw (r.values, same_fields r.packet)
    (record {
      answer = ap writing_number (again h4 t r.packet r.is room).answer;
      bits = (again h4 t r.packet r.is room).bits;
      bytes = again_bytes h4 t r.packet r.is room;
    })
