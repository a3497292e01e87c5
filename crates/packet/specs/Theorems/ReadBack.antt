-- What is written reads back as given, the reserved and zero bits among it.
use Rattle.std.specs.Prelude.{◌≡◌, ℕ, ◌+◌, ◌*◌, ◌/◌, ◌%◌, ◌^◌, ◌<◌, Bool, true, false, List, length, take, ◌==◌, refl, Ok, Err}
use Rattle.std.proofs.Common.{sym, arith, eq-eqb}
use Rattle.packet.specs.Bounds.{Bounds}
use Rattle.packet.specs.Laws.Bounds.{bounds}
use Rattle.packet.specs.declared.layout.Fields.{Fields}
use Rattle.packet.specs.declared.writer.Unwritten.TheVariants.{Field, Length}
use Rattle.packet.specs.Crc.{crc_of}
use Rattle.packet.specs.Laws.Bytes.{byte_back, crc_lt}
use Rattle.packet.specs.Laws.Nibbles.{packet_nibbles, highs_back}
use Rattle.packet.specs.Layout.{carried_in, data_of, fields_of, h4_of, nibbles_of, sealed_of, reserved_of}
use Rattle.packet.specs.Reading.{read_answer, read_nibbles}
use Rattle.packet.specs.Writing.{fitting, write_answer, write_bytes}

above_bit : (x a : ℕ) → x < 8 → a < 2 → (x * 2 + a) % 16 / 2 ≡ x
above_bit x a h g = omega arith

digits : (z : ℕ) → z < 2 ^ 26
    → z / 2 ^ 23 % 8 * 2 ^ 23 + z / 2 ^ 19 % 16 % 16 * 2 ^ 19 + z / 2 ^ 15 % 16 % 16 * 2 ^ 15 + z / 2 ^ 11 % 16 % 16 * 2 ^ 11 + z / 2 ^ 8 % 8 * 2 ^ 8 + z / 2 ^ 4 % 16 % 16 * 2 ^ 4 + z % 16 % 16 ≡ z
digits z h =
    sum (z / 2 ^ 4) (z / 2 ^ 8) (z / 2 ^ 11) (z / 2 ^ 15) (z / 2 ^ 19) (z / 2 ^ 23) (z % 16 % 16) (z / 2 ^ 4 % 16 % 16) (z / 2 ^ 8 % 8) (z / 2 ^ 11 % 16 % 16) (z / 2 ^ 15 % 16 % 16) (z / 2 ^ 19 % 16 % 16) (z / 2 ^ 23 % 8)
    (omega arith) (omega arith) (omega arith) (omega arith) (omega arith) (omega arith) (omega arith)
  where
    sum : (a b c d e f r s t u v w x : ℕ) → z ≡ a * 16 + r → a ≡ b * 16 + s → b ≡ c * 8 + t → c ≡ d * 16 + u → d ≡ e * 16 + v → e ≡ f * 16 + w → f ≡ x
        → x * 2 ^ 23 + w * 2 ^ 19 + v * 2 ^ 15 + u * 2 ^ 11 + t * 2 ^ 8 + s * 2 ^ 4 + r ≡ z
    sum a b c d e f r s t u v w x p q i j k l m = omega arith

reserved_back : (f : Fields) → Bounds f → reserved_of (nibbles_of f) ≡ f.reserved
unfolding nibbles_of sealed_of data_of
reserved_back f b =
    rw (above_bit (f.reserved / 2 ^ 23 % 8) f.rs_ack (omega arith) b.ack, above_bit (f.reserved / 2 ^ 8 % 8) f.gid (omega arith) b.gid)
    (digits f.reserved b.reserved)

pub fields_back : (f : Fields) → Bounds f → fields_of (nibbles_of f) ≡ f
unfolding fields_of nibbles_of sealed_of data_of
fields_back f b =
    λ i. record {
      epoch = byte_back f.epoch b.epoch i;
      word = record { 0 = word i };
      gid = gid i;
      mst = byte_back f.mst b.mst i;
      rs_ack = ack i;
      sq = byte_back f.sq b.sq i;
      reserved = reserved_back f b i;
    }
  where
    word : f.word.0 % 16 ≡ f.word.0
    word = omega arith

    gid : (f.reserved / 2 ^ 8 % 8 * 2 + f.gid) % 2 ≡ f.gid
    gid = omega arith

    ack : (f.reserved / 2 ^ 23 % 8 * 2 + f.rs_ack) % 2 ≡ f.rs_ack
    ack = omega arith

pub carried_back : (f : Fields) → carried_in (nibbles_of f) ≡ crc_of (take 14 (nibbles_of f))
unfolding carried_in nibbles_of sealed_of data_of
carried_back f = byte_back (crc_of (data_of f)) (crc_lt (data_of f))

pub nibbles_back : (f : Fields) → fitting f ≡ true → read_nibbles (nibbles_of f) ≡ Ok f
unfolding read_nibbles
nibbles_back f t =
    let b = bounds f t in
    rw (eq-eqb (crc_of (take 14 (nibbles_of f))) (carried_in (nibbles_of f)) (sym (carried_back f)), fields_back f b, b.not_fixed, b.word) refl

pub length_nibbles : (f : Fields) → length (nibbles_of f) ≡ 16
unfolding nibbles_of sealed_of data_of
length_nibbles f = refl

-- where a packet is written, the lent bytes are sixteen and its fields fit
pub record WrittenAs (f : Fields) (s : List ℕ) : Type 0 where
  pub fits : fitting f ≡ true
  pub bytes : write_bytes f s ≡ h4_of (nibbles_of f)

pub written_as : (f : Fields) (s : List ℕ) → write_answer f s ≡ Ok tt → WrittenAs f s
unfolding write_answer write_bytes
written_as f s e = go (length s == 16) (fitting f) refl refl
  where
    go : (l t : Bool) → (length s == 16) ≡ l → fitting f ≡ t → WrittenAs f s
    go true true hl ht = record { fits = ht; bytes = rw (hl, ht) refl }
    go true false hl ht = absurd (let z : ◌≡◌ {A = ℕ} 0 1 = (let w : Err Field ≡ Ok tt = rw (hl, ht) at e in cc) in omega arith)
    go false t hl ht = absurd (let z : ◌≡◌ {A = ℕ} 0 1 = (let w : Err Length ≡ Ok tt = rw hl at e in cc) in omega arith)

-- what is written reads back as given
pub written_back : (f : Fields) (s : List ℕ) → write_answer f s ≡ Ok tt → read_answer (write_bytes f s) ≡ Ok f
unfolding read_answer h4_of
written_back f s e =
    let w = written_as f s e in
    let b = bounds f w.fits in
    rw (w.bytes, highs_back (nibbles_of f) (packet_nibbles f b) (length_nibbles f)) (nibbles_back f w.fits)
