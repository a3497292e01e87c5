-- A written packet with one to three of its 64 bits changed is refused with 5. The low nibbles of the sixteen H4 bytes may be any.
use Rattle.std.specs.Prelude.{◌≡◌, ℕ, ◌*◌, ◌<◌, ◌≤◌, List, [], ◌∷◌, ◌++◌, length, take, slice_index, refl, Ok, Err}
use Rattle.std.proofs.Common.{◌∙◌, sym, ap, append-nil, arith, eq-eqb, ne_eqb, take-append-drop, drop_of_length-le, drop-cons, length-take-le}
use Rattle.ground.specs.Bits.{bits}
use Rattle.ground.specs.Distance.{caught}
use Rattle.ground.specs.Polynomial.{bits_apart, check}
use Rattle.packet.specs.declared.layout.Fields.{Fields}
use Rattle.packet.specs.declared.reader.Unread.TheVariants.{Crc}
use Rattle.packet.specs.Changes.{changed_bits}
use Rattle.packet.specs.Crc.{bits_of, crc_of, divisor, nibble_bits}
use Rattle.packet.specs.Laws.Bounds.{bounds}
use Rattle.packet.specs.Laws.Bytes.{bits_append, byte_bits, crc_bits, length_bits_of}
use Rattle.packet.specs.Laws.Nibbles.{highs_back, packet_nibbles}
use Rattle.packet.specs.Layout.{byte_of, carried_in, data_of, highs_of, nibbles_of, sealed_of}
use Rattle.packet.specs.Reading.{read_answer, read_nibbles}
use Rattle.packet.specs.Theorems.Distance.{catches_three, packet_bits}
use Rattle.packet.specs.Theorems.ReadBack.{length_nibbles, written_as}
use Rattle.packet.specs.Writing.{write_answer, write_bytes}

-- where the CRC fits, the last two nibbles are the check of the fourteen before them
fitted : (a b : ℕ) (d : List ℕ) → crc_of d ≡ byte_of a b → check divisor (bits_of d) ≡ nibble_bits a ++ nibble_bits b
fitted a b d e = sym (crc_bits d) ∙ ap (λ (n : ℕ). bits 8 n) e ∙ byte_bits a b

last_two : (ns : List ℕ) → length ns ≡ 16 → ns ≡ take 14 ns ++ (slice_index ns 14 ∷ slice_index ns 15 ∷ [])
last_two ns h =
    sym (take-append-drop 14 ns)
    ∙ ap (λ l. take 14 ns ++ l)
    (drop-cons ns 14 0 (omega arith)
    ∙ ap (λ l. slice_index ns 14 ∷ l) (drop-cons ns 15 0 (omega arith) ∙ ap (λ l. slice_index ns 15 ∷ l) (drop_of_length-le ns {i = 16} (omega arith))))

-- sixteen nibbles that differ from a packet's in one to three bits
pub nibbles_damaged : (d ns : List ℕ) → length d ≡ 14 → length ns ≡ 16
    → 1 ≤ bits_apart (bits_of (sealed_of d)) (bits_of ns) → bits_apart (bits_of (sealed_of d)) (bits_of ns) ≤ 3 → read_nibbles ns ≡ Err Crc
unfolding divisor nibble_bits read_nibbles carried_in
nibbles_damaged d ns hd hn low high = rw (ne_eqb (crc_of (take 14 ns)) (byte_of a b) refused) refl
  where
    a : ℕ
    a = slice_index ns 14

    b : ℕ
    b = slice_index ns 15

    front : length (take 14 ns) ≡ 14
    front = length-take-le 14 ns (omega arith)

    tail : bits_of ns ≡ bits_of (take 14 ns) ++ (nibble_bits a ++ nibble_bits b)
    tail =
        ap bits_of (last_two ns hn)
        ∙ bits_append (take 14 ns) (a ∷ b ∷ [])
        ∙ ap (λ l. bits_of (take 14 ns) ++ (nibble_bits a ++ l)) (append-nil (nibble_bits b))

    refused : crc_of (take 14 ns) ≡ byte_of a b → ⊥
    refused same =
        caught divisor 64 4 catches_three (bits_of d) (bits_of (take 14 ns)) (nibble_bits a ++ nibble_bits b)
        (length_bits_of d ∙ ap (λ (n : ℕ). n * 4) (hd ∙ sym front) ∙ sym (length_bits_of (take 14 ns))) refl
        (let h = length_bits_of d in omega arith)
        (rw (packet_bits d, tail) at low) (let few : bits_apart (bits_of (sealed_of d)) (bits_of ns) < 4 = omega arith in rw (packet_bits d, tail) at few) (fitted a b (take 14 ns) same)

pub sent : (f : Fields) (s : List ℕ) → write_answer f s ≡ Ok tt → highs_of (write_bytes f s) ≡ sealed_of (data_of f)
unfolding nibbles_of
sent f s e =
    let w = written_as f s e in
    ap highs_of w.bytes ∙ highs_back (nibbles_of f) (packet_nibbles f (bounds f w.fits)) (length_nibbles f)

pub length_highs : (s : List ℕ) → length (highs_of s) ≡ 16
unfolding highs_of
length_highs s = refl

pub length_data : (f : Fields) → length (data_of f) ≡ 14
unfolding data_of
length_data f = refl

pub damaged : (f : Fields) (s came : List ℕ) → write_answer f s ≡ Ok tt → length came ≡ 16
    → 1 ≤ changed_bits (write_bytes f s) came → changed_bits (write_bytes f s) came ≤ 3 → read_answer came ≡ Err Crc
unfolding read_answer
damaged f s came e h low high =
    rw (eq-eqb (length came) 16 h)
    (nibbles_damaged (data_of f) (highs_of came) (length_data f) (length_highs came) (rw (sent f s e) at low) (rw (sent f s e) at high))
