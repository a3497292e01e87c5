-- 'Any two different packets by these rules differ in at least four of 64 bits' (01, 'CRC'), over all 56 data bits.
use Rattle.std.specs.Prelude.{◌≡◌, ℕ, ◌*◌, ◌/◌, ◌%◌, ◌≤◌, List, [], ◌∷◌, ◌++◌, length, ◌≢◌, refl}
use Rattle.std.proofs.Common.{◌∙◌, sym, ap, append-nil, arith, lit<}
use Rattle.ground.specs.Bits.{bits}
use Rattle.ground.specs.Catching.{Catches, Strong, strong_catches}
use Rattle.ground.specs.Distance.{sealed_apart}
use Rattle.ground.specs.Polynomial.{bits_apart, sealed}
use Rattle.packet.specs.Bounds.{Bounds}
use Rattle.packet.specs.declared.layout.Fields.{Fields}
use Rattle.packet.specs.Crc.{bits_of, crc_of, divisor, nibble_bits}
use Rattle.packet.specs.Laws.Bytes.{bits_append, byte_back, byte_bits, crc_bits, crc_lt, length_bits_of}
use Rattle.packet.specs.Laws.Nibbles.{Nibbles, bits_tell, data_nibbles}
use Rattle.packet.specs.Layout.{data_of, fields_of, nibbles_of, sealed_of}
use Rattle.packet.specs.Theorems.ReadBack.{fields_back}

strong : Strong divisor 64
unfolding divisor
strong = record { firm = record { some = lit< tt; keeps = refl }; root = refl; powers = refl }

-- x^8+x^2+x+1 catches up to three changed bits of 64
pub catches_three : Catches divisor 64 4
catches_three = strong_catches divisor 64 strong

-- a packet's bits are its data bits with their check behind them
pub packet_bits : (d : List ℕ) → bits_of (sealed_of d) ≡ sealed divisor (bits_of d)
unfolding sealed_of
packet_bits d =
    bits_append d ((crc_of d / 16) ∷ (crc_of d % 16) ∷ [])
    ∙ ap (λ l. bits_of d ++ l)
    (ap (λ l. nibble_bits (crc_of d / 16) ++ l) (append-nil (nibble_bits (crc_of d % 16)))
    ∙ sym (byte_bits (crc_of d / 16) (crc_of d % 16))
    ∙ ap (λ (n : ℕ). bits 8 n) (byte_back (crc_of d) (crc_lt d))
    ∙ crc_bits d)

pub data_apart : (d e : List ℕ) → Nibbles d → Nibbles e → length d ≡ 14 → length e ≡ 14 → (d ≢ e) → 4 ≤ bits_apart (bits_of (sealed_of d)) (bits_of (sealed_of e))
unfolding divisor
data_apart d e nd ne hd he differ =
    rw (packet_bits d, packet_bits e)
    (sealed_apart divisor 64 4 catches_three (bits_of d) (bits_of e)
    (length_bits_of d ∙ ap (λ (n : ℕ). n * 4) (hd ∙ sym he) ∙ sym (length_bits_of e))
    (let h = length_bits_of d in omega arith)
    (λ same. differ (bits_tell d e nd ne (hd ∙ sym he) same)))

-- two packets of which some field or some reserved or zero bit differs
pub packets_apart : (f g : Fields) → Bounds f → Bounds g → (f ≢ g) → 4 ≤ bits_apart (bits_of (nibbles_of f)) (bits_of (nibbles_of g))
unfolding nibbles_of data_of
packets_apart f g bf bg differ =
    data_apart (data_of f) (data_of g) (data_nibbles f bf) (data_nibbles g bg) refl refl
    (λ same. differ (sym (fields_back f bf) ∙ ap (λ d. fields_of (sealed_of d)) same ∙ fields_back g bg))
