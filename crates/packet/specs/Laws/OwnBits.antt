-- A packet whose frames count as the tags of an epoch say carries that epoch's number. Of VC-12 it is enough that the first five have the bits of the number.
use Rattle.std.specs.Prelude.{◌≡◌, ℕ, ◌+◌, ◌-◌, ◌*◌, ◌/◌, ◌%◌, ◌^◌, ◌<◌, true, false, List, ◌==◌, refl}
use Rattle.std.proofs.Common.{sym, ap, ◌∙◌, mod-eq_of_lt, arith}
use Rattle.ground.specs.Bits.{number_bits, odd}
use Rattle.packet.specs.Counts.{counts, h4_counts, told_bits}
use Rattle.packet.specs.Kinds.{epochs, first_tag, frames, lead, tag_of, tags, vc12_kind}
use Rattle.packet.specs.Laws.Clock.{by_kind, h4_clock}
use Rattle.packet.specs.Laws.Counting.{counts_bit, counts_h4, counts_high, counts_low, counts_vc12}
use Rattle.packet.specs.Layout.{fields_of}
use Rattle.packet.specs.Ruling.{fields_in}
use Rattle.packet.specs.Symbols.{entry_from, row_from}
use Rattle.packet.specs.Vc12.{row_bits, vc12_fields}

-- the fields of H4's packets
pub h4_fields : (kind : ℕ) (row : List ℕ) → (kind == vc12_kind) ≡ false → fields_in kind row ≡ fields_of row
unfolding fields_in
h4_fields kind row clock = rw clock refl

-- the byte of the frame with a tag has its bit of the epoch's number, where it carries one
pub record OwnBit (tag h : ℕ) : Type 0 where
  pub bit : tag % 32 < 5 → h % 2 ≡ told_bits (tag % 1024 / 32) (tag % 32) % 2

high : (a b n : ℕ) → a % 2 ≡ n % 2 → odd ((a % 2 * 2 + b % 2) / 2) ≡ odd n
high a b n e = let same : (a % 2 * 2 + b % 2) / 2 % 2 ≡ n % 2 = omega arith in rw same refl

low : (a b n : ℕ) → b % 2 ≡ n % 2 → odd ((a % 2 * 2 + b % 2) / 1) ≡ odd n
low a b n e = let same : (a % 2 * 2 + b % 2) / 1 % 2 ≡ n % 2 = omega arith in rw same refl

five : (f : ℕ → ℕ) (e : ℕ) → ((k : ℕ) → k < 5 → f k % 2 ≡ told_bits e k % 2) → (fields_in vc12_kind (row_from vc12_kind f)).epoch ≡ e % 2 ^ 5
unfolding fields_in vc12_fields row_bits row_from entry_from told_bits
five f e own =
    rw (high (f 0) (f 1) (e / 2 ^ 4) (own 0 (omega arith)), low (f 0) (f 1) (e / 2 ^ 3) (own 1 (omega arith)), high (f 2) (f 3) (e / 2 ^ 2) (own 2 (omega arith)), low (f 2) (f 3) (e / 2 ^ 1) (own 3 (omega arith)), high (f 4) (f 5) (e / 2 ^ 0) (own 4 (omega arith)))
    (number_bits 5 e)

-- of all frames of an epoch
pub own_read : (f : ℕ → ℕ) (e : ℕ) → e < 32 → ((k : ℕ) → k < 32 → OwnBit (tag_of vc12_kind (first_tag vc12_kind e + k)) (f k)) → (fields_in vc12_kind (row_from vc12_kind f)).epoch ≡ e
unfolding first_tag tags frames lead
own_read f e small own = five f e at ∙ mod-eq_of_lt small
  where
    place : (k : ℕ) → k < 5 → ((e * 32 + 1024) % 1024 + k) % 1024 % 32 ≡ k
    place k l = omega arith

    epoch : (k : ℕ) → k < 5 → ((e * 32 + 1024) % 1024 + k) % 1024 % 1024 / 32 ≡ e
    epoch k l = omega arith

    at : (k : ℕ) → k < 5 → f k % 2 ≡ told_bits e k % 2
    at k l =
        let b : f k % 2 ≡ told_bits (((e * 32 + 1024) % 1024 + k) % 1024 % 1024 / 32) (((e * 32 + 1024) % 1024 + k) % 1024 % 32) % 2 = (own k (omega arith)).bit (rw (place k l) l) in
        rw (place k l, epoch k l) at b

-- Of H4 it is enough that the two frames with MFI2 count.

epoch_in : (kind : ℕ) (f : ℕ → ℕ) → (kind == vc12_kind) ≡ false → (fields_in kind (row_from kind f)).epoch ≡ f 8 / 16 % 16 * 16 + f 9 / 16 % 16
unfolding fields_in fields_of row_from entry_from
epoch_in kind f clock = rw clock refl

two_nibbles : (e a b : ℕ) → e < 256 → h4_counts (16 * e) a ≡ true → h4_counts (16 * e + 1) b ≡ true → a / 16 % 16 * 16 + b / 16 % 16 ≡ e
two_nibbles e a b small one two =
    let high : a / 16 ≡ 16 * e / 256 % 16 = counts_high (16 * e) a one (omega arith) in
    let low : b / 16 ≡ (16 * e + 1) / 16 % 16 = counts_low (16 * e + 1) b two (omega arith) in
    let first : 16 * e / 256 ≡ e / 16 = omega arith in
    let second : (16 * e + 1) / 16 ≡ e = omega arith in
    rw (high, low, first, second) (omega arith)

own_h4 : (kind : ℕ) (f : ℕ → ℕ) (e : ℕ) → (kind == vc12_kind) ≡ false → e < epochs kind → ((k : ℕ) → k < frames kind → counts kind (tag_of kind (first_tag kind e + k)) (f k) ≡ true)
    → (fields_in kind (row_from kind f)).epoch ≡ e
unfolding first_tag
own_h4 kind f e clock small all =
    epoch_in kind f clock
    ∙ h4_clock
    (λ L E N l. e < E → ((k : ℕ) → k < L → h4_counts (((e * L + (N - l)) % N + k) % N) (f k) ≡ true) → f 8 / 16 % 16 * 16 + f 9 / 16 % 16 ≡ e)
    (λ b own.
    let high : 16 * e ≡ ((e * 16 + (4096 - 8)) % 4096 + 8) % 4096 = omega arith in
    let low : 16 * e + 1 ≡ ((e * 16 + (4096 - 8)) % 4096 + 9) % 4096 = omega arith in
    two_nibbles e (f 8) (f 9) b (ap (λ (t : ℕ). h4_counts t (f 8)) high ∙ own 8 (omega arith)) (ap (λ (t : ℕ). h4_counts t (f 9)) low ∙ own 9 (omega arith)))
    kind clock small (λ k l. sym (counts_h4 kind (tag_of kind (first_tag kind e + k)) (f k) clock) ∙ all k l)

own_vc12 : (f : ℕ → ℕ) (e : ℕ) → e < epochs vc12_kind → ((k : ℕ) → k < frames vc12_kind → counts vc12_kind (tag_of vc12_kind (first_tag vc12_kind e + k)) (f k) ≡ true)
    → (fields_in vc12_kind (row_from vc12_kind f)).epoch ≡ e
unfolding epochs frames
own_vc12 f e small all =
    own_read f e small
    (λ k l.
    let t : ℕ = tag_of vc12_kind (first_tag vc12_kind e + k) in
    record { bit = counts_bit t (f k) (sym (counts_vc12 t (f k)) ∙ all k l) })

pub own_counted : (kind : ℕ) (f : ℕ → ℕ) (e : ℕ) → e < epochs kind → ((k : ℕ) → k < frames kind → counts kind (tag_of kind (first_tag kind e + k)) (f k) ≡ true)
    → (fields_in kind (row_from kind f)).epoch ≡ e
own_counted kind f e =
    by_kind (λ n. e < epochs n → ((k : ℕ) → k < frames n → counts n (tag_of n (first_tag n e + k)) (f k) ≡ true) → (fields_in n (row_from n f)).epoch ≡ e)
    (λ small all. own_vc12 f e small all) (λ n clock small all. own_h4 n f e clock small all) kind
