-- 'any 64 bits that read well are written again identically' (request 2026-08). The 64 bits are those of the high nibbles; where the low nibbles came as the count MFI1 of their places, the sixteen bytes are identical too.
use Rattle.std.specs.Prelude.{◌≡◌, ℕ, zero, suc, ◌+◌, ◌*◌, ◌/◌, ◌%◌, ◌^◌, ◌<◌, Bool, true, false, List, [], ◌∷◌, ◌++◌, length, take, ◌==◌, nat_eq, slice_index, slice_index_or, Ok, Err}
use Rattle.std.proofs.Math.Path.{refl, ap, ap₂}
use Rattle.std.proofs.Common.{◌∙◌, sym, arith, eq-eqb, eqb-true, lt-ltb}
use Rattle.ground.specs.Bits.{bits_mod, number}
use Rattle.ground.specs.Polynomial.{check}
use Rattle.ground.specs.Table.{tabulate, tabulate_ext, tabulate_self, get_or_tabulate}
use Rattle.packet.specs.Again.{Again, Counted}
use Rattle.packet.specs.declared.layout.Fields.{Fields}
use Rattle.packet.specs.declared.reader.Unread.TheVariants.{Length, Crc, Fixed, Unassigned}
use Rattle.packet.specs.Crc.{bits_of, crc_of, divisor, nibble_bits}
use Rattle.packet.specs.Laws.Bounds.{bounds}
use Rattle.packet.specs.Laws.Nibbles.{highs_back, packet_nibbles}
use Rattle.packet.specs.Layout.{byte_of, carried_in, data_of, fields_of, h4_of, highs_of, nibbles_of, reserved_of, sealed_of}
use Rattle.packet.specs.Reading.{read_answer, read_nibbles, reading_number, Reading}
use Rattle.packet.specs.Theorems.ReadBack.{length_nibbles, written_as}
use Rattle.packet.specs.Words.{FIXED, assigned}
use Rattle.packet.specs.Writing.{fitting, write_answer, write_bytes}

-- seven digits put together and taken apart
module _ (a b c d e f g : ℕ) (ha : a < 8) (hb : b < 16) (hc : c < 16) (hd : d < 16) (he : e < 8) (hf : f < 16) (hg : g < 16) where
  abbrev all : ℕ
  all = a * 2 ^ 23 + b * 2 ^ 19 + c * 2 ^ 15 + d * 2 ^ 11 + e * 2 ^ 8 + f * 2 ^ 4 + g

  digit_a : all / 2 ^ 23 % 8 ≡ a
  digit_a = omega arith

  digit_b : all / 2 ^ 19 % 16 ≡ b
  digit_b = omega arith

  digit_c : all / 2 ^ 15 % 16 ≡ c
  digit_c = omega arith

  digit_d : all / 2 ^ 11 % 16 ≡ d
  digit_d = omega arith

  digit_e : all / 2 ^ 8 % 8 ≡ e
  digit_e = omega arith

  digit_f : all / 2 ^ 4 % 16 ≡ f
  digit_f = omega arith

  digit_g : all % 16 ≡ g
  digit_g = omega arith

  all_lt : all < 2 ^ 26
  all_lt = omega arith

-- three bits beside a fourth
beside : (x n : ℕ) → x ≡ n % 16 / 2 → x * 2 + n % 2 ≡ n % 16
beside x n e = omega arith

byte_lt : (a b : ℕ) → byte_of a b < 256
byte_lt a b = omega arith

byte_high : (a b : ℕ) → byte_of a b / 16 ≡ a % 16
byte_high a b = omega arith

byte_low : (a b : ℕ) → byte_of a b % 16 ≡ b % 16
byte_low a b = omega arith

bits_low : (n : ℕ) (g : ℕ → ℕ) → bits_of (tabulate n (λ k. g k % 16)) ≡ bits_of (tabulate n g)
unfolding nibble_bits
bits_low zero g = refl
bits_low (suc n) g = ap₂ ◌++◌ (bits_mod 4 (g 0)) (bits_low n (λ k. g (suc k)))

-- sixteen numbers read as nibbles, each by its low four bits
module _ (g : ℕ → ℕ) where
  abbrev low : ℕ → ℕ
  low k = g k % 16

  abbrev top : ℕ → ℕ
  top k = g k % 16 / 2

  low_lt : (k : ℕ) → low k < 16
  low_lt k = omega arith

  top_lt : (k : ℕ) → top k < 8
  top_lt k = omega arith

  -- the data nibbles of the fields that they carry are they themselves
  data_again : data_of (fields_of (tabulate 16 g)) ≡ tabulate 14 low
  unfolding data_of fields_of
  data_again =
      λ i. byte_high (g 0) (g 1) i
      ∷ byte_low (g 0) (g 1) i
      ∷ beside _ (g 2) (digit_a (top 2) (low 3) (low 4) (low 5) (top 11) (low 12) (low 13) (top_lt 2) (low_lt 3) (low_lt 4) (low_lt 5) (top_lt 11) (low_lt 12) (low_lt 13)) i
      ∷ digit_b (top 2) (low 3) (low 4) (low 5) (top 11) (low 12) (low 13) (top_lt 2) (low_lt 3) (low_lt 4) (low_lt 5) (top_lt 11) (low_lt 12) (low_lt 13) i
      ∷ digit_c (top 2) (low 3) (low 4) (low 5) (top 11) (low 12) (low 13) (top_lt 2) (low_lt 3) (low_lt 4) (low_lt 5) (top_lt 11) (low_lt 12) (low_lt 13) i
      ∷ digit_d (top 2) (low 3) (low 4) (low 5) (top 11) (low 12) (low 13) (top_lt 2) (low_lt 3) (low_lt 4) (low_lt 5) (top_lt 11) (low_lt 12) (low_lt 13) i
      ∷ byte_high (g 6) (g 7) i
      ∷ byte_low (g 6) (g 7) i
      ∷ byte_high (g 8) (g 9) i
      ∷ byte_low (g 8) (g 9) i
      ∷ low 10
      ∷ beside _ (g 11) (digit_e (top 2) (low 3) (low 4) (low 5) (top 11) (low 12) (low 13) (top_lt 2) (low_lt 3) (low_lt 4) (low_lt 5) (top_lt 11) (low_lt 12) (low_lt 13)) i
      ∷ digit_f (top 2) (low 3) (low 4) (low 5) (top 11) (low 12) (low 13) (top_lt 2) (low_lt 3) (low_lt 4) (low_lt 5) (top_lt 11) (low_lt 12) (low_lt 13) i
      ∷ digit_g (top 2) (low 3) (low 4) (low 5) (top 11) (low 12) (low 13) (top_lt 2) (low_lt 3) (low_lt 4) (low_lt 5) (top_lt 11) (low_lt 12) (low_lt 13) i
      ∷ []

  crc_again : crc_of (tabulate 14 low) ≡ crc_of (tabulate 14 g)
  unfolding crc_of
  crc_again = ap (λ l. number (check divisor l)) (bits_low 14 g)

  -- and under a right CRC all sixteen are
  nibbles_again : crc_of (tabulate 14 g) ≡ byte_of (g 14) (g 15) → nibbles_of (fields_of (tabulate 16 g)) ≡ tabulate 16 low
  unfolding nibbles_of sealed_of
  nibbles_again right =
      ap sealed_of data_again
      ∙ ap (λ (c : ℕ). tabulate 14 low ++ ((c / 16) ∷ (c % 16) ∷ [])) (crc_again ∙ right)
      ∙ ap₂ (λ (a b : ℕ). tabulate 14 low ++ (a ∷ b ∷ [])) (byte_high (g 14) (g 15)) (byte_low (g 14) (g 15))

  reserved_lt : reserved_of (tabulate 16 g) < 2 ^ 26
  reserved_lt = all_lt (top 2) (low 3) (low 4) (low 5) (top 11) (low 12) (low 13) (top_lt 2) (low_lt 3) (low_lt 4) (low_lt 5) (top_lt 11) (low_lt 12) (low_lt 13)

-- What it says that sixteen H4 bytes read as a packet.
record Reads (s : List ℕ) (f : Fields) : Type 0 where
  sized : length s ≡ 16
  right : crc_of (take 14 (highs_of s)) ≡ carried_in (highs_of s)
  is : fields_of (highs_of s) ≡ f
  not_fixed : nat_eq (fields_of (highs_of s)).word.0 FIXED ≡ false
  known : assigned (fields_of (highs_of s)).word ≡ true

fields_in : Fields → Reading → Fields
fields_in g (Ok f) = f
fields_in g (Err u) = g

reads : (s : List ℕ) (f : Fields) → read_answer s ≡ Ok f → Reads s f
unfolding read_answer read_nibbles fields_in
reads s f e = go (length s == 16) (crc_of (take 14 (highs_of s)) == carried_in (highs_of s)) ((fields_of (highs_of s)).word.0 == FIXED) (assigned (fields_of (highs_of s)).word) refl refl refl refl
  where
    go : (l c x a : Bool) → (length s == 16) ≡ l → (crc_of (take 14 (highs_of s)) == carried_in (highs_of s)) ≡ c → ((fields_of (highs_of s)).word.0 == FIXED) ≡ x → assigned (fields_of (highs_of s)).word ≡ a → Reads s f
    go true true false true hl hc hx ha =
        record {
          sized = eqb-true (length s) 16 hl;
          right = eqb-true (crc_of (take 14 (highs_of s))) (carried_in (highs_of s)) hc;
          is = let w : Ok (fields_of (highs_of s)) ≡ Ok f = rw (hl, hc, hx, ha) at e in ap (fields_in f) w;
          not_fixed = hx;
          known = ha;
        }
    go true true false false hl hc hx ha = absurd (let w : Err Unassigned ≡ Ok f = rw (hl, hc, hx, ha) at e in let n = ap reading_number w in omega arith)
    go true true true a hl hc hx ha = absurd (let w : Err Fixed ≡ Ok f = rw (hl, hc, hx) at e in let n = ap reading_number w in omega arith)
    go true false x a hl hc hx ha = absurd (let w : Err Crc ≡ Ok f = rw (hl, hc) at e in let n = ap reading_number w in omega arith)
    go false c x a hl hc hx ha = absurd (let w : Err Length ≡ Ok f = rw hl at e in let n = ap reading_number w in omega arith)

-- the fields of such a packet fit: nobody need ask before he writes them
fields_fit : (s : List ℕ) → ((fields_of (highs_of s)).word.0 == FIXED) ≡ false → assigned (fields_of (highs_of s)).word ≡ true → fitting (fields_of (highs_of s)) ≡ true
unfolding fitting fields_of highs_of
fields_fit s w a =
    rw (
      lt-ltb (byte_of (h 8) (h 9)) 256 (byte_lt (h 8) (h 9)),
      lt-ltb (byte_of (h 0) (h 1)) 256 (byte_lt (h 0) (h 1)),
      lt-ltb (byte_of (h 6) (h 7)) 256 (byte_lt (h 6) (h 7)),
      lt-ltb (h 11 % 2) 2 (omega arith),
      lt-ltb (h 2 % 2) 2 (omega arith),
      lt-ltb (reserved_of (tabulate 16 h)) (2 ^ 26) (reserved_lt h),
      w,
      a,
    ) refl
  where
    h : ℕ → ℕ
    h k = slice_index s k / 16

module _ (s t : List ℕ) (f : Fields) (e : read_answer s ≡ Ok f) (room : length t ≡ 16) where
  read : Reads s f
  read = reads s f e

  fit : fitting f ≡ true
  fit = rw read.is at (fields_fit s read.not_fixed read.known)

  done : write_answer f t ≡ Ok tt
  unfolding write_answer
  done = rw (eq-eqb (length t) 16 room, fit) refl

  same : nibbles_of f ≡ tabulate 16 (λ k. slice_index s k / 16 % 16)
  unfolding highs_of carried_in
  same = ap nibbles_of (sym read.is) ∙ nibbles_again (λ k. slice_index s k / 16) read.right

  pub again : Again s t f
  unfolding highs_of
  again =
      record {
        answer = done;
        bits =
            ap (λ l. bits_of (highs_of l)) (written_as f t done).bytes
            ∙ ap bits_of (highs_back (nibbles_of f) (packet_nibbles f (bounds f fit)) (length_nibbles f) ∙ same)
            ∙ bits_low 16 (λ k. slice_index s k / 16);
      }

  -- the low nibbles as the frames count
  pub again_bytes : Counted s → write_bytes f t ≡ s
  unfolding h4_of
  again_bytes c =
      (written_as f t done).bytes
      ∙ ap h4_of same
      ∙ tabulate_ext 16 _ (λ k. slice_index s k) at
      ∙ ap (λ (n : ℕ). tabulate n (λ k. slice_index s k)) (sym read.sized)
      ∙ tabulate_self s 0
    where
      at : (k : ℕ) → k < 16 → slice_index (tabulate 16 (λ i. slice_index s i / 16 % 16)) k % 16 * 16 + (k + 8) % 16 ≡ slice_index s k
      at k b =
          let x : slice_index_or s k 0 < 256 = c.byte k b in
          let y : slice_index_or s k 0 % 16 ≡ (k + 8) % 16 = c.count k b in
          rw (get_or_tabulate 16 (λ i. slice_index s i / 16 % 16) k 0 b) (omega arith)
