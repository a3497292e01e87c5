-- A VC-12 packet as one number of 32 bits, as the code has it, and each way out of its functions.
use Rattle.std.proofs.Common.{◌≡◌, ℕ, suc, ◌+◌, ◌-◌, ◌*◌, ◌/◌, ◌%◌, ◌^◌, ◌<◌, ◌≤◌, Bool, true, false, cond, eqb, ◌≢◌, List, [], ◌∷◌, length, get_or, take, drop, set, sym, refl, ap, ◌∙◌, ap₂, lt_of_lt_of_le, mod-eq_of_lt, add-one, arith, pow_mono, eq-eqb, ne_eqb, eqb-true, Ok, Err}
use lib.Bits.{bit_xor}
use Rattle.ground.specs.Bits.{bit_number, bits, bits_number, bits_part, get_or_bits, number, number_bits, number_lt, number_more, odd}
use Rattle.ground.specs.Division.{length_bring}
use Rattle.ground.specs.Drawn.{Filling, filling, filling_more}
use Rattle.ground.specs.Finite.{below, below_at}
use Rattle.ground.specs.Polynomial.{bring, remainder, zeros}
use Rattle.ground.specs.Table.{length_tabulate, tabulate, tabulate_suc}
use Rattle.packet.specs.declared.layout.Fields.{Fields}
use Rattle.packet.specs.declared.reader.Unread.TheVariants.{Crc, Length}
use Rattle.packet.specs.declared.writer.Unwritten.TheVariants.{Field, Length as Short}
use Rattle.packet.specs.Laws.Vc12.{left_lt, left_none, left_some, left_of, length_data, length_lowest, length_row, right_read, wrong_read}
use Rattle.packet.specs.Reading.{read_fields, Reading}
use Rattle.packet.specs.Vc12.{frame_byte, lowest_of, read_vc12_answer, read_vc12_bits, read_vc12_row, row_bits, vc12_bits, vc12_bytes, vc12_data, vc12_divisor, vc12_fields, vc12_fits, write_vc12_answer, write_vc12_bytes}

-- One bit brought down: the remainder and the bit are tried out, eight numbers and two.

abbrev with_top : Bool → ℕ → ℕ → ℕ
with_top b x y = number (bring vc12_divisor (b ∷ odd (x / 2) ∷ odd (x / 1) ∷ []) (odd y))

ones : below 4 (λ x. below 2 (λ y. eqb (bit_xor (x * 2 + y) 3) (with_top true x y))) ≡ true
unfolding vc12_divisor
ones = refl

nones : below 4 (λ x. below 2 (λ y. eqb (x * 2 + y) (with_top false x y))) ≡ true
unfolding vc12_divisor
nones = refl

-- the three bits of a remainder, and the one brought down, are those of what the code keeps of them
top_of : (b : Bool) (left bit : ℕ) → odd (left / 4) ≡ b → with_top b (left % 4) (bit % 2) ≡ number (bring vc12_divisor (bits 3 left) (odd bit))
top_of b left bit e =
    λ i. number (bring vc12_divisor (sym e i ∷ eqb (second i) 1 ∷ eqb (third i) 1 ∷ []) (eqb (last i) 1))
  where
    second : left % 4 / 2 % 2 ≡ left / 2 % 2
    second = omega arith

    third : left % 4 / 1 % 2 ≡ left / 1 % 2
    third = omega arith

    last : bit % 2 % 2 ≡ bit % 2
    last = omega arith

pub brought_one : (left bit : ℕ) → left / 4 % 2 ≡ 1 → bit_xor (left % 4 * 2 + bit % 2) 3 ≡ number (bring vc12_divisor (bits 3 left) (odd bit))
brought_one left bit e =
    eqb-true (bit_xor (left % 4 * 2 + bit % 2) 3) (with_top true (left % 4) (bit % 2))
    (below_at 2 (λ y. eqb (bit_xor (left % 4 * 2 + y) 3) (with_top true (left % 4) y))
    (below_at 4 (λ x. below 2 (λ y. eqb (bit_xor (x * 2 + y) 3) (with_top true x y))) ones (left % 4) (omega arith)) (bit % 2) (omega arith))
    ∙ top_of true left bit (eq-eqb (left / 4 % 2) 1 e)

pub brought_none : (left bit : ℕ) → left / 4 % 2 ≢ 1 → left % 4 * 2 + bit % 2 ≡ number (bring vc12_divisor (bits 3 left) (odd bit))
brought_none left bit d =
    eqb-true (left % 4 * 2 + bit % 2) (with_top false (left % 4) (bit % 2))
    (below_at 2 (λ y. eqb (left % 4 * 2 + y) (with_top false (left % 4) y))
    (below_at 4 (λ x. below 2 (λ y. eqb (x * 2 + y) (with_top false x y))) nones (left % 4) (omega arith)) (bit % 2) (omega arith))
    ∙ top_of false left bit (ne_eqb (left / 4 % 2) 1 d)

-- The division, from the highest bit down.

abbrev pub Divided : ℕ → ℕ → ℕ → Type 0
Divided n k left = (left < 8) × (remainder vc12_divisor (bits 3 left) (bits k n) ≡ remainder vc12_divisor (zeros 3) (bits 32 n))

pub divided_none : (n : ℕ) → Divided n 32 0
divided_none n = (omega arith, refl)

length_brought : (r : List Bool) (b : Bool) → length r ≡ 3 → length (bring vc12_divisor r b) ≡ 3
unfolding vc12_divisor
length_brought r b h = length_bring vc12_divisor r b (sym h)

pub divided_more : (n k left bit r : ℕ) → 0 < k → bit ≡ n / 2 ^ (k - 1) % 2 → r ≡ number (bring vc12_divisor (bits 3 left) (odd bit)) → Divided n k left → Divided n (k - 1) r
divided_more n k left bit r some is e inv =
    (let low = number_lt next in let w : 2 ^ length next ≡ 8 = ap (λ (m : ℕ). 2 ^ m) sized in omega arith, ap (λ (l : List Bool). remainder vc12_divisor l (bits (k - 1) n)) brought ∙ sym down ∙ inv.1)
  where
    next : List Bool
    next = bring vc12_divisor (bits 3 left) (odd bit)

    sized : length next ≡ 3
    sized = length_brought (bits 3 left) (odd bit) refl

    brought : bits 3 r ≡ next
    brought = ap (bits 3) e ∙ ap (λ (m : ℕ). bits m (number next)) (sym sized) ∙ bits_number next

    first : odd bit ≡ odd (n / 2 ^ (k - 1))
    first = let same : bit % 2 ≡ n / 2 ^ (k - 1) % 2 = omega arith in ap (λ (m : ℕ). eqb m 1) same

    down : remainder vc12_divisor (bits 3 left) (bits k n) ≡ remainder vc12_divisor next (bits (k - 1) n)
    down =
        let s : k ≡ suc (k - 1) = omega arith in
        ap (λ (m : ℕ). remainder vc12_divisor (bits 3 left) (bits m n)) s ∙ ap (λ (b : Bool). remainder vc12_divisor (bring vc12_divisor (bits 3 left) b) (bits (k - 1) n)) (sym first)

pub divided_all : (n k left : ℕ) → k ≤ 0 → Divided n k left → left ≡ left_of n
unfolding left_of
divided_all n k left none inv =
    let z : k ≡ 0 = omega arith in
    let low : left < 8 = inv.0 in
    sym (number_bits 3 left ∙ mod-eq_of_lt low) ∙ ap number (ap (λ (m : ℕ). remainder vc12_divisor (bits 3 left) (bits m n)) (sym z) ∙ inv.1)

-- The fields of a number.

pub fields_are : (n : ℕ) → n < 2 ^ 32
    → record { epoch = n / 2 ^ 27; word = record { 0 = n / 2 ^ 17 % 16 }; gid = n / 2 ^ 16 % 2; mst = n / 2 ^ 3 % 256; rs_ack = n / 2 ^ 11 % 2; sq = n / 2 ^ 21 % 64; reserved = n / 2 ^ 12 % 16 } ≡ vc12_fields (bits 32 n)
unfolding vc12_fields
fields_are n h =
    λ i. record {
      epoch = epoch i;
      word = record { 0 = sym (bits_part 11 4 17 n) i };
      gid = sym (bits_part 15 1 16 n) i;
      mst = sym (bits_part 21 8 3 n) i;
      rs_ack = sym (bits_part 20 1 11 n) i;
      sq = sym (bits_part 5 6 21 n) i;
      reserved = sym (bits_part 16 4 12 n) i;
    }
  where
    top : n / 2 ^ 27 % 32 ≡ n / 2 ^ 27
    top = omega arith

    epoch : n / 2 ^ 27 ≡ number (take 5 (drop 0 (bits 32 n)))
    epoch = sym (bits_part 0 5 27 n ∙ top)

-- Reading.

pub read_wrong : (n left : ℕ) → left ≡ left_of n → left ≢ 0 → Err Crc ≡ read_vc12_bits (bits 32 n)
read_wrong n left e d = sym (wrong_read (bits 32 n) (λ same. d (e ∙ left_some n same)))

pub read_right : (n left : ℕ) (f : Fields) (r : Reading) → left ≡ left_of n → left ≡ 0 → f ≡ vc12_fields (bits 32 n) → r ≡ read_fields f → r ≡ read_vc12_bits (bits 32 n)
read_right n left f r e z is h = h ∙ ap read_fields is ∙ sym (right_read (bits 32 n) (left_none n (sym e ∙ z)))

bits_again : (l : List Bool) → length l ≡ 32 → bits 32 (number l) ≡ l
bits_again l h = ap (λ (k : ℕ). bits k (number l)) (sym h) ∙ bits_number l

pub read_bytes : (s : List ℕ) (n : ℕ) (r : Reading) → length s ≡ 32 → n ≡ number (lowest_of s) → r ≡ read_vc12_bits (bits 32 n) → r ≡ read_vc12_answer s
unfolding read_vc12_answer
read_bytes s n r h e is = rw (eq-eqb (length s) 32 h) (is ∙ ap (λ (m : ℕ). read_vc12_bits (bits 32 m)) e ∙ ap read_vc12_bits (bits_again (lowest_of s) (length_lowest s)))

pub read_length : (s : List ℕ) → (length s ≡ 32 → ⊥) → Err Length ≡ read_vc12_answer s
unfolding read_vc12_answer
read_length s d = rw (ne_eqb (length s) 32 d) refl

pub read_row_lem : (row : List ℕ) (n : ℕ) (r : Reading) → n ≡ number (row_bits row) → r ≡ read_vc12_bits (bits 32 n) → r ≡ read_vc12_row row
unfolding read_vc12_row
read_row_lem row n r e is = is ∙ ap (λ (m : ℕ). read_vc12_bits (bits 32 m)) e ∙ ap read_vc12_bits (bits_again (row_bits row) (length_row row))

-- Bits put together to a number, from the first on.

pub spelt_lt : (f : ℕ → Bool) (n k j : ℕ) → n ≡ number (tabulate k f) → k ≤ j → n < 2 ^ j
spelt_lt f n k j e l =
    let low : number (tabulate k f) < 2 ^ k = rw (length_tabulate k f) at (number_lt (tabulate k f)) in
    rw e (lt_of_lt_of_le low (pow_mono l))

pub spelt_more : (f : ℕ → Bool) (n k b : ℕ) → n ≡ number (tabulate k f) → f k ≡ odd b → n * 2 + b % 2 ≡ number (tabulate (k + 1) f)
spelt_more f n k b e is =
    ap₂ (λ (x y : ℕ). x * 2 + y) e (sym (bit_number b) ∙ ap (λ (c : Bool). cond c 1 0) (sym is))
    ∙ sym (number_more (tabulate k f) (f k))
    ∙ ap number (sym (tabulate_suc k f))
    ∙ ap (λ (m : ℕ). number (tabulate m f)) (sym (add-one k))

abbrev pub entry_bit : List ℕ → ℕ → Bool
entry_bit row k = odd (get_or row (k / 2) 0 / 2 ^ (1 - k % 2))

pub entry_more : (row : List ℕ) (n k : ℕ) → n ≡ number (tabulate (k * 2) (entry_bit row)) → n * 4 + get_or row k 0 % 4 ≡ number (tabulate ((k + 1) * 2) (entry_bit row))
entry_more row n k e =
    let v : ℕ = get_or row k 0 in
    let one : n * 2 + get_or row k 0 / 2 % 2 ≡ number (tabulate (k * 2 + 1) (entry_bit row)) = spelt_more (entry_bit row) n (k * 2) (get_or row k 0 / 2) e first in
    let two = spelt_more (entry_bit row) (n * 2 + get_or row k 0 / 2 % 2) (k * 2 + 1) (get_or row k 0) one second in
    let sum : n * 4 + get_or row k 0 % 4 ≡ (n * 2 + get_or row k 0 / 2 % 2) * 2 + get_or row k 0 % 2 = omega arith in
    let m : k * 2 + 1 + 1 ≡ (k + 1) * 2 = omega arith in
    sum ∙ two ∙ ap (λ (j : ℕ). number (tabulate j (entry_bit row))) m
  where
    first : entry_bit row (k * 2) ≡ odd (get_or row k 0 / 2)
    first = let a : k * 2 / 2 ≡ k = omega arith in let b : 1 - k * 2 % 2 ≡ 1 = omega arith in rw (a, b) refl

    second : entry_bit row (k * 2 + 1) ≡ odd (get_or row k 0)
    second = let a : (k * 2 + 1) / 2 ≡ k = omega arith in let b : 1 - (k * 2 + 1) % 2 ≡ 0 = omega arith in rw (a, b) (ap odd (let c : get_or row k 0 / 1 ≡ get_or row k 0 = omega arith in c))

-- Writing.

pub data_lt : (f : Fields) (n : ℕ) → n ≡ number (vc12_data f) → n < 2 ^ 29
data_lt f n e = rw e (rw (length_data f) at (number_lt (vc12_data f)))

pub sealed_lt : (f : Fields) (n c : ℕ) → n ≡ number (vc12_data f) → c ≡ left_of (n * 8) → n * 8 + c < 2 ^ 32
sealed_lt f n c e h = let low = data_lt f n e in let few : c < 8 = rw h (left_lt (n * 8)) in omega arith

byte_is : (n k : ℕ) → k < 32 → cond (get_or (bits 32 n) k false) 1 0 ≡ n / 2 ^ (31 - k) % 2
byte_is n k h = ap (λ (b : Bool). cond b 1 0) (get_or_bits 32 k n h) ∙ bit_number (n / 2 ^ (32 - 1 - k)) ∙ (let e : 32 - 1 - k ≡ 31 - k = omega arith in rw e refl)

pub first_byte : (n k bit : ℕ) → k < 32 → bit ≡ n / 2 ^ (31 - k) % 2 → k ≡ 0 → 2 + bit ≡ frame_byte (bits 32 n) k
first_byte n k bit h e z = rw (eq-eqb k 0 z, byte_is n k h, e) refl

pub other_byte : (n k bit : ℕ) → k < 32 → bit ≡ n / 2 ^ (31 - k) % 2 → k ≢ 0 → bit ≡ frame_byte (bits 32 n) k
other_byte n k bit h e d = rw (ne_eqb k 0 d, byte_is n k h) (e ∙ omega arith)

pub filling_next : {n : ℕ} {f : ℕ → ℕ} {d out : List ℕ} (v : ℕ) → Filling 0 n f d out → v ≡ f n → Filling 0 (n + 1) f d (set out n v)
filling_next {n} {f} {d} {out} v h e =
    let z : n ≡ 0 + n = omega arith in
    filling 0 (n + 1) f d (set out n v) (ap₂ (λ (k w : ℕ). set out k w) z e ∙ (filling_more h).is)

module _ (f : Fields) (s : List ℕ) where
  pub write_length : (length s ≡ 32 → ⊥) → (Err Short ≡ write_vc12_answer f s) × (s ≡ write_vc12_bytes f s)
  unfolding write_vc12_answer write_vc12_bytes
  write_length d = rw (ne_eqb (length s) 32 d) (refl, refl)

  pub write_field : length s ≡ 32 → vc12_fits f ≡ false → (Err Field ≡ write_vc12_answer f s) × (s ≡ write_vc12_bytes f s)
  unfolding write_vc12_answer write_vc12_bytes
  write_field h b = rw (eq-eqb (length s) 32 h, b) (refl, refl)

  pub write_done : length s ≡ 32 → vc12_fits f ≡ true → (n : ℕ) (t : List ℕ) → bits 32 n ≡ vc12_bits f → t ≡ vc12_bytes (bits 32 n) → (Ok tt ≡ write_vc12_answer f s) × (t ≡ write_vc12_bytes f s)
  unfolding write_vc12_answer write_vc12_bytes
  write_done h b n t e g = rw (eq-eqb (length s) 32 h, b) (refl, g ∙ ap vc12_bytes e)
