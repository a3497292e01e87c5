-- The CRC by shares (request 2026-02): the seven shares of a packet's nibbles join to its CRC.
use Rattle.std.specs.Prelude.{◌≡◌, ℕ, zero, suc, ◌+◌, ◌-◌, ◌*◌, ◌/◌, ◌%◌, ◌<◌, ◌≤◌, Bool, List, [], ◌∷◌, ◌++◌, length, take, replicate, bit_xor, slice_index, refl}
use Rattle.std.proofs.Common.{◌∙◌, sym, ap, ap₂, append_assoc, append-nil, add-one, arith, length-append, length-take-le, take_all, take-suc}
use Rattle.std.specs.Int.Bits.{xor_comm}
use Rattle.std.proofs.lemmas.Nat.{xor_lt}
use Rattle.std.proofs.lemmas.List.{length-replicate}
use Rattle.ground.specs.Bits.{bits, bits_mod, number, number_bits}
use Rattle.ground.specs.Division.{remainder_sum}
use Rattle.ground.specs.Polynomial.{check, remainder, sum, zeros}
use Rattle.ground.specs.Sums.{bits_xor, sum_append, sum_comm}
use Rattle.ground.specs.Table.{tabulate, get_or_tabulate}
use Rattle.packet.specs.Crc.{bits_of, crc_of, divisor, nibble_bits}
use Rattle.packet.specs.Laws.Bytes.{bits_append, crc_bits, crc_lt, length_bits_of}
use Rattle.packet.specs.Layout.{byte_of}
use Rattle.packet.specs.Shares.{alone_at, byte_at, joined_to, share_in, share_of, shares_of}

-- each entry of the table is the share of its place and value
pub every_share : {table : List (List ℕ)} → table ≡ shares_of → (place value : ℕ) → place < 7 → value < 256 → share_in table place value ≡ share_of place value
unfolding shares_of
every_share e p v hp hv =
    ap (λ (t : List (List ℕ)). share_in t p v) e
    ∙ ap (λ (r : List ℕ). slice_index r v) (get_or_tabulate 7 (λ q. tabulate 256 (share_of q)) p [] hp)
    ∙ get_or_tabulate 256 (share_of p) v 0 hv

-- the check of a sum is the sum of the checks
check_sum : (m n : List Bool) → length m ≡ length n → check divisor (sum m n) ≡ sum (check divisor m) (check divisor n)
unfolding divisor
check_sum m n h =
    ap (λ l. remainder divisor (zeros 8) l) (sym (sum_append m (zeros 8) n (zeros 8) h))
    ∙ remainder_sum divisor (zeros 8) (zeros 8) (m ++ zeros 8) (n ++ zeros 8) refl refl
    (length-append m (zeros 8) ∙ ap (λ (k : ℕ). k + 8) h ∙ sym (length-append n (zeros 8)))

-- and so are the CRCs of nibbles whose bits add up
crc_sum : (x y z : List ℕ) → length x ≡ length y → sum (bits_of x) (bits_of y) ≡ bits_of z → bit_xor (crc_of x) (crc_of y) ≡ crc_of z
crc_sum x y z h e =
    let small = xor_lt 8 (crc_of x) (crc_of y) (crc_lt x) (crc_lt y) in
    let whole : bit_xor (crc_of x) (crc_of y) % 256 ≡ bit_xor (crc_of x) (crc_of y) = omega arith in
    sym (number_bits 8 (bit_xor (crc_of x) (crc_of y)) ∙ whole)
    ∙ ap number
    (bits_xor 8 (crc_of x) (crc_of y)
    ∙ ap₂ sum (crc_bits x) (crc_bits y)
    ∙ sym (check_sum (bits_of x) (bits_of y) (length_bits_of x ∙ ap (λ (k : ℕ). k * 4) h ∙ sym (length_bits_of y)))
    ∙ ap (λ l. check divisor l) e
    ∙ sym (crc_bits z))
    ∙ number_bits 8 (crc_of z)
    ∙ (let l = crc_lt z in omega arith)

-- zeros add nothing
none_none : (k : ℕ) → sum (bits_of (replicate k 0)) (bits_of (replicate k 0)) ≡ bits_of (replicate k 0)
unfolding nibble_bits
none_none zero = refl
none_none (suc k) = ap (λ l. nibble_bits 0 ++ l) (none_none k)

before : (x t u : List ℕ) → sum (bits_of (replicate (length x) 0 ++ t)) (bits_of (x ++ u)) ≡ bits_of x ++ sum (bits_of t) (bits_of u)
unfolding nibble_bits
before [] t u = refl
before (n ∷ x) t u = ap (λ l. nibble_bits n ++ l) (before x t u)

behind : (a b k : ℕ) → sum (bits_of (a ∷ b ∷ replicate k 0)) (bits_of (0 ∷ 0 ∷ replicate k 0)) ≡ bits_of (a ∷ b ∷ replicate k 0)
unfolding nibble_bits
behind a b k =
    sum_comm (bits_of (a ∷ b ∷ replicate k 0)) (bits_of (0 ∷ 0 ∷ replicate k 0))
    ∙ ap (λ l. nibble_bits a ++ (nibble_bits b ++ l)) (none_none k)

-- a byte's two nibbles have the bits of those that it was made of
same_nibbles : (a b : ℕ) (l : List ℕ) → bits_of ((byte_of a b / 16) ∷ (byte_of a b % 16) ∷ l) ≡ bits_of (a ∷ b ∷ l)
unfolding nibble_bits
same_nibbles a b l = ap₂ (λ (x y : List Bool). x ++ (y ++ bits_of l)) (ap (λ (n : ℕ). bits 4 n) high ∙ bits_mod 4 a) (ap (λ (n : ℕ). bits 4 n) low ∙ bits_mod 4 b)
  where
    high : byte_of a b / 16 ≡ a % 16
    high = omega arith

    low : byte_of a b % 16 ≡ b % 16
    low = omega arith

-- the nibbles of the first places, with zeros behind them
abbrev front : ℕ → List ℕ → List ℕ
front p ns = take (p * 2) ns ++ replicate (14 - p * 2) 0

module _ (ns : List ℕ) (many : 14 ≤ length ns) (p : ℕ) (below : p < 7) where
  abbrev a : ℕ
  a = slice_index ns (p * 2)

  abbrev b : ℕ
  b = slice_index ns (p * 2 + 1)

  abbrev rest : List ℕ
  rest = replicate (12 - p * 2) 0

  size : length (take (p * 2) ns) ≡ p * 2
  size = length-take-le (p * 2) ns (omega arith)

  now : front p ns ≡ take (p * 2) ns ++ (0 ∷ 0 ∷ rest)
  now = let e : 14 - p * 2 ≡ suc (suc (12 - p * 2)) = omega arith in ap (λ (k : ℕ). take (p * 2) ns ++ replicate k 0) e

  then : front (suc p) ns ≡ take (p * 2) ns ++ (a ∷ b ∷ rest)
  then =
      let e : suc p * 2 ≡ suc (suc (p * 2)) = omega arith in
      let z : 14 - suc p * 2 ≡ 12 - p * 2 = omega arith in
      ap₂ (λ (i k : ℕ). take i ns ++ replicate k 0) e z
      ∙ ap (λ (l : List ℕ). l ++ rest)
      (take-suc ns (suc (p * 2)) 0 (omega arith)
      ∙ ap₂ (λ (l : List ℕ) (i : ℕ). l ++ (slice_index ns i ∷ [])) (take-suc ns (p * 2) 0 (omega arith)) (sym (add-one (p * 2))))
      ∙ append_assoc (take (p * 2) ns ++ (a ∷ [])) (b ∷ []) rest
      ∙ append_assoc (take (p * 2) ns) (a ∷ []) (b ∷ rest)

  alone : alone_at p (byte_at ns p) ≡ replicate (length (take (p * 2) ns)) 0 ++ ((byte_at ns p / 16) ∷ (byte_at ns p % 16) ∷ rest)
  alone = ap (λ (k : ℕ). replicate k 0 ++ ((byte_at ns p / 16) ∷ (byte_at ns p % 16) ∷ rest)) (sym size)

  added : sum (bits_of (alone_at p (byte_at ns p))) (bits_of (front p ns)) ≡ bits_of (front (suc p) ns)
  added =
      ap₂ (λ (x y : List ℕ). sum (bits_of x) (bits_of y)) alone now
      ∙ before (take (p * 2) ns) ((byte_at ns p / 16) ∷ (byte_at ns p % 16) ∷ rest) (0 ∷ 0 ∷ rest)
      ∙ ap (λ (l : List Bool). bits_of (take (p * 2) ns) ++ l) (behind (byte_at ns p / 16) (byte_at ns p % 16) (12 - p * 2) ∙ same_nibbles a b rest)
      ∙ sym (bits_append (take (p * 2) ns) (a ∷ b ∷ rest))
      ∙ ap bits_of (sym then)

  lengths : length (alone_at p (byte_at ns p)) ≡ length (front p ns)
  lengths =
      ap length alone
      ∙ length-append (replicate (length (take (p * 2) ns)) 0) ((byte_at ns p / 16) ∷ (byte_at ns p % 16) ∷ rest)
      ∙ ap (λ (k : ℕ). k + suc (suc (length rest))) (length-replicate (length (take (p * 2) ns)) 0)
      ∙ sym (length-append (take (p * 2) ns) (0 ∷ 0 ∷ rest))
      ∙ ap length (sym now)

  one_more : bit_xor (crc_of (front p ns)) (share_of p (byte_at ns p)) ≡ crc_of (front (suc p) ns)
  unfolding share_of
  one_more =
      xor_comm (crc_of (front p ns)) (crc_of (alone_at p (byte_at ns p)))
      ∙ crc_sum (alone_at p (byte_at ns p)) (front p ns) (front (suc p) ns) lengths added

joined_to_lem : (ns : List ℕ) → 14 ≤ length ns → (p : ℕ) → p ≤ 7 → joined_to p ns ≡ crc_of (front p ns)
unfolding joined_to crc_of divisor nibble_bits
joined_to_lem ns many zero h = refl
joined_to_lem ns many (suc p) h =
    ap (λ (r : ℕ). bit_xor r (share_of p (byte_at ns p))) (joined_to_lem ns many p (omega arith)) ∙ one_more ns many p (omega arith)

-- the seven shares of a packet's nibbles join to the CRC of its data
pub joined : (ns : List ℕ) → 14 ≤ length ns → joined_to 7 ns ≡ crc_of (take 14 ns)
joined ns many = joined_to_lem ns many 7 (omega arith) ∙ ap crc_of (append-nil (take 14 ns))

-- of fourteen numbers alone
pub joined_data : (d : List ℕ) → length d ≡ 14 → joined_to 7 d ≡ crc_of d
joined_data d h = joined d (omega arith) ∙ ap crc_of (take_all 14 d (omega arith))
