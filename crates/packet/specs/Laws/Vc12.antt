-- VC-12's packets as bits: their lengths, what reading makes of them, and that one changed bit is refused.
use Rattle.std.specs.Prelude.{◌≡◌, ℕ, ◌+◌, ◌*◌, ◌%◌, ◌^◌, ◌<◌, Bool, true, false, cond, List, ◌++◌, length, get_or, take, drop, ◌==◌, ◌≢◌, slice_index, slice_index_or, Err}
use Rattle.std.proofs.Math.Path.{refl, sym, ap, ap₂}
use Rattle.std.proofs.Common.{◌∙◌, mod-eq_of_lt, arith, lit<, length-append, length-drop, take-append-drop, take_at, drop_at, length-take-le}
use Rattle.ground.specs.Bits.{bits, bits_join, bits_number, number, number_append, number_bits, number_lt, odd}
use Rattle.ground.specs.Catching.{Firm, firm_catches}
use Rattle.ground.specs.Distance.{caught}
use Rattle.ground.specs.Division.{left, length_check, length_remainder}
use Rattle.ground.specs.Finite.{same_bits, same_bits_lem, bits_same}
use Rattle.ground.specs.Polynomial.{bits_apart, check, remainder, sealed, sum, zeros}
use Rattle.ground.specs.Sums.{sum_apart, sum_self}
use Rattle.ground.specs.Table.{get_or_tabulate, tabulate, tabulate_ext, tabulate_self}
use Rattle.ground.specs.Truth.{fails}
use Rattle.packet.specs.Bounds.{Vc12Bounds}
use Rattle.packet.specs.declared.layout.Fields.{Fields}
use Rattle.packet.specs.declared.reader.Unread.TheVariants.{Crc}
use Rattle.packet.specs.Reading.{read_fields}
use Rattle.packet.specs.Vc12.{frame_byte, lowest_of, read_vc12_bits, row_bits, vc12_bits, vc12_bytes, vc12_data, vc12_divisor, vc12_fields}

pub length_data : (f : Fields) → length (vc12_data f) ≡ 29
unfolding vc12_data
length_data f = refl

pub length_tail : (d : List Bool) → length (check vc12_divisor d) ≡ 3
unfolding vc12_divisor
length_tail d = length_check vc12_divisor d

pub length_packet : (f : Fields) → length (vc12_bits f) ≡ 32
unfolding vc12_bits
length_packet f =
    length-append (vc12_data f) (check vc12_divisor (vc12_data f)) ∙ rw (length_data f, length_tail (vc12_data f)) refl

pub length_lowest : (s : List ℕ) → length (lowest_of s) ≡ 32
unfolding lowest_of
length_lowest s = refl

pub length_row : (row : List ℕ) → length (row_bits row) ≡ 32
unfolding row_bits
length_row row = refl

-- the bytes of 32 bits carry these bits
pub lowest_back : (l : List Bool) → length l ≡ 32 → lowest_of (vc12_bytes l) ≡ l
unfolding lowest_of vc12_bytes
lowest_back l h =
    tabulate_ext 32 _ (λ k. get_or l k false) at ∙ ap (λ (n : ℕ). tabulate n (λ k. get_or l k false)) (sym h) ∙ tabulate_self l false
  where
    low : (c b : Bool) → odd (cond c 2 0 + cond b 1 0) ≡ b
    low true true = refl
    low true false = refl
    low false true = refl
    low false false = refl

    at : (k : ℕ) → k < 32 → odd (slice_index (tabulate 32 (frame_byte l)) k) ≡ slice_index_or l k false
    at k b = rw (get_or_tabulate 32 (frame_byte l) k 0 b) (low (k == 0) (slice_index_or l k false))

-- fields that fit are what their bits say
pub fields_back : (f : Fields) → Vc12Bounds f → vc12_fields (vc12_bits f) ≡ f
unfolding vc12_fields vc12_bits vc12_data
fields_back f b =
    λ i. record {
      epoch = epoch i;
      word = record { 0 = word i };
      gid = gid i;
      mst = mst i;
      rs_ack = ack i;
      sq = sq i;
      reserved = reserved i;
    }
  where
    back : (k n : ℕ) → n < 2 ^ k → number (bits k n) ≡ n
    back k n h = number_bits k n ∙ mod-eq_of_lt h

    epoch : number (bits 5 f.epoch) ≡ f.epoch
    epoch = back 5 f.epoch b.epoch

    word : number (bits 4 f.word.0) ≡ f.word.0
    word = back 4 f.word.0 b.nibble

    gid : number (bits 1 f.gid) ≡ f.gid
    gid = back 1 f.gid b.gid

    mst : number (bits 8 f.mst) ≡ f.mst
    mst = back 8 f.mst b.mst

    ack : number (bits 1 f.rs_ack) ≡ f.rs_ack
    ack = back 1 f.rs_ack b.ack

    sq : number (bits 6 f.sq) ≡ f.sq
    sq = back 6 f.sq b.sq

    reserved : number (bits 4 f.reserved) ≡ f.reserved
    reserved = back 4 f.reserved b.reserved

-- and the data bits of any packet are those of the fields that it says
pub data_again : (g : ℕ → Bool) → vc12_data (vc12_fields (tabulate 32 g)) ≡ take 29 (tabulate 32 g)
unfolding vc12_data vc12_fields
data_again g =
    λ i.
    bits_number (take 5 (tabulate 32 g)) i
    ++ bits_number (take 6 (drop 5 (tabulate 32 g))) i
    ++ bits_number (take 4 (drop 11 (tabulate 32 g))) i
    ++ bits_number (take 1 (drop 15 (tabulate 32 g))) i
    ++ bits_number (take 4 (drop 16 (tabulate 32 g))) i
    ++ bits_number (take 1 (drop 20 (tabulate 32 g))) i
    ++ bits_number (take 8 (drop 21 (tabulate 32 g))) i

-- the first 29 bits of a packet are its data bits, and behind them stands their check
pub front : (d : List Bool) → length d ≡ 29 → take 29 (sealed vc12_divisor d) ≡ d
front d h = take_at d (check vc12_divisor d) 29 h

pub behind : (d : List Bool) → length d ≡ 29 → drop 29 (sealed vc12_divisor d) ≡ check vc12_divisor d
behind d h = drop_at d (check vc12_divisor d) 29 h

-- bits under a right CRC, and any other
pub right_read : (l : List Bool) → check vc12_divisor (take 29 l) ≡ drop 29 l → read_vc12_bits l ≡ read_fields (vc12_fields l)
unfolding read_vc12_bits
right_read l e = rw (e, bits_same (drop 29 l)) refl

pub wrong_read : (l : List Bool) → (check vc12_divisor (take 29 l) ≢ drop 29 l) → read_vc12_bits l ≡ Err Crc
unfolding read_vc12_bits
wrong_read l d = rw (fails (same_bits (check vc12_divisor (take 29 l)) (drop 29 l)) (λ t. d (same_bits_lem (check vc12_divisor (take 29 l)) (drop 29 l) t))) refl

-- x^3+x+1 catches one changed bit
pub firm : Firm vc12_divisor
unfolding vc12_divisor
firm = record { some = lit< tt; keeps = refl }

sized : length vc12_divisor ≡ 3
unfolding vc12_divisor
sized = refl

pub bits_damaged : (d l : List Bool) → length d ≡ 29 → length l ≡ 32 → bits_apart (sealed vc12_divisor d) l ≡ 1 → read_vc12_bits l ≡ Err Crc
bits_damaged d l hd hl one = wrong_read l refused
  where
    halves : take 29 l ++ drop 29 l ≡ l
    halves = take-append-drop 29 l

    refused : check vc12_divisor (take 29 l) ≡ drop 29 l → ⊥
    refused same =
        let e : bits_apart (sealed vc12_divisor d) (take 29 l ++ drop 29 l) ≡ 1 = rw halves one in
        caught vc12_divisor 32 2 (firm_catches vc12_divisor firm 32) d (take 29 l) (drop 29 l)
        (hd ∙ sym (length-take-le 29 l (omega arith))) (length-drop 29 l ∙ rw (hl, sized) refl) (rw (hd, sized) (omega arith)) (omega arith) (omega arith) same

-- What the division of 32 bits leaves, the three of the CRC among them: nothing exactly where these are the check of the others.
unfoldable pub left_of : ℕ → ℕ
left_of n = number (remainder vc12_divisor (zeros 3) (bits 32 n))

module _ (n : ℕ) where
  abbrev l : List Bool
  l = bits 32 n

  left_is : remainder vc12_divisor (zeros 3) l ≡ sum (check vc12_divisor (take 29 l)) (drop 29 l)
  unfolding vc12_divisor
  left_is = ap (remainder vc12_divisor (zeros 3)) (sym (take-append-drop 29 l)) ∙ left vc12_divisor (take 29 l) (drop 29 l) refl

  three : length (remainder vc12_divisor (zeros 3) l) ≡ 3
  unfolding vc12_divisor
  three = length_remainder vc12_divisor (zeros 3) l refl

  tails : length (check vc12_divisor (take 29 l)) ≡ length (drop 29 l)
  tails = length_tail (take 29 l)

  pub left_none : left_of n ≡ 0 → check vc12_divisor (take 29 l) ≡ drop 29 l
  unfolding left_of
  left_none z = sum_apart (check vc12_divisor (take 29 l)) (drop 29 l) tails (sym left_is ∙ spelt ∙ ap zeros (sym (length_tail (take 29 l))))
    where
      spelt : remainder vc12_divisor (zeros 3) l ≡ zeros 3
      spelt = sym (bits_number (remainder vc12_divisor (zeros 3) l)) ∙ ap₂ bits three z

  pub left_some : check vc12_divisor (take 29 l) ≡ drop 29 l → left_of n ≡ 0
  unfolding left_of
  left_some e = ap number (left_is ∙ ap (λ (t : List Bool). sum (check vc12_divisor (take 29 l)) t) (sym e) ∙ sum_self (check vc12_divisor (take 29 l)) ∙ ap zeros (length_tail (take 29 l)))

-- data bits with zeros behind them leave the check
pub left_check : (d : List Bool) (n : ℕ) → bits 32 n ≡ d ++ zeros 3 → left_of n ≡ number (check vc12_divisor d)
unfolding left_of vc12_divisor
left_check d n e = ap (λ (l : List Bool). number (remainder vc12_divisor (zeros 3) l)) e

pub left_lt : (n : ℕ) → left_of n < 8
unfolding left_of vc12_divisor
left_lt n = rw (length_remainder vc12_divisor (zeros 3) (bits 32 n) refl) at (number_lt (remainder vc12_divisor (zeros 3) (bits 32 n)))

-- the data bits as a number
pub data_number : (f : Fields) → Vc12Bounds f
    → number (vc12_data f) ≡ (((((f.epoch * 64 + f.sq) * 16 + f.word.0) * 2 + f.gid) * 16 + f.reserved) * 2 + f.rs_ack) * 256 + f.mst
unfolding vc12_data
data_number f b =
    number_append E (Q ++ W ++ G ++ Z ++ A ++ M)
    ∙ ap (λ (n : ℕ). number E * 2 ^ 24 + n)
    (number_append Q (W ++ G ++ Z ++ A ++ M)
    ∙ ap (λ (n : ℕ). number Q * 2 ^ 18 + n)
    (number_append W (G ++ Z ++ A ++ M)
    ∙ ap (λ (n : ℕ). number W * 2 ^ 14 + n)
    (number_append G (Z ++ A ++ M)
    ∙ ap (λ (n : ℕ). number G * 2 ^ 13 + n)
    (number_append Z (A ++ M) ∙ ap (λ (n : ℕ). number Z * 2 ^ 9 + n) (number_append A M)))))
    ∙ summed (number E) (number Q) (number W) (number G) (number Z) (number A) (number M) (number_bits 5 f.epoch) (number_bits 6 f.sq) (number_bits 4 f.word.0) (number_bits 1 f.gid)
    (number_bits 4 f.reserved) (number_bits 1 f.rs_ack) (number_bits 8 f.mst)
  where
    E : List Bool
    E = bits 5 f.epoch

    Q : List Bool
    Q = bits 6 f.sq

    W : List Bool
    W = bits 4 f.word.0

    G : List Bool
    G = bits 1 f.gid

    Z : List Bool
    Z = bits 4 f.reserved

    A : List Bool
    A = bits 1 f.rs_ack

    M : List Bool
    M = bits 8 f.mst

    summed : (e q w g z a m : ℕ) → e ≡ f.epoch % 32 → q ≡ f.sq % 64 → w ≡ f.word.0 % 16 → g ≡ f.gid % 2 → z ≡ f.reserved % 16 → a ≡ f.rs_ack % 2 → m ≡ f.mst % 256
        → e * 2 ^ 24 + (q * 2 ^ 18 + (w * 2 ^ 14 + (g * 2 ^ 13 + (z * 2 ^ 9 + (a * 2 ^ 8 + m)))))
        ≡ (((((f.epoch * 64 + f.sq) * 16 + f.word.0) * 2 + f.gid) * 16 + f.reserved) * 2 + f.rs_ack) * 256 + f.mst
    summed e q w g z a m he hq hw hg hz ha hm = omega arith

-- and a packet's bits, of its data bits as a number and their check
pub packet_bits : (f : Fields) (n c : ℕ) → n ≡ number (vc12_data f) → c ≡ left_of (n * 8) → bits 32 (n * 8 + c) ≡ vc12_bits f
unfolding vc12_bits
packet_bits f n c e h =
    let low : c < 8 = rw h (left_lt (n * 8)) in
    let is : c ≡ number (check vc12_divisor (vc12_data f)) = h ∙ left_check (vc12_data f) (n * 8) (shifted) in
    bits_join 29 3 n c low ∙ ap₂ ◌++◌ ahead (ap (bits 3) is ∙ tail)
  where
    ahead : bits 29 n ≡ vc12_data f
    ahead = ap₂ bits (sym (length_data f)) e ∙ bits_number (vc12_data f)

    shifted : bits 32 (n * 8) ≡ vc12_data f ++ zeros 3
    shifted = ap (bits 32) (let z : n * 8 ≡ n * 8 + 0 = omega arith in z) ∙ bits_join 29 3 n 0 (lit< tt) ∙ ap (λ (d : List Bool). d ++ zeros 3) ahead

    tail : bits 3 (number (check vc12_divisor (vc12_data f))) ≡ check vc12_divisor (vc12_data f)
    tail = ap (λ (k : ℕ). bits k (number (check vc12_divisor (vc12_data f)))) (sym (length_tail (vc12_data f))) ∙ bits_number (check vc12_divisor (vc12_data f))
