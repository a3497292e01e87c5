-- Packets that differ in reserved bits alone rule alike (request 2026-08): two with a right CRC that agree in every bit that is neither reserved nor the CRC's, which are all but H4's 26 and VC-12's four, rule by the same word, number and GID, or both rule nothing.
use Rattle.std.specs.Prelude.{◌≡◌, ℕ, zero, suc, ◌+◌, ◌*◌, ◌<◌, ◌≤◌, Bool, true, false, cond, ◌≢◌, List, [], ◌∷◌, length, take, drop, slice_index_or, refl, if◌then◌else◌, ◌==◌, Ok, Err}
use Rattle.std.proofs.Common.{sym, ap, ◌∙◌, arith}
use Rattle.std.proofs.Math.Nat.{suc_inj}
use Rattle.ground.specs.Bits.{number}
use Rattle.ground.specs.Finite.{same_bits}
use Rattle.ground.specs.Polynomial.{check}
use Rattle.ground.specs.Truth.{cond_by}
use Rattle.packet.specs.Reserved.{SameBeside, SameBesideBy, SameBesideVc12, with_reserved}
use Rattle.packet.specs.Theorems.Sent.{sent_as}
use Rattle.packet.specs.declared.layout.Fields.{Fields}
use Rattle.packet.specs.declared.reader.Unread.TheVariants.{Crc, Fixed, Unassigned}
use Rattle.packet.specs.Crc.{crc_of}
use Rattle.packet.specs.Fixed.{fixed_ruling_of, read_fixed_nibbles}
use Rattle.packet.specs.Kinds.{vc12_kind}
use Rattle.packet.specs.Laws.Vc12.{length_row}
use Rattle.packet.specs.Layout.{carried_in, fields_of}
use Rattle.packet.specs.Reading.{read_fields, read_nibbles, Reading}
use Rattle.packet.specs.Ruling.{read_row, ruling_by, ruling_of}
use Rattle.packet.specs.Sent.{sent_answer, sent_bytes}
use Rattle.packet.specs.Symbols.{packet_row}
use Rattle.packet.specs.Vc12.{number_at, read_vc12_bits, read_vc12_row, row_bits, vc12_divisor, vc12_fields}
use Rattle.packet.specs.Words.{FIXED, assigned}

-- Such rows carry the same fields beside the reserved number.

same_h4 : (row other : List ℕ) → SameBeside row other → with_reserved 0 (fields_of row) ≡ with_reserved 0 (fields_of other)
unfolding fields_of
same_h4 row other s =
    λ i. record {
      epoch = s.mfi1_0 i * 16 + s.mfi1_1 i;
      word = record { 0 = s.mfi1_2 i };
      gid = s.mfi1_3 i;
      mst = s.mfi1_8 i * 16 + s.mfi1_9 i;
      rs_ack = s.mfi1_10 i;
      sq = s.mfi1_14 i * 16 + s.mfi1_15 i;
      reserved = 0;
    }

-- some bits of two lists, from a place on
part : (l m : List Bool) (place n : ℕ) → length l ≡ length m → ((k : ℕ) → place ≤ k → k < place + n → slice_index_or l k false ≡ slice_index_or m k false) → take n (drop place l) ≡ take n (drop place m)
part [] [] place n e h = refl
part [] (b ∷ m) place n e h = absurd (omega arith)
part (a ∷ l) [] place n e h = absurd (omega arith)
part (a ∷ l) (b ∷ m) zero zero e h = refl
part (a ∷ l) (b ∷ m) zero (suc n) e h =
    let first : a ≡ b = h 0 (omega arith) (omega arith) in
    let rest : take n l ≡ take n m = part l m zero n (suc_inj e) (λ k low high. h (suc k) (omega arith) (omega arith)) in
    λ i. first i ∷ rest i
part (a ∷ l) (b ∷ m) (suc place) n e h = part l m place n (suc_inj e) (λ k low high. h (suc k) (omega arith) (omega arith))

same_vc12 : (row other : List ℕ) → SameBesideVc12 row other → with_reserved 0 (vc12_fields (row_bits row)) ≡ with_reserved 0 (vc12_fields (row_bits other))
unfolding vc12_fields
same_vc12 row other s =
    let count : number_at 0 5 (row_bits row) ≡ number_at 0 5 (row_bits other) = early 0 5 (omega arith) in
    let sq : number_at 5 6 (row_bits row) ≡ number_at 5 6 (row_bits other) = early 5 6 (omega arith) in
    let word : number_at 11 4 (row_bits row) ≡ number_at 11 4 (row_bits other) = early 11 4 (omega arith) in
    let gid : number_at 15 1 (row_bits row) ≡ number_at 15 1 (row_bits other) = early 15 1 (omega arith) in
    let ack : number_at 20 1 (row_bits row) ≡ number_at 20 1 (row_bits other) = late 20 1 (omega arith) (omega arith) in
    let mst : number_at 21 8 (row_bits row) ≡ number_at 21 8 (row_bits other) = late 21 8 (omega arith) (omega arith) in
    λ i. record { epoch = count i; word = record { 0 = word i }; gid = gid i; mst = mst i; rs_ack = ack i; sq = sq i; reserved = 0 }
  where
    long : length (row_bits row) ≡ length (row_bits other)
    long = length_row row ∙ sym (length_row other)

    early : (place n : ℕ) → place + n ≤ 16 → number_at place n (row_bits row) ≡ number_at place n (row_bits other)
    early place n h = ap number (part (row_bits row) (row_bits other) place n long (λ k low high. s.before k (omega arith)))

    late : (place n : ℕ) → 20 ≤ place → place + n ≤ 29 → number_at place n (row_bits row) ≡ number_at place n (row_bits other)
    late place n l h = ap number (part (row_bits row) (row_bits other) place n long (λ k low high. s.behind k (omega arith) (omega arith)))

-- Under a right CRC the fields are read, and the reserved number among them is not.

right_h4 : (row : List ℕ) → read_nibbles row ≢ Err Crc → read_nibbles row ≡ read_fields (fields_of row)
unfolding read_nibbles
right_h4 row =
    cond_by (λ (q : Reading). q ≢ Err Crc → q ≡ read_fields (fields_of row)) (crc_of (take 14 row) == carried_in row) (read_fields (fields_of row)) (Err Crc) (λ e h. refl) (λ e h. absurd (h refl))

right_vc12 : (row : List ℕ) → read_vc12_row row ≢ Err Crc → read_vc12_row row ≡ read_fields (vc12_fields (row_bits row))
unfolding read_vc12_row read_vc12_bits
right_vc12 row =
    cond_by (λ (q : Reading). q ≢ Err Crc → q ≡ read_fields (vc12_fields (row_bits row))) (same_bits (check vc12_divisor (take 29 (row_bits row))) (drop 29 (row_bits row))) (read_fields (vc12_fields (row_bits row))) (Err Crc)
    (λ e h. refl) (λ e h. absurd (h refl))

without : (f : Fields) → ruling_by (read_fields f) ≡ ruling_by (read_fields (with_reserved 0 f))
without f = go (f.word.0 == FIXED) (assigned f.word)
  where
    go : (a b : Bool) → ruling_by (if a then Err Fixed else if b then Ok f else Err Unassigned) ≡ ruling_by (if a then Err Fixed else if b then Ok (with_reserved 0 f) else Err Unassigned)
    go true b = refl
    go false true = refl
    go false false = refl

by_fields : (f g : Fields) → with_reserved 0 f ≡ with_reserved 0 g → ruling_by (read_fields f) ≡ ruling_by (read_fields g)
by_fields f g e = without f ∙ ap (λ (h : Fields). ruling_by (read_fields h)) e ∙ sym (without g)

pub rule_alike : (kind epoch : ℕ) (row other : List ℕ) → SameBesideBy kind row other → read_row kind row ≢ Err Crc → read_row kind other ≢ Err Crc → ruling_of kind epoch row ≡ ruling_of kind epoch other
unfolding ruling_of read_row
rule_alike kind epoch row other = go (kind == vc12_kind)
  where
    go : (b : Bool) → cond b (SameBesideVc12 row other) (SameBeside row other) → (if b then read_vc12_row row else read_nibbles row) ≢ Err Crc → (if b then read_vc12_row other else read_nibbles other) ≢ (Err Crc)
        → ruling_by (if b then read_vc12_row row else read_nibbles row) ≡ ruling_by (if b then read_vc12_row other else read_nibbles other)
    go true s one two = ap ruling_by (right_vc12 row one) ∙ by_fields (vc12_fields (row_bits row)) (vc12_fields (row_bits other)) (same_vc12 row other s) ∙ sym (ap ruling_by (right_vc12 other two))
    go false s one two = ap ruling_by (right_h4 row one) ∙ by_fields (fields_of row) (fields_of other) (same_h4 row other s) ∙ sym (ap ruling_by (right_h4 other two))

-- of H4 they carry the same MFI2
pub epoch_alike : (row other : List ℕ) → SameBeside row other → (fields_of row).epoch ≡ (fields_of other).epoch
epoch_alike row other s = ap (λ (f : Fields). f.epoch) (same_h4 row other s)

-- a fixed group's packet looks at none of them, nor at the CRC (request 2026-12)
pub fixed_alike : (row other : List ℕ) → SameBeside row other → fixed_ruling_of row ≡ fixed_ruling_of other
unfolding fixed_ruling_of read_fixed_nibbles
fixed_alike row other s = rw (s.mfi1_14, s.mfi1_15, s.mfi1_0, s.mfi1_1, s.mfi1_2) refl

-- so do packets that are written with the same fields but for the reserved number
pub written_alike : (kind epoch : ℕ) (f : Fields) (r : ℕ) (s t : List ℕ) → sent_answer kind f s ≡ Ok tt → sent_answer kind (with_reserved r f) t ≡ Ok tt
    → ruling_of kind epoch (packet_row kind (sent_bytes kind f s)) ≡ ruling_of kind epoch (packet_row kind (sent_bytes kind (with_reserved r f) t))
unfolding ruling_of
written_alike kind epoch f r s t one two = ap ruling_by (sent_as kind f s one).reads ∙ sym (ap ruling_by (sent_as kind (with_reserved r f) t two).reads)
