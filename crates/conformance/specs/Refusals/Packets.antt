-- The refusals of the packet's entry points, of H4 and of VC-12 (request 2026-01): writing 9, 8; reading 9, 5, 7, 6. Of a fixed group (request 2026-12) writing 9, 8; reading 9, 6.
use Rattle.std.specs.Prelude.{◌≡◌, refl, Bool, true, false, not, ◌&&◌, ◌||◌, List, [], ◌∷◌, ℕ, ◌+◌, ◌*◌, ◌%◌, drop, get_or, length, take, if◌then◌else◌, ◌==◌}
use Rattle.ground.specs.Bits.{number}
use Rattle.ground.specs.Finite.{same_bits}
use Rattle.ground.specs.Plain.{◌<?◌}
use Rattle.ground.specs.Polynomial.{check}
use Rattle.ground.specs.Types.{Bytes}
use Rattle.c_face.specs.Packets.{given, read_answer_c, read_fields_c, read_fixed_answer_c, read_fixed_fields_c, read_vc12_answer_c, read_vc12_fields_c, values_or, write_answer_c, write_bytes_c, write_fixed_answer_c, write_vc12_answer_c, write_vc12_bytes_c}
use Rattle.packet.specs.declared.layout.Fields.{Fields}
use Rattle.packet.specs.ByTable.{crc_with, read_nibbles_with, read_row_with}
use Rattle.packet.specs.Crc.{crc_of}
use Rattle.packet.specs.Fixed.{read_fixed_answer, read_fixed_nibbles, write_fixed_answer, write_fixed_bytes}
use Rattle.packet.specs.Layout.{carried_in, fields_of, highs_of}
use Rattle.packet.specs.Reading.{read_answer, read_nibbles, reading_number}
use Rattle.packet.specs.Ruling.{read_row}
use Rattle.packet.specs.Sent.{sent_answer, sent_bytes}
use Rattle.packet.specs.Vc12.{lowest_of, read_vc12_answer, read_vc12_bits, read_vc12_row, row_bits, vc12_divisor, vc12_fields, vc12_fits, write_vc12_answer, write_vc12_bytes}
use Rattle.packet.specs.Words.{assigned}
use Rattle.packet.specs.Writing.{fitting, write_answer, write_bytes, writing_number}
use Rattle.step.specs.Carried.{reading_in}
use Rattle.conformance.specs.Refusals.Entries.{Call, Copes, If, Refusal, Unless, answers_alone, behind, copes, stateless}

-- 'FIXED 0, ADD 1, NORM 2, EOS 3, IDLE 5, DNU 15. All others are unassigned.'
abbrev pub named : ℕ → Bool
named w = w == 0 || w == 1 || w == 2 || w == 3 || w == 5 || w == 15

-- 8: 'a field given for writing is too large, or its word is FIXED or unassigned'
abbrev small_in : (epochs numbers reserved : ℕ) (f : Fields) → Bool
small_in epochs numbers reserved f =
    f.mst <? 256 && f.epoch <? epochs && f.sq <? numbers && f.gid <? 2 && f.rs_ack <? 2 && f.reserved <? reserved && not (f.word.0 == 0) && named f.word.0

-- the reserved bits of H4 are 26 (request 2026-08)
abbrev pub small : Fields → Bool
small f = small_in 256 256 67108864 f

-- 'count above 31, SQ above 63', and four reserved bits (request 2026-01)
abbrev pub small_vc12 : Fields → Bool
small_vc12 f = small_in 32 64 16 f

-- of a sender's packet, by its kind
abbrev pub small_of : ℕ → Fields → Bool
small_of kind f = if kind == 1 then small_vc12 f else small f

abbrev pub write : Fields × List ℕ → Call
write (fields, h4) =
    stateless (Unless 9 (length h4 == 16) ∷ Unless 8 (small fields) ∷ [])
    (writing_number (write_answer fields h4)) (h4 ∷ []) (write_bytes fields h4 ∷ [])

pub write_copes : (x : Fields × List ℕ) → Copes (write x)
unfolding write_answer write_bytes fitting assigned
write_copes (fields, h4) = copes _ (λ l. (λ f. rw (l, f), λ f. rw (l, f) (refl, refl, refl)), λ l. rw l (refl, refl, refl))

abbrev pub write_c : ℕ × ℕ × ℕ × ℕ × ℕ × ℕ × ℕ × List ℕ → Call
write_c (epoch, word, gid, mst, rs_ack, sq, reserved, h4) =
    stateless (Unless 9 (length h4 == 16) ∷ Unless 8 (small (given epoch word gid mst rs_ack sq reserved)) ∷ [])
    (write_answer_c epoch word gid mst rs_ack sq reserved h4) (h4 ∷ []) (write_bytes_c epoch word gid mst rs_ack sq reserved h4 ∷ [])

pub write_c_copes : (x : ℕ × ℕ × ℕ × ℕ × ℕ × ℕ × ℕ × List ℕ) → Copes (write_c x)
write_c_copes (epoch, word, gid, mst, rs_ack, sq, reserved, h4) = write_copes (given epoch word gid mst rs_ack sq reserved, h4)

-- of sixteen nibbles: the CRC is the last two, CTRL that of MFI1 2
abbrev pub refusals_under : (crc : ℕ) (ns : List ℕ) → List Refusal
refusals_under crc ns =
    Unless 5 (crc == get_or ns 14 0 % 16 * 16 + get_or ns 15 0 % 16)
    ∷ If 7 (get_or ns 10 0 % 16 == 0)
    ∷ Unless 6 (named (get_or ns 10 0 % 16))
    ∷ []

abbrev pub read_refusals : List ℕ → List Refusal
read_refusals ns = refusals_under (crc_of (take 14 ns)) ns

-- what a reading leaves of lent bytes for the values
reads : (h4 fields : List ℕ) → Copes (stateless (Unless 9 (length h4 == 16) ∷ read_refusals (highs_of h4)) (reading_number (read_answer h4)) (fields ∷ []) (values_or (read_answer h4) fields ∷ []))
unfolding read_answer read_nibbles carried_in fields_of assigned
reads h4 fields =
    copes _ (
      λ l. (λ c. (λ f. rw (l, c, f) (refl, refl, refl), λ f. (λ a. rw (l, c, f, rw f at a), λ a. rw (l, c, f, rw f at a) (refl, refl, refl))), λ c. rw (l, c) (refl, refl, refl)),
      λ l. rw l (refl, refl, refl),
    )

-- by the shares of a lent table (request 2026-02)
abbrev pub read_sixteen : List (List ℕ) × List ℕ → Call
read_sixteen (table, nibbles) = stateless (refusals_under (crc_with table nibbles) nibbles) (reading_number (read_nibbles_with table nibbles)) [] []

pub read_sixteen_copes : (x : List (List ℕ) × List ℕ) → Copes (read_sixteen x)
unfolding read_nibbles_with carried_in fields_of assigned
read_sixteen_copes (table, nibbles) =
    copes _ (λ c. (λ f. rw (c, f) (refl, refl, refl), λ f. (λ a. rw (c, f, rw f at a), λ a. rw (c, f, rw f at a) (refl, refl, refl))), λ c. rw c (refl, refl, refl))

abbrev pub read : Bytes → Call
read h4 = stateless (Unless 9 (length h4 == 16) ∷ read_refusals (highs_of h4)) (reading_number (read_answer h4)) [] []

pub read_copes : (x : List ℕ) → Copes (read x)
read_copes h4 = answers_alone _ _ (reads h4 []).answers

-- the values go into ten lent bytes
abbrev pub read_c : List ℕ × List ℕ → Call
read_c (h4, fields) =
    stateless (Unless 9 (length fields == 10) ∷ Unless 9 (length h4 == 16) ∷ read_refusals (highs_of h4))
    (read_answer_c h4 fields) (fields ∷ []) (read_fields_c h4 fields ∷ [])

pub read_c_copes : (x : List ℕ × List ℕ) → Copes (read_c x)
unfolding read_answer_c read_fields_c
read_c_copes (h4, fields) = behind 9 (length fields == 10) _ _ (values_or (read_answer h4) fields) fields (reads h4 fields)

-- VC-12: 32 bytes, the lowest bit of each.

abbrev pub write_vc12 : Fields × List ℕ → Call
write_vc12 (fields, frames) =
    stateless (Unless 9 (length frames == 32) ∷ Unless 8 (small_vc12 fields) ∷ [])
    (writing_number (write_vc12_answer fields frames)) (frames ∷ []) (write_vc12_bytes fields frames ∷ [])

pub write_vc12_copes : (x : Fields × List ℕ) → Copes (write_vc12 x)
unfolding write_vc12_answer write_vc12_bytes vc12_fits assigned
write_vc12_copes (fields, frames) = copes _ (λ l. (λ f. rw (l, f), λ f. rw (l, f) (refl, refl, refl)), λ l. rw l (refl, refl, refl))

abbrev pub write_vc12_c : ℕ × ℕ × ℕ × ℕ × ℕ × ℕ × ℕ × List ℕ → Call
write_vc12_c (epoch, word, gid, mst, rs_ack, sq, reserved, bits) =
    stateless (Unless 9 (length bits == 32) ∷ Unless 8 (small_vc12 (given epoch word gid mst rs_ack sq reserved)) ∷ [])
    (write_vc12_answer_c epoch word gid mst rs_ack sq reserved bits) (bits ∷ []) (write_vc12_bytes_c epoch word gid mst rs_ack sq reserved bits ∷ [])

pub write_vc12_c_copes : (x : ℕ × ℕ × ℕ × ℕ × ℕ × ℕ × ℕ × List ℕ) → Copes (write_vc12_c x)
write_vc12_c_copes (epoch, word, gid, mst, rs_ack, sq, reserved, bits) = write_vc12_copes (given epoch word gid mst rs_ack sq reserved, bits)

-- of 32 bits: the CRC over the first 29 is the last three, CTRL is bits 12 to 15, counted from 1
abbrev pub bits_refusals : List Bool → List Refusal
bits_refusals l =
    Unless 5 (same_bits (check vc12_divisor (take 29 l)) (drop 29 l))
    ∷ If 7 (number (take 4 (drop 11 l)) == 0)
    ∷ Unless 6 (named (number (take 4 (drop 11 l))))
    ∷ []

vc12_reads : (bits fields : List ℕ)
    → Copes (stateless (Unless 9 (length bits == 32) ∷ bits_refusals (lowest_of bits)) (reading_number (read_vc12_answer bits)) (fields ∷ []) (values_or (read_vc12_answer bits) fields ∷ []))
unfolding read_vc12_answer read_vc12_bits vc12_fields assigned
vc12_reads bits fields =
    copes _ (
      λ l. (λ c. (λ f. rw (l, c, f) (refl, refl, refl), λ f. (λ a. rw (l, c, f, rw f at a), λ a. rw (l, c, f, rw f at a) (refl, refl, refl))), λ c. rw (l, c) (refl, refl, refl)),
      λ l. rw l (refl, refl, refl),
    )

abbrev pub read_vc12 : List ℕ → Call
read_vc12 frames = stateless (Unless 9 (length frames == 32) ∷ bits_refusals (lowest_of frames)) (reading_number (read_vc12_answer frames)) [] []

pub read_vc12_copes : (x : List ℕ) → Copes (read_vc12 x)
read_vc12_copes frames = answers_alone _ _ (vc12_reads frames []).answers

abbrev pub read_vc12_entries : List ℕ → Call
read_vc12_entries row = stateless (bits_refusals (row_bits row)) (reading_number (read_vc12_row row)) [] []

pub read_vc12_entries_copes : (x : List ℕ) → Copes (read_vc12_entries x)
unfolding read_vc12_row read_vc12_bits vc12_fields assigned
read_vc12_entries_copes row =
    copes _ (λ c. (λ f. rw (c, f) (refl, refl, refl), λ f. (λ a. rw (c, f, rw f at a), λ a. rw (c, f, rw f at a) (refl, refl, refl))), λ c. rw c (refl, refl, refl))

-- By the kind, as our sender writes and a receiver reads.

abbrev pub write_by : ℕ × Fields × List ℕ → Call
write_by (kind, fields, bytes) =
    stateless (Unless 9 (length bytes == (if kind == 1 then 32 else 16)) ∷ Unless 8 (small_of kind fields) ∷ [])
    (writing_number (sent_answer kind fields bytes)) (bytes ∷ []) (sent_bytes kind fields bytes ∷ [])

pub write_by_copes : (x : ℕ × Fields × List ℕ) → Copes (write_by x)
unfolding sent_answer sent_bytes
write_by_copes (kind, fields, bytes) = go (kind == 1) refl
  where
    go : (b : Bool) → (kind == 1) ≡ b → Copes (write_by (kind, fields, bytes))
    go true e = rw e (write_vc12_copes (fields, bytes))
    go false e = rw e (write_copes (fields, bytes))

abbrev pub read_row_by : List (List ℕ) × ℕ × List ℕ → Call
read_row_by (table, kind, row) = stateless (if kind == 1 then bits_refusals (row_bits row) else refusals_under (crc_with table row) row) (reading_number (read_row_with table kind row)) [] []

pub read_row_by_copes : (x : List (List ℕ) × ℕ × List ℕ) → Copes (read_row_by x)
unfolding read_row_with
read_row_by_copes (table, kind, row) = go (kind == 1) refl
  where
    go : (b : Bool) → (kind == 1) ≡ b → Copes (read_row_by (table, kind, row))
    go true e = rw e (read_vc12_entries_copes row)
    go false e = rw e (read_sixteen_copes (table, row))

abbrev pub read_vc12_c : List ℕ × List ℕ → Call
read_vc12_c (bits, fields) =
    stateless (Unless 9 (length fields == 10) ∷ Unless 9 (length bits == 32) ∷ bits_refusals (lowest_of bits))
    (read_vc12_answer_c bits fields) (fields ∷ []) (read_vc12_fields_c bits fields ∷ [])

pub read_vc12_c_copes : (x : List ℕ × List ℕ) → Copes (read_vc12_c x)
unfolding read_vc12_answer_c read_vc12_fields_c
read_vc12_c_copes (bits, fields) = behind 9 (length fields == 10) _ _ (values_or (read_vc12_answer bits) fields) fields (vc12_reads bits fields)

-- 'the word FIXED is no cause for 8': an epoch or an SQ above 255 is
abbrev pub write_fixed : ℕ × ℕ × List ℕ → Call
write_fixed (epoch, sq, h4) =
    stateless (Unless 9 (length h4 == 16) ∷ Unless 8 (epoch <? 256 && sq <? 256) ∷ [])
    (writing_number (write_fixed_answer epoch sq h4)) (h4 ∷ []) (write_fixed_bytes epoch sq h4 ∷ [])

pub write_fixed_copes : (x : ℕ × ℕ × List ℕ) → Copes (write_fixed x)
unfolding write_fixed_answer write_fixed_bytes
write_fixed_copes (epoch, sq, h4) = copes _ (λ l. (λ f. rw (l, f), λ f. rw (l, f) (refl, refl, refl)), λ l. rw l (refl, refl, refl))

abbrev pub write_fixed_c : ℕ × ℕ × List ℕ → Call
write_fixed_c (epoch, sq, h4) =
    stateless (Unless 9 (length h4 == 16) ∷ Unless 8 (epoch <? 256 && sq <? 256) ∷ [])
    (write_fixed_answer_c epoch sq h4) (h4 ∷ []) (write_fixed_bytes epoch sq h4 ∷ [])

pub write_fixed_c_copes : (x : ℕ × ℕ × List ℕ) → Copes (write_fixed_c x)
write_fixed_c_copes x = write_fixed_copes x

-- 'Number 7 is not given; a word other than FIXED is 6.'
abbrev pub read_fixed_refusals : List ℕ → List Refusal
read_fixed_refusals ns = Unless 6 (get_or ns 10 0 % 16 == 0) ∷ []

fixed_reads : (h4 fields : List ℕ) → Copes (stateless (Unless 9 (length h4 == 16) ∷ read_fixed_refusals (highs_of h4)) (reading_number (read_fixed_answer h4)) (fields ∷ []) (values_or (read_fixed_answer h4) fields ∷ []))
unfolding read_fixed_answer read_fixed_nibbles
fixed_reads h4 fields = copes _ (λ l. (λ w. rw (l, w), λ w. rw (l, w) (refl, refl, refl)), λ l. rw l (refl, refl, refl))

abbrev pub read_fixed_sixteen : List ℕ → Call
read_fixed_sixteen nibbles = stateless (read_fixed_refusals nibbles) (reading_number (read_fixed_nibbles nibbles)) [] []

pub read_fixed_sixteen_copes : (x : List ℕ) → Copes (read_fixed_sixteen x)
unfolding read_fixed_nibbles
read_fixed_sixteen_copes nibbles = copes _ (λ w. rw w, λ w. rw w (refl, refl, refl))

read_nibbles_copes : (nibbles : List ℕ) → Copes (stateless (read_refusals nibbles) (reading_number (read_nibbles nibbles)) [] [])
unfolding read_nibbles carried_in fields_of assigned
read_nibbles_copes nibbles =
    copes _ (λ c. (λ f. rw (c, f) (refl, refl, refl), λ f. (λ a. rw (c, f, rw f at a), λ a. rw (c, f, rw f at a) (refl, refl, refl))), λ c. rw c (refl, refl, refl))

-- by its kind, of which 1 is VC-12 and 2 FIXED
abbrev pub reading_of : ℕ × List ℕ → Call
reading_of (kind, row) =
    stateless (if kind == 2 then read_fixed_refusals row else if kind == 1 then bits_refusals (row_bits row) else read_refusals row) (reading_number (reading_in kind row)) [] []

pub reading_of_copes : (x : ℕ × List ℕ) → Copes (reading_of x)
unfolding reading_in read_row
reading_of_copes (kind, row) = go (kind == 2) (kind == 1) refl refl
  where
    go : (fixed vc12 : Bool) → (kind == 2) ≡ fixed → (kind == 1) ≡ vc12 → Copes (reading_of (kind, row))
    go true vc12 e f = rw e (read_fixed_sixteen_copes row)
    go false true e f = rw (e, f) (read_vc12_entries_copes row)
    go false false e f = rw (e, f) (read_nibbles_copes row)

abbrev pub read_fixed : Bytes → Call
read_fixed h4 = stateless (Unless 9 (length h4 == 16) ∷ read_fixed_refusals (highs_of h4)) (reading_number (read_fixed_answer h4)) [] []

pub read_fixed_copes : (x : List ℕ) → Copes (read_fixed x)
read_fixed_copes h4 = answers_alone _ _ (fixed_reads h4 []).answers

abbrev pub read_fixed_c : List ℕ × List ℕ → Call
read_fixed_c (h4, fields) =
    stateless (Unless 9 (length fields == 10) ∷ Unless 9 (length h4 == 16) ∷ read_fixed_refusals (highs_of h4))
    (read_fixed_answer_c h4 fields) (fields ∷ []) (read_fixed_fields_c h4 fields ∷ [])

pub read_fixed_c_copes : (x : List ℕ × List ℕ) → Copes (read_fixed_c x)
unfolding read_fixed_answer_c read_fixed_fields_c
read_fixed_c_copes (h4, fields) = behind 9 (length fields == 10) _ _ (values_or (read_fixed_answer h4) fields) fields (fixed_reads h4 fields)
