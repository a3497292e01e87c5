-- Fixed groups' packets (request 2026-12): what is written reads as given, and so does a neighbour's packet, whatever its other nibbles; nothing but MFI2, SQ and the word decides what is read, the answers are 9 and 8 in writing and 9 and 6 in reading, and one changed bit is told by nothing.
use Rattle.std.specs.Prelude.{◌≡◌, ℕ, ◌/◌, ◌%◌, ◌<◌, ◌≤◌, Bool, true, false, cond, ◌≢◌, List, length, ◌==◌, nat_lt, slice_index, refl, Ok, Err}
use Rattle.std.proofs.Common.{◌∙◌, arith, ltb-true, ne_eqb}
use Rattle.ground.specs.Polynomial.{bits_apart}
use Rattle.ground.specs.Truth.{and_left, and_right, cond_by}
use Rattle.packet.specs.Counts.{counts}
use Rattle.packet.specs.Kinds.{epoch_of, fixed_kind, place_of, tag_of}
use Rattle.packet.specs.Samples.{fixed_sent}
use Rattle.packet.specs.declared.reader.Unread.TheVariants.{Unassigned}
use Rattle.packet.specs.declared.writer.Unwritten.TheVariants.{Length, Field}
use Rattle.packet.specs.Crc.{bits_of, nibble_bits}
use Rattle.packet.specs.Fixed.{fixed_fields, fixed_fits, fixed_nibbles, fixed_nibbles_with, fixed_ruling_of, read_fixed_answer, read_fixed_nibbles, write_fixed_answer, write_fixed_bytes}
use Rattle.packet.specs.Laws.Bytes.{byte_back}
use Rattle.packet.specs.Laws.Counting.{counted_with, counts_h4}
use Rattle.packet.specs.Laws.Nibbles.{Nibbles, highs_back}
use Rattle.packet.specs.Layout.{byte_of, fields_of, h4_of, highs_of}
use Rattle.packet.specs.Reading.{reading_number, Reading}
use Rattle.packet.specs.Ruling.{refused, ruling_by}
use Rattle.packet.specs.Symbols.{entry_from, packet_row, row_from}
use Rattle.packet.specs.Words.{FIXED}
use Rattle.packet.specs.Writing.{writing_number}

nibbles : (e q : ℕ) → e < 256 → q < 256 → Nibbles (fixed_nibbles e q)
unfolding fixed_nibbles fixed_nibbles_with
nibbles e q he hq =
    (omega arith, (omega arith, (omega arith, (omega arith, (omega arith, (omega arith, (omega arith, (omega arith, (omega arith, (omega arith, (omega arith, (omega arith, (omega arith, (omega arith, (omega arith, (omega arith, tt))))))))))))))))

nibbles_back : (e q : ℕ) → e < 256 → q < 256 → read_fixed_nibbles (fixed_nibbles e q) ≡ Ok (fixed_fields e q)
unfolding read_fixed_nibbles fixed_nibbles fixed_nibbles_with
nibbles_back e q he hq = rw (byte_back e he, byte_back q hq) refl

bytes_back : (e q : ℕ) → e < 256 → q < 256 → read_fixed_answer (h4_of (fixed_nibbles e q)) ≡ Ok (fixed_fields e q)
unfolding read_fixed_answer h4_of fixed_nibbles fixed_nibbles_with
bytes_back e q he hq = rw (highs_back (fixed_nibbles e q) (nibbles e q he hq) refl) (nibbles_back e q he hq)

-- what is written reads as given
pub fixed_back : (e q : ℕ) (s : List ℕ) → write_fixed_answer e q s ≡ Ok tt → read_fixed_answer (write_fixed_bytes e q s) ≡ Ok (fixed_fields e q)
unfolding write_fixed_answer write_fixed_bytes
fixed_back e q s d = go (length s == 16) (fixed_fits e q) refl refl
  where
    go : (l t : Bool) → (length s == 16) ≡ l → fixed_fits e q ≡ t → read_fixed_answer (write_fixed_bytes e q s) ≡ Ok (fixed_fields e q)
    go true true hl ht =
        rw (hl, ht)
        (bytes_back e q (ltb-true e 256 (and_left (nat_lt e 256) (nat_lt q 256) ht)) (ltb-true q 256 (and_right (nat_lt e 256) (nat_lt q 256) ht)))
    go true false hl ht = absurd (let z : ◌≡◌ {A = ℕ} 0 1 = (let w : Err Field ≡ Ok tt = rw (hl, ht) at d in cc) in omega arith)
    go false t hl ht = absurd (let z : ◌≡◌ {A = ℕ} 0 1 = (let w : Err Length ≡ Ok tt = rw hl at d in cc) in omega arith)

-- only MFI2, SQ and the word decide: places 6 to 10 of a packet
pub fixed_decided : (ms ns : List ℕ) → ((i : ℕ) → 6 ≤ i → i ≤ 10 → slice_index ms i % 16 ≡ slice_index ns i % 16) → read_fixed_nibbles ms ≡ read_fixed_nibbles ns
unfolding read_fixed_nibbles
fixed_decided ms ns same =
    rw (same 6 (omega arith) (omega arith), same 7 (omega arith) (omega arith), same 8 (omega arith) (omega arith), same 9 (omega arith) (omega arith), same 10 (omega arith) (omega arith))
    refl

pub fixed_decided_bytes : (s t : List ℕ) → length s ≡ length t → ((i : ℕ) → 6 ≤ i → i ≤ 10 → slice_index s i / 16 ≡ slice_index t i / 16) → read_fixed_answer s ≡ read_fixed_answer t
unfolding read_fixed_answer read_fixed_nibbles highs_of
fixed_decided_bytes s t l same =
    rw (l, same 6 (omega arith) (omega arith), same 7 (omega arith) (omega arith), same 8 (omega arith) (omega arith), same 9 (omega arith) (omega arith), same 10 (omega arith) (omega arith))
    refl

-- A neighbour's packet, whatever the nibbles that are not looked at: its frames count as their tags say, it carries its epoch's number and rules as said.

pub fixed_counted : (unread : ℕ → ℕ) (x e q : ℕ) → e < 256 → e ≡ epoch_of fixed_kind (tag_of fixed_kind x)
    → counts fixed_kind (tag_of fixed_kind x) (slice_index (h4_of (fixed_nibbles_with unread e q)) (place_of fixed_kind (tag_of fixed_kind x))) ≡ true
unfolding fixed_nibbles_with
fixed_counted unread x e q he is =
    counts_h4 fixed_kind (tag_of fixed_kind x) (slice_index (h4_of (fixed_nibbles_with unread e q)) (place_of fixed_kind (tag_of fixed_kind x))) refl
    ∙ counted_with fixed_kind x (fixed_nibbles_with unread e q) e refl he refl refl is

pub fixed_epoch : (unread : ℕ → ℕ) (e q : ℕ) → e < 256 → (fields_of (packet_row fixed_kind (h4_of (fixed_nibbles_with unread e q)))).epoch ≡ e
unfolding fields_of row_from entry_from h4_of fixed_nibbles_with
fixed_epoch unread e q he = omega arith

pub fixed_rules : (unread : ℕ → ℕ) (e q : ℕ) → q < 256 → fixed_ruling_of (packet_row fixed_kind (h4_of (fixed_nibbles_with unread e q))) ≡ record { good = true; word = FIXED; number = q; gid = 0 }
unfolding fixed_ruling_of read_fixed_nibbles row_from entry_from h4_of fixed_nibbles_with
fixed_rules unread e q hq =
    let number : (fixed_ruling_of (packet_row fixed_kind (h4_of (fixed_nibbles_with unread e q)))).number ≡ q = omega arith in
    λ i. record { good = true; word = FIXED; number = number i; gid = 0 }

-- Of any packet: the word that rules is FIXED, and so it is where nothing rules.
pub fixed_word : (ns : List ℕ) → (fixed_ruling_of ns).word ≡ FIXED
unfolding fixed_ruling_of read_fixed_nibbles
fixed_word ns =
    cond_by (λ (q : Reading). (ruling_by q).word ≡ FIXED) (slice_index ns 10 % 16 == FIXED)
    (Ok (fixed_fields (byte_of (slice_index ns 8) (slice_index ns 9)) (byte_of (slice_index ns 6) (slice_index ns 7)))) (Err Unassigned) (λ e. refl) (λ e. refl)

-- and one with another word rules nothing
pub fixed_other : (ns : List ℕ) → slice_index ns 10 % 16 ≢ FIXED → fixed_ruling_of ns ≡ refused
unfolding fixed_ruling_of read_fixed_nibbles
fixed_other ns d = rw (ne_eqb (slice_index ns 10 % 16) FIXED d) refl

-- 9, 8, and 0 for all else
pub fixed_written : (e q : ℕ) (s : List ℕ) → writing_number (write_fixed_answer e q s) ≡ cond (length s == 16) (cond (fixed_fits e q) 0 8) 9
unfolding write_fixed_answer
fixed_written e q s = go (length s == 16) (fixed_fits e q)
  where
    go : (l t : Bool) → writing_number (cond l (cond t (Ok tt) (Err Field)) (Err Length)) ≡ cond l (cond t 0 8) 9
    go true true = refl
    go true false = refl
    go false t = refl

-- 9, 6, and 0 for all else: no 5 and no 7
pub fixed_answered : (s : List ℕ) → reading_number (read_fixed_answer s) ≡ cond (length s == 16) (cond (slice_index s 10 / 16 % 16 == 0) 0 6) 9
unfolding read_fixed_answer read_fixed_nibbles highs_of
fixed_answered s = go (length s == 16) (slice_index s 10 / 16 % 16 == 0) refl refl
  where
    go : (l t : Bool) → (length s == 16) ≡ l → (slice_index s 10 / 16 % 16 == 0) ≡ t → reading_number (read_fixed_answer s) ≡ cond (length s == 16) (cond (slice_index s 10 / 16 % 16 == 0) 0 6) 9
    go true true hl ht = rw (hl, ht) refl
    go true false hl ht = rw (hl, ht) refl
    go false t hl ht = rw hl refl

pub one_bit : (read_fixed_answer (fixed_sent 5) ≡ Ok (fixed_fields 58 5)) × (read_fixed_answer (fixed_sent 4) ≡ Ok (fixed_fields 58 4)) × (bits_apart (bits_of (highs_of (fixed_sent 5))) (bits_of (highs_of (fixed_sent 4))) ≡ 1)
unfolding write_fixed_bytes fixed_nibbles fixed_nibbles_with h4_of highs_of read_fixed_answer read_fixed_nibbles nibble_bits
one_bit = (refl, refl, refl)
