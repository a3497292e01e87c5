-- VC-12's packets (request 2026-01): what is written reads as given, and what reads well is written again identically, over all 29 data bits (request 2026-08). One changed bit of the 32 is refused with 5, and two can pass.
use Rattle.std.specs.Prelude.{◌≡◌, ℕ, ◌+◌, ◌/◌, ◌^◌, ◌<◌, Bool, true, false, cond, ◌≢◌, List, ◌++◌, length, take, drop, replicate, ◌==◌, nat_eq, slice_index, Ok, Err}
use Rattle.std.proofs.Math.Path.{refl, ap}
use Rattle.std.proofs.Common.{◌∙◌, sym, ⊎_elim, arith}
use borrow.Author.Tests.{eq-eqb, eqb-true, lt-ltb, ne_eqb}
use Rattle.std.proofs.Math.ListN.{take-append-drop}
use Rattle.ground.specs.Bits.{bit_number, number, number_lt, odd}
use Rattle.ground.specs.Finite.{same_bits, same_bits_lem}
use Rattle.ground.specs.Polynomial.{bits_apart, check, sealed}
use Rattle.ground.specs.Table.{get_or_tabulate, tabulate, tabulate_ext, tabulate_self}
use Rattle.ground.specs.Truth.{eq_or_ne}
use Rattle.packet.specs.Again.{Started, Vc12Again}
use Rattle.packet.specs.Samples.{nine, sent_of}
use Rattle.packet.specs.declared.layout.Fields.{Fields}
use Rattle.packet.specs.declared.reader.Unread.TheVariants.{Length, Crc, Fixed, Unassigned}
use Rattle.packet.specs.declared.writer.Unwritten.TheVariants.{Field, Length as Short}
use Rattle.packet.specs.Laws.Bounds.{vc12_bounds}
use Rattle.packet.specs.Laws.Vc12.{behind, bits_damaged, data_again, fields_back, front, length_data, length_lowest, length_packet, lowest_back, right_read}
use Rattle.packet.specs.Reading.{read_fields, reading_number, Reading}
use Rattle.packet.specs.Vc12.{frame_byte, lowest_of, read_vc12_answer, read_vc12_bits, vc12_bits, vc12_bytes, vc12_data, vc12_divisor, vc12_fields, vc12_fits, write_vc12_answer, write_vc12_bytes}
use Rattle.packet.specs.Words.{EOS, FIXED, NORM, assigned}
use Rattle.packet.specs.Writing.{Writing}

-- What is written reads as given.

ends : (f : Fields) → check vc12_divisor (take 29 (vc12_bits f)) ≡ drop 29 (vc12_bits f)
unfolding vc12_bits
ends f = rw (front (vc12_data f) (length_data f), behind (vc12_data f) (length_data f)) refl

pub bits_back : (f : Fields) → vc12_fits f ≡ true → read_vc12_bits (vc12_bits f) ≡ Ok f
bits_back f t =
    let b = vc12_bounds f t in
    right_read (vc12_bits f) (ends f) ∙ rw (fields_back f b, b.not_fixed, b.word) refl

-- where a packet is written, the lent bytes are 32 and its fields fit
pub record Vc12Written (f : Fields) (s : List ℕ) : Type 0 where
  pub fits : vc12_fits f ≡ true
  pub bytes : write_vc12_bytes f s ≡ vc12_bytes (vc12_bits f)

pub vc12_written : (f : Fields) (s : List ℕ) → write_vc12_answer f s ≡ Ok tt → Vc12Written f s
unfolding write_vc12_answer write_vc12_bytes
vc12_written f s e = go (length s == 32) (vc12_fits f) refl refl
  where
    go : (l t : Bool) → (length s == 32) ≡ l → vc12_fits f ≡ t → Vc12Written f s
    go true true hl ht = record { fits = ht; bytes = rw (hl, ht) refl }
    go true false hl ht = absurd (let z : ◌≡◌ {A = ℕ} 0 1 = (let w : Err Field ≡ Ok tt = rw (hl, ht) at e in cc) in omega arith)
    go false t hl ht = absurd (let z : ◌≡◌ {A = ℕ} 0 1 = (let w : Err Short ≡ Ok tt = rw hl at e in cc) in omega arith)

-- and its bits are in the lowest of each
pub vc12_bits_lem : (f : Fields) (s : List ℕ) → write_vc12_answer f s ≡ Ok tt → lowest_of (write_vc12_bytes f s) ≡ vc12_bits f
vc12_bits_lem f s e = ap lowest_of (vc12_written f s e).bytes ∙ lowest_back (vc12_bits f) (length_packet f)

length_bytes : (l : List Bool) → length (vc12_bytes l) ≡ 32
unfolding vc12_bytes
length_bytes l = refl

length_written : (f : Fields) (s : List ℕ) → write_vc12_answer f s ≡ Ok tt → length (write_vc12_bytes f s) ≡ 32
length_written f s e = ap length (vc12_written f s e).bytes ∙ length_bytes (vc12_bits f)

pub vc12_back : (f : Fields) (s : List ℕ) → write_vc12_answer f s ≡ Ok tt → read_vc12_answer (write_vc12_bytes f s) ≡ Ok f
unfolding read_vc12_answer
vc12_back f s e = rw (eq-eqb (length (write_vc12_bytes f s)) 32 (length_written f s e), vc12_bits_lem f s e) (bits_back f (vc12_written f s e).fits)

-- What reads well is written again.

-- what it says that 32 bytes read as a packet
record Reads (s : List ℕ) (f : Fields) : Type 0 where
  sized : length s ≡ 32
  right : check vc12_divisor (take 29 (lowest_of s)) ≡ drop 29 (lowest_of s)
  is : vc12_fields (lowest_of s) ≡ f
  not_fixed : nat_eq f.word.0 FIXED ≡ false
  known : assigned f.word ≡ true

fields_read : (f g : Fields) → read_fields g ≡ Ok f → (g ≡ f) × ((f.word.0 == FIXED) ≡ false) × (assigned f.word ≡ true)
fields_read f g e = go (g.word.0 == FIXED) (assigned g.word) refl refl
  where
    go : (x a : Bool) → (g.word.0 == FIXED) ≡ x → assigned g.word ≡ a → (g ≡ f) × ((f.word.0 == FIXED) ≡ false) × (assigned f.word ≡ true)
    go true a hx ha = absurd (let w : Err Fixed ≡ Ok f = rw hx at e in let n = ap reading_number w in omega arith)
    go false false hx ha = absurd (let w : Err Unassigned ≡ Ok f = rw (hx, ha) at e in let n = ap reading_number w in omega arith)
    go false true hx ha =
        let w : Ok g ≡ Ok f = rw (hx, ha) at e in
        let same : g ≡ f = cc in
        (same, rw same at hx, rw same at ha)

reads : (s : List ℕ) (f : Fields) → read_vc12_answer s ≡ Ok f → Reads s f
unfolding read_vc12_answer read_vc12_bits
reads s f e = go (length s == 32) (same_bits (check vc12_divisor (take 29 (lowest_of s))) (drop 29 (lowest_of s))) refl refl
  where
    go : (l c : Bool) → (length s == 32) ≡ l → same_bits (check vc12_divisor (take 29 (lowest_of s))) (drop 29 (lowest_of s)) ≡ c → Reads s f
    go true true hl hc =
        let w : read_fields (vc12_fields (lowest_of s)) ≡ Ok f = rw (hl, hc) at e in
        let r = fields_read f (vc12_fields (lowest_of s)) w in
        record {
          sized = eqb-true (length s) 32 hl;
          right = same_bits_lem (check vc12_divisor (take 29 (lowest_of s))) (drop 29 (lowest_of s)) hc;
          is = r.0;
          not_fixed = r.1;
          known = r.2;
        }
    go true false hl hc = absurd (let w : Err Crc ≡ Ok f = rw (hl, hc) at e in let n = ap reading_number w in omega arith)
    go false c hl hc = absurd (let w : Err Length ≡ Ok f = rw hl at e in let n = ap reading_number w in omega arith)

module _ (s t : List ℕ) (f : Fields) (e : read_vc12_answer s ≡ Ok f) (room : length t ≡ 32) where
  read : Reads s f
  read = reads s f e

  -- the fields of such a packet fit: nobody need ask before he writes them
  fit : vc12_fits f ≡ true
  unfolding vc12_fits vc12_fields lowest_of
  fit =
      rw (
        lt-ltb f.epoch 32 (small (λ g. g.epoch) 5 (take 5 (drop 0 (lowest_of s))) refl refl),
        lt-ltb f.mst 256 (small (λ g. g.mst) 8 (take 8 (drop 21 (lowest_of s))) refl refl),
        lt-ltb f.sq 64 (small (λ g. g.sq) 6 (take 6 (drop 5 (lowest_of s))) refl refl),
        lt-ltb f.gid 2 (small (λ g. g.gid) 1 (take 1 (drop 15 (lowest_of s))) refl refl),
        lt-ltb f.rs_ack 2 (small (λ g. g.rs_ack) 1 (take 1 (drop 20 (lowest_of s))) refl refl),
        lt-ltb f.reserved 16 (small (λ g. g.reserved) 4 (take 4 (drop 16 (lowest_of s))) refl refl),
        read.not_fixed,
        read.known,
      ) refl
    where
      small : (of : Fields → ℕ) (k : ℕ) (l : List Bool) → of (vc12_fields (lowest_of s)) ≡ number l → length l ≡ k → of f < 2 ^ k
      small of k l is h = rw (sym (ap of read.is) ∙ is) (rw h at (number_lt l))

  done : write_vc12_answer f t ≡ Ok tt
  unfolding write_vc12_answer
  done = rw (eq-eqb (length t) 32 room, fit) refl

  same : vc12_bits f ≡ lowest_of s
  unfolding vc12_bits lowest_of
  same =
      let ahead : vc12_data f ≡ take 29 (lowest_of s) = ap vc12_data (sym read.is) ∙ data_again (λ k. odd (slice_index s k)) in
      ap (sealed vc12_divisor) ahead ∙ ap (λ (c : List Bool). take 29 (lowest_of s) ++ c) read.right ∙ take-append-drop 29 (lowest_of s)

  pub vc12_again : Vc12Again s t f
  vc12_again = record { answer = done; bits = vc12_bits_lem f t done ∙ same }

  -- and of bytes as a host hands them in, each byte
  pub vc12_again_bytes : Started s → write_vc12_bytes f t ≡ s
  unfolding vc12_bytes lowest_of
  vc12_again_bytes h =
      (vc12_written f t done).bytes
      ∙ ap vc12_bytes same
      ∙ tabulate_ext 32 _ (λ k. slice_index s k) at
      ∙ ap (λ (n : ℕ). tabulate n (λ k. slice_index s k)) (sym read.sized)
      ∙ tabulate_self s 0
    where
      byte : (k n : ℕ) → (k ≡ 0 → n / 2 ≡ 1) → (0 < k → n < 2) → cond (k == 0) 2 0 + cond (odd n) 1 0 ≡ n
      byte k n one none = rw (bit_number n) (⊎_elim (λ (z : k ≡ 0). let o = one z in rw (eq-eqb k 0 z) (omega arith)) (λ (d : k ≢ 0). let o = none (omega arith) in rw (ne_eqb k 0 d) (omega arith)) (eq_or_ne k 0))

      at : (k : ℕ) → k < 32 → frame_byte (tabulate 32 (λ j. odd (slice_index s j))) k ≡ slice_index s k
      at k b =
          rw (get_or_tabulate 32 (λ j. odd (slice_index s j)) k false b)
          (byte k (slice_index s k) (λ z. rw z h.first) (λ p. h.others k p b))

-- One changed bit is refused with 5, and two can pass.

pub vc12_damaged : (f : Fields) (s came : List ℕ) → write_vc12_answer f s ≡ Ok tt → length came ≡ 32
    → bits_apart (lowest_of (write_vc12_bytes f s)) (lowest_of came) ≡ 1 → read_vc12_answer came ≡ Err Crc
unfolding read_vc12_answer vc12_bits
vc12_damaged f s came e h one =
    rw (eq-eqb (length came) 32 h)
    (bits_damaged (vc12_data f) (lowest_of came) (length_data f) (length_lowest came) (rw (vc12_bits_lem f s e) at one))

pub two_bits : (read_vc12_answer (sent_of (nine NORM 0)) ≡ Ok (nine NORM 0)) × (read_vc12_answer (sent_of (nine EOS 0x80)) ≡ Ok (nine EOS 0x80))
    × (bits_apart (lowest_of (sent_of (nine NORM 0))) (lowest_of (sent_of (nine EOS 0x80))) ≡ 2)
unfolding write_vc12_bytes vc12_fits vc12_bytes vc12_bits vc12_data vc12_divisor read_vc12_answer read_vc12_bits vc12_fields lowest_of assigned
two_bits = (refl, refl, refl)

-- No second answer, and no second byte, meets what writing and reading promise.

pub record Vc12Writes (f : Fields) (frames : List ℕ) (r : Writing) (t : List ℕ) : Type 0 where
  pub answer : r ≡ write_vc12_answer f frames
  pub bytes : t ≡ write_vc12_bytes f frames

pub one_vc12_writing : (f : Fields) (frames : List ℕ) (r q : Writing) (t u : List ℕ) → Vc12Writes f frames r t → Vc12Writes f frames q u → (r ≡ q) × (t ≡ u)
one_vc12_writing f frames r q t u a b = (a.answer ∙ sym b.answer, a.bytes ∙ sym b.bytes)

pub one_vc12_reading : (frames : List ℕ) (r q : Reading) → r ≡ read_vc12_answer frames → q ≡ read_vc12_answer frames → r ≡ q
one_vc12_reading frames r q a b = a ∙ sym b

-- Shut out by name: a reader that refuses all. It breaks on every packet that is written.

written : write_vc12_answer (nine NORM 0) (replicate 32 0) ≡ Ok tt
unfolding write_vc12_answer vc12_fits assigned
written = refl

pub vc12_refuses_all : (read : List ℕ → Reading) → ((frames : List ℕ) → read frames ≡ read_vc12_answer frames) → ((frames : List ℕ) → reading_number (read frames) ≢ 0) → ⊥
vc12_refuses_all _ meets refuses =
    refuses (sent_of (nine NORM 0)) (ap reading_number (meets (sent_of (nine NORM 0)) ∙ vc12_back (nine NORM 0) (replicate 32 0) written))
