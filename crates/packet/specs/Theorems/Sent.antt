-- A packet as our sender writes it, over the kind of packet: it has a byte for each frame of its epoch, these count as their tags say, it reads back as its fields, and one that came changed is refused with 5. Each law goes by H4's layout and by VC-12's.
use Rattle.std.specs.Prelude.{◌≡◌, ℕ, zero, suc, ◌+◌, ◌-◌, ◌*◌, ◌/◌, ◌%◌, ◌^◌, ◌<◌, ◌≤◌, Bool, true, false, cond, List, length, get_or, ◌==◌, nat_eq, slice_index, slice_index_or, Ok, Err}
use Rattle.std.proofs.Math.Path.{refl}
use Rattle.std.proofs.Common.{◌∙◌, sym, ap}
use native.Mathlib.Omega.{arith}
use Rattle.ground.specs.Bits.{bit_number, odd}
use Rattle.ground.specs.Polynomial.{bits_apart}
use Rattle.ground.specs.Table.{get_or_tabulate, tabulate, tabulate_ext}
use Rattle.packet.specs.AsSent.{Sent}
use Rattle.packet.specs.Changes.{changed, changed_bits, most_changes}
use Rattle.packet.specs.Counts.{counts, says_start, told_bits, vc12_counts}
use Rattle.packet.specs.Kinds.{epoch_of, fixed_kind, frames, lead, place_of, tag_of, tags, vc12_kind}
use Rattle.packet.specs.Laws.Bounds.{bounds}
use Rattle.packet.specs.Laws.Clock.{by_kind}
use Rattle.packet.specs.Laws.Counting.{counted_as_sent, counts_as_vc12, counts_h4, counts_vc12}
use Rattle.packet.specs.Laws.Vc12.{bits_damaged, length_data as length_bits, length_lowest}
use Rattle.packet.specs.Layout.{data_of, h4_of, highs_of, nibbles_of}
use Rattle.packet.specs.Ruling.{read_row}
use Rattle.packet.specs.Sent.{sent_answer, sent_bytes, sent_fits}
use Rattle.packet.specs.Symbols.{entry_from, packet_row, row_from}
use Rattle.packet.specs.Theorems.Damage.{length_data, length_highs, nibbles_damaged, sent}
use Rattle.packet.specs.Theorems.ReadBack.{nibbles_back, written_as}
use Rattle.packet.specs.Theorems.Vc12.{bits_back, vc12_bits_lem, vc12_written}
use Rattle.packet.specs.Vc12.{frame_byte, lowest_of, read_vc12_bits, read_vc12_row, row_bits, vc12_bits, vc12_bytes, vc12_data, write_vc12_answer, write_vc12_bytes}
use Rattle.packet.specs.Writing.{write_answer, write_bytes}
use Rattle.packet.specs.declared.layout.Fields.{Fields}
use Rattle.packet.specs.declared.reader.Unread.TheVariants.{Crc}

-- The entries of a packet's row: of H4 the high nibbles, of VC-12 the lowest bits.

pub row_highs : (kind : ℕ) (bytes : List ℕ) → (kind == vc12_kind) ≡ false → packet_row kind bytes ≡ highs_of bytes
unfolding row_from entry_from highs_of
row_highs kind bytes clock = rw clock refl

row_lowest : (bytes : List ℕ) → row_bits (packet_row vc12_kind bytes) ≡ lowest_of bytes
unfolding row_bits row_from entry_from lowest_of
row_lowest bytes = tabulate_ext 32 _ (λ k. odd (slice_index bytes k)) at
  where
    pair : ℕ → ℕ
    pair j = slice_index bytes (2 * j) % 2 * 2 + slice_index bytes (2 * j + 1) % 2

    halves : (k m : ℕ) → k % 2 ≡ m → m < 2 → odd (pair (k / 2) / 2 ^ (1 - m)) ≡ odd (slice_index bytes k)
    halves k zero e l =
        let i : 2 * (k / 2) ≡ k = omega arith in
        let n : (slice_index bytes (2 * (k / 2)) % 2 * 2 + slice_index bytes (2 * (k / 2) + 1) % 2) / 2 % 2 ≡ slice_index bytes (2 * (k / 2)) % 2 = omega arith in
        ap (λ (q : ℕ). nat_eq q 1) (n ∙ ap (λ (q : ℕ). slice_index bytes q % 2) i)
    halves k (suc zero) e l =
        let i : 2 * (k / 2) + 1 ≡ k = omega arith in
        let n : (slice_index bytes (2 * (k / 2)) % 2 * 2 + slice_index bytes (2 * (k / 2) + 1) % 2) / 1 % 2 ≡ slice_index bytes (2 * (k / 2) + 1) % 2 = omega arith in
        ap (λ (q : ℕ). nat_eq q 1) (n ∙ ap (λ (q : ℕ). slice_index bytes q % 2) i)
    halves k (suc (suc m)) e l = absurd (omega arith)

    at : (k : ℕ) → k < 32 → odd (slice_index (tabulate 16 pair) (k / 2) / 2 ^ (1 - k % 2)) ≡ odd (slice_index bytes k)
    at k l = rw (get_or_tabulate 16 pair (k / 2) 0 (omega arith)) (halves k (k % 2) refl (omega arith))

-- VC-12: a written packet's byte at the place of a tag of its epoch.

said_first : (b : Bool) (k : ℕ) → says_start (cond (k == 0) 2 0 + cond b 1 0) ≡ (k == 0)
unfolding says_start
said_first b k = go (k == 0) b
  where
    go : (s c : Bool) → ((cond s 2 0 + cond c 1 0) / 2 % 2 == 1) ≡ s
    go true true = refl
    go true false = refl
    go false true = refl
    go false false = refl

bit_of_lem : (s b : Bool) → (cond s 2 0 + cond b 1 0) % 2 ≡ cond b 1 0
bit_of_lem true true = refl
bit_of_lem true false = refl
bit_of_lem false true = refl
bit_of_lem false false = refl

count_bit : (f : Fields) (k : ℕ) → k < 5 → cond (slice_index_or (vc12_bits f) k false) 1 0 ≡ told_bits f.epoch k % 2
unfolding vc12_bits vc12_data told_bits
count_bit f zero l = bit_number (f.epoch / 2 ^ 4)
count_bit f (suc zero) l = bit_number (f.epoch / 2 ^ 3)
count_bit f (suc (suc zero)) l = bit_number (f.epoch / 2 ^ 2)
count_bit f (suc (suc (suc zero))) l = bit_number (f.epoch / 2 ^ 1)
count_bit f (suc (suc (suc (suc zero)))) l = bit_number (f.epoch / 2 ^ 0)
count_bit f (suc (suc (suc (suc (suc k))))) l = absurd (omega arith)

vc12_counted : (x : ℕ) (f : Fields) → f.epoch ≡ x % 1024 / 32 → vc12_counts (x % 1024) (slice_index (vc12_bytes (vc12_bits f)) (x % 1024 % 32)) ≡ true
unfolding vc12_bytes
vc12_counted x f e =
    let k : ℕ = x % 1024 % 32 in
    let byte : get_or (tabulate 32 (frame_byte (vc12_bits f))) (x % 1024 % 32) 0 ≡ frame_byte (vc12_bits f) (x % 1024 % 32) = get_or_tabulate 32 (frame_byte (vc12_bits f)) (x % 1024 % 32) 0 (omega arith) in
    let own : f.epoch ≡ x % 1024 % 1024 / 32 = e ∙ (omega arith) in
    rw byte
    (counts_as_vc12 (x % 1024) (frame_byte (vc12_bits f) (x % 1024 % 32)) (said_first (slice_index_or (vc12_bits f) (x % 1024 % 32) false) (x % 1024 % 32))
    (λ l. bit_of_lem (x % 1024 % 32 == 0) (slice_index_or (vc12_bits f) (x % 1024 % 32) false) ∙ count_bit f (x % 1024 % 32) l ∙ ap (λ (n : ℕ). told_bits n (x % 1024 % 32) % 2) own))

-- The laws, one kind after the other.

damaged_vc12 : (f : Fields) (came : List ℕ) → bits_apart (vc12_bits f) (lowest_of came) ≡ 1 → read_vc12_bits (lowest_of came) ≡ Err Crc
unfolding vc12_bits
damaged_vc12 f came one = bits_damaged (vc12_data f) (lowest_of came) (length_bits f) (length_lowest came) one

of_vc12_lem : (f : Fields) (s : List ℕ) → write_vc12_answer f s ≡ Ok tt → Sent vc12_kind f s
unfolding sent_fits sent_bytes frames read_row read_vc12_row changed most_changes epoch_of place_of tags lead vc12_bytes
of_vc12_lem f s done =
    let w = vc12_written f s done in
    let low : lowest_of (write_vc12_bytes f s) ≡ vc12_bits f = vc12_bits_lem f s done in
    record {
      fits = w.fits;
      long = ap length w.bytes;
      told = λ x e. rw (counts_vc12 (x % 1024) (slice_index (write_vc12_bytes f s) ((x % 1024 + 0) % 32)), w.bytes) (let z : x % 1024 + 0 ≡ x % 1024 = omega arith in rw z (vc12_counted x f (e ∙ omega arith)));
      reads = rw (row_lowest (write_vc12_bytes f s), low) (bits_back f w.fits);
      refused = λ came one most. let single : bits_apart (lowest_of (write_vc12_bytes f s)) (lowest_of came) ≡ 1 = omega arith in rw (row_lowest came) (damaged_vc12 f came (rw low at single));
    }

module _ (kind : ℕ) (f : Fields) (s : List ℕ) (clock : nat_eq kind vc12_kind ≡ false) (done : write_answer f s ≡ Ok tt) where
  h4_fits : sent_fits kind f ≡ true
  unfolding sent_fits
  h4_fits = rw clock (written_as f s done).fits

  bytes : sent_bytes kind f s ≡ write_bytes f s
  unfolding sent_bytes
  bytes = rw clock refl

  h4_long : length (sent_bytes kind f s) ≡ frames kind
  unfolding h4_of frames
  h4_long = rw (bytes, clock) (ap length (written_as f s done).bytes)

  h4_told : (x : ℕ) → f.epoch ≡ epoch_of kind (tag_of kind x) → counts kind (tag_of kind x) (slice_index (sent_bytes kind f s) (place_of kind (tag_of kind x))) ≡ true
  h4_told x e =
      rw (counts_h4 kind (tag_of kind x) (slice_index (sent_bytes kind f s) (place_of kind (tag_of kind x))) clock, bytes, (written_as f s done).bytes)
      (counted_as_sent kind x f clock (bounds f (written_as f s done).fits).epoch e)

  row : packet_row kind (sent_bytes kind f s) ≡ nibbles_of f
  unfolding nibbles_of
  row = row_highs kind (sent_bytes kind f s) clock ∙ rw bytes (sent f s done)

  h4_reads : read_row kind (packet_row kind (sent_bytes kind f s)) ≡ Ok f
  unfolding read_row
  h4_reads = rw (clock, row) (nibbles_back f (written_as f s done).fits)

  most_three : most_changes kind ≤ 3
  unfolding most_changes
  most_three = rw clock (three (kind == fixed_kind))
    where
      three : (b : Bool) → cond b 0 3 ≤ 3
      three true = omega arith
      three false = omega arith

  apart_is : (came : List ℕ) → changed kind (sent_bytes kind f s) came ≡ changed_bits (write_bytes f s) came
  unfolding changed
  apart_is came = rw (clock, bytes) refl

  h4_refused : (came : List ℕ) → 1 ≤ changed kind (sent_bytes kind f s) came → changed kind (sent_bytes kind f s) came ≤ most_changes kind → read_row kind (packet_row kind came) ≡ Err Crc
  unfolding read_row
  h4_refused came low high =
      let few = most_three in
      let is = apart_is came in
      let least : 1 ≤ changed_bits (write_bytes f s) came = omega arith in
      let most : changed_bits (write_bytes f s) came ≤ 3 = omega arith in
      rw (clock, row_highs kind came clock) (nibbles_damaged (data_of f) (highs_of came) (length_data f) (length_highs came) (rw (sent f s done) at least) (rw (sent f s done) at most))

  of_h4 : Sent kind f s
  of_h4 = record { fits = h4_fits; long = h4_long; told = h4_told; reads = h4_reads; refused = h4_refused }

pub sent_as : (kind : ℕ) (f : Fields) (s : List ℕ) → sent_answer kind f s ≡ Ok tt → Sent kind f s
unfolding sent_answer
sent_as kind f s = by_kind (λ k. sent_answer k f s ≡ Ok tt → Sent k f s) (λ done. of_vc12_lem f s done) (λ k clock done. of_h4 k f s clock (rw clock at done)) kind

-- Of H4's kind and of VC-12's.

pub sent_h4_lem : (f : Fields) (s : List ℕ) → (sent_answer 0 f s ≡ write_answer f s) × (sent_bytes 0 f s ≡ write_bytes f s)
unfolding sent_answer sent_bytes
sent_h4_lem f s = (refl, refl)

pub sent_vc12 : (f : Fields) (s : List ℕ) → (sent_answer vc12_kind f s ≡ write_vc12_answer f s) × (sent_bytes vc12_kind f s ≡ write_vc12_bytes f s)
unfolding sent_answer sent_bytes
sent_vc12 f s = (refl, refl)

-- the lent bytes do not matter
pub sent_same : (kind : ℕ) (f : Fields) (s t : List ℕ) → sent_answer kind f s ≡ Ok tt → sent_answer kind f t ≡ Ok tt → sent_bytes kind f s ≡ sent_bytes kind f t
unfolding sent_answer sent_bytes
sent_same kind f s t = go (kind == vc12_kind)
  where
    go : (b : Bool) → cond b (write_vc12_answer f s) (write_answer f s) ≡ Ok tt → cond b (write_vc12_answer f t) (write_answer f t) ≡ Ok tt
        → cond b (write_vc12_bytes f s) (write_bytes f s) ≡ cond b (write_vc12_bytes f t) (write_bytes f t)
    go true done other = (vc12_written f s done).bytes ∙ sym (vc12_written f t other).bytes
    go false done other = (written_as f s done).bytes ∙ sym (written_as f t other).bytes
