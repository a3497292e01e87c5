-- What a frame's byte says of its count as sent, of H4 and of VC-12. These laws meet the layout of the kind's packet.
use Rattle.std.specs.Prelude.{◌≡◌, ℕ, ◌+◌, ◌-◌, ◌*◌, ◌/◌, ◌%◌, ◌<◌, Bool, true, false, cond, not, ◌&&◌, ◌||◌, ◌≢◌, List, ◌==◌, nat_eq, nat_lt, slice_index, refl}
use Rattle.std.proofs.Common.{◌∙◌, ap, ⊎_elim}
use native.Mathlib.Omega.{arith}
use borrow.Author.Tests.{eq-eqb, ne_eqb, eqb-true, lt-ltb, ltb-true, not-true}
use Rattle.ground.specs.Truth.{and_left, and_right, and-true, eq_or_ne, or_left, or_right}
use Rattle.packet.specs.Counts.{carries_low, counts, h4_counts, says_start, starts_count, tag_by_high, tag_by_low, told_bits, told_first, vc12_counts}
use Rattle.packet.specs.Kinds.{epoch_of, frames, lead, place_of, tag_before, tag_of, tags, vc12_kind}
use Rattle.packet.specs.Laws.Clock.{h4_clock}
use Rattle.packet.specs.Theorems.Tags.{place_sent}
use Rattle.packet.specs.declared.layout.Fields.{Fields}
use Rattle.packet.specs.Layout.{data_of, h4_of, nibbles_of, sealed_of}

pub counts_h4 : (kind t h : ℕ) → (kind == vc12_kind) ≡ false → counts kind t h ≡ h4_counts t h
unfolding counts
counts_h4 kind t h clock = rw clock refl

pub counts_vc12 : (t h : ℕ) → counts vc12_kind t h ≡ vc12_counts t h
unfolding counts
counts_vc12 t h = refl

-- H4.

-- the three tests of a right count

abbrev first : ℕ → ℕ → Bool
first t h = h % 16 == t % 16

abbrev high : ℕ → ℕ → Bool
high t h = not (t % 16 == 0) || h / 16 == t / 256 % 16

abbrev low : ℕ → ℕ → Bool
low t h = not (t % 16 == 1) || h / 16 == t / 16 % 16

counts_first : (t h : ℕ) → h4_counts t h ≡ true → h % 16 ≡ t % 16
unfolding h4_counts
counts_first t h e =
    eqb-true (h % 16) (t % 16) (and_left (first t h) (high t h) (and_left (first t h && high t h) (low t h) e))

pub counts_high : (t h : ℕ) → h4_counts t h ≡ true → t % 16 ≡ 0 → h / 16 ≡ t / 256 % 16
unfolding h4_counts
counts_high t h e z =
    let test : high t h ≡ true = and_right (first t h) (high t h) (and_left (first t h && high t h) (low t h) e) in
    eqb-true (h / 16) (t / 256 % 16) (rw (eq-eqb (t % 16) 0 z) at test)

pub counts_low : (t h : ℕ) → h4_counts t h ≡ true → t % 16 ≡ 1 → h / 16 ≡ t / 16 % 16
unfolding h4_counts
counts_low t h e z =
    let test : low t h ≡ true = and_right (first t h && high t h) (low t h) e in
    eqb-true (h / 16) (t / 16 % 16) (rw (eq-eqb (t % 16) 1 z) at test)

-- a test that is asked only where m is n
implied : (m n p q : ℕ) → (m ≡ n → p ≡ q) → (not (m == n) || p == q) ≡ true
implied m n p q f =
    ⊎_elim (λ (e : m ≡ n). or_right (not (m == n)) (p == q) (eq-eqb p q (f e)))
    (λ (d : m ≢ n). or_left (not (m == n)) (p == q) (ap not (ne_eqb m n d)))
    (eq_or_ne m n)

counts_by_lem : (t h : ℕ) → h % 16 ≡ t % 16 → (t % 16 ≡ 0 → h / 16 ≡ t / 256 % 16) → (t % 16 ≡ 1 → h / 16 ≡ t / 16 % 16) → h4_counts t h ≡ true
unfolding h4_counts
counts_by_lem t h same_first same-high same_low =
    and-true (first t h && high t h) (low t h)
    (and-true (first t h) (high t h) (eq-eqb (h % 16) (t % 16) same_first) (implied (t % 16) 0 (h / 16) (t / 256 % 16) same-high))
    (implied (t % 16) 1 (h / 16) (t / 16 % 16) same_low)

-- from MFI1 2 on a frame tells nothing of MFI2
pub counts_later : (t h : ℕ) → 1 < t % 16 → (h % 16 == t % 16) ≡ h4_counts t h
unfolding h4_counts
counts_later t h b =
    let none : t % 16 ≢ 0 = (λ (z : t % 16 ≡ 0). omega arith) in
    let one : t % 16 ≢ 1 = (λ (z : t % 16 ≡ 1). omega arith) in
    rw (ne_eqb (t % 16) 0 none, ne_eqb (t % 16) 1 one) (kept (first t h))
  where
    kept : (b : Bool) → b ≡ (b && true && true)
    kept true = refl
    kept false = refl

-- A frame of a run of the step rule.

module _ (kind x h : ℕ) (clock : nat_eq kind vc12_kind ≡ false) (sent : h4_counts (tag_of kind x) h ≡ true) where
  -- a frame with MFI1 0 can be the first of a run
  pub sent_starts : x % frames kind ≡ 0 → starts_count kind h ≡ true
  unfolding starts_count
  sent_starts z =
      h4_clock (λ L E N l. h4_counts (x % N) h ≡ true → x % L ≡ 0 → (h % 16 == 0) ≡ true)
      (λ s y. let e : h % 16 ≡ x % 4096 % 16 = counts_first (x % 4096) h s in eq-eqb (h % 16) 0 (omega arith)) kind clock sent z

  pub sent_first : x % frames kind ≡ 0 → tag_by_high kind h ≡ told_first kind x
  unfolding tag_by_high told_first
  sent_first z =
      h4_clock (λ L E N l. h4_counts (x % N) h ≡ true → x % L ≡ 0 → h / 16 % 16 * 256 + 1 ≡ x % N / 256 * 256 + 1)
      (λ s y. let e : h / 16 ≡ x % 4096 / 256 % 16 = counts_high (x % 4096) h s (omega arith) in omega arith) kind clock sent z

  -- and no other can
  pub sent_starts_not : (x % frames kind ≢ 0) → starts_count kind h ≡ false
  unfolding starts_count
  sent_starts_not n =
      h4_clock (λ L E N l. h4_counts (x % N) h ≡ true → (x % L ≢ 0) → (h % 16 == 0) ≡ false)
      (λ s m. let e : h % 16 ≡ x % 4096 % 16 = counts_first (x % 4096) h s in ne_eqb (h % 16) 0 (λ (z : h % 16 ≡ 0). m (omega arith))) kind clock sent n

same_low_nibble : (t : ℕ) → t % 16 ≡ 0 → (t + 1) / 16 % 16 % 16 ≡ t / 16 % 16
same_low_nibble t z = omega arith

-- the tag before the one that it tells of is at its own place
pub told_place : (kind x : ℕ) → (kind == vc12_kind) ≡ false → x % frames kind ≡ 0 → place_of kind (tag_before kind (told_first kind x)) ≡ place_of kind (tag_of kind x)
unfolding told_first tag_before place_of
told_place kind x clock z =
    h4_clock (λ L E N l. x % L ≡ 0 → ((x % N / 256 * 256 + 1 + (N - 1)) % N + l) % L ≡ (x % N + l) % L) (λ y. omega arith) kind clock z

nibbles_told : (t n : ℕ) → t < 4096 → t % 16 ≡ 0 → n ≡ t / 16 % 16 → (t / 256 * 256 + 1) / 256 % 16 * 256 + n * 16 + 2 ≡ t + 2
nibbles_told t n below z e =
    let q : (t / 256 * 256 + 1) / 256 % 16 ≡ t / 256 = omega arith in
    rw (q, e) (omega arith)

-- the frame after the first has MFI1 1, and the two together tell the tag
module _ (kind x h : ℕ) (clock : nat_eq kind vc12_kind ≡ false) (z : x % frames kind ≡ 0) (sent : h4_counts (tag_of kind (x + 1)) h ≡ true) where
  pub sent_second : carries_low kind h ≡ true
  unfolding carries_low
  sent_second =
      h4_clock (λ L E N l. h4_counts ((x + 1) % N) h ≡ true → x % L ≡ 0 → (h % 16 == 1) ≡ true)
      (λ s y. let e : h % 16 ≡ (x + 1) % 4096 % 16 = counts_first ((x + 1) % 4096) h s in eq-eqb (h % 16) 1 (omega arith)) kind clock sent z

  pub sent_told : tag_by_low kind (told_first kind x) h ≡ tag_of kind (x + 1 + 1)
  unfolding tag_by_low told_first
  sent_told =
      h4_clock (λ L E N l. h4_counts ((x + 1) % N) h ≡ true → x % L ≡ 0 → (x % N / 256 * 256 + 1) / 256 % 16 * 256 + h / 16 % 16 * 16 + 2 ≡ (x + 1 + 1) % N)
      (λ s y.
      let e : h / 16 ≡ (x + 1) % 4096 / 16 % 16 = counts_low ((x + 1) % 4096) h s (omega arith) in
      let t : (x + 1) % 4096 ≡ x % 4096 + 1 = omega arith in
      let nibble : h / 16 % 16 ≡ x % 4096 / 16 % 16 = rw (e, t) (same_low_nibble (x % 4096) (omega arith)) in
      let two : x % 4096 + 2 ≡ (x + 1 + 1) % 4096 = omega arith in
      nibbles_told (x % 4096) (h / 16 % 16) (omega arith) (omega arith) nibble ∙ two) kind clock sent z

-- the tags that the first two frames tell of are tags, at the second and third frame of a multiframe
pub high_told : (kind h : ℕ) → (kind == vc12_kind) ≡ false → (tag_by_high kind h < tags kind) × (tag_by_high kind h % frames kind ≡ 1 % frames kind)
unfolding tag_by_high
high_told kind h clock = h4_clock (λ L E N l. (h / 16 % 16 * 256 + 1 < N) × ((h / 16 % 16 * 256 + 1) % L ≡ 1 % L)) (omega arith, omega arith) kind clock

pub low_told : (kind t h : ℕ) → (kind == vc12_kind) ≡ false → (tag_by_low kind t h < tags kind) × (tag_by_low kind t h % frames kind ≡ 2 % frames kind)
unfolding tag_by_low
low_told kind t h clock =
    h4_clock (λ L E N l. (t / 256 % 16 * 256 + h / 16 % 16 * 16 + 2 < N) × ((t / 256 % 16 * 256 + h / 16 % 16 * 16 + 2) % L ≡ 2 % L)) (omega arith, omega arith) kind clock

-- The packet of an epoch.

-- the two nibbles of MFI2 in a packet's H4 bytes
high_sent : (kind : ℕ) (ns : List ℕ) (e : ℕ) → (kind == vc12_kind) ≡ false → e < 256 → slice_index ns 8 ≡ e / 16 → slice_index (h4_of ns) (lead kind) / 16 ≡ e / 16
unfolding h4_of
high_sent kind ns e clock b is = h4_clock (λ L E N l. slice_index (h4_of ns) l / 16 ≡ e / 16) (omega arith) kind clock

low_sent : (kind : ℕ) (ns : List ℕ) (e : ℕ) → (kind == vc12_kind) ≡ false → slice_index ns 9 ≡ e % 16 → slice_index (h4_of ns) (lead kind + 1) / 16 ≡ e % 16
unfolding h4_of
low_sent kind ns e clock is = h4_clock (λ L E N l. slice_index (h4_of ns) (l + 1) / 16 ≡ e % 16) (omega arith) kind clock

-- where they stand, and what the tag's epoch then is
place_high : (kind t : ℕ) → (kind == vc12_kind) ≡ false → t % 16 ≡ 0 → place_of kind t ≡ lead kind
unfolding place_of
place_high kind t clock z = h4_clock (λ L E N l. (t + l) % L ≡ l) (omega arith) kind clock

place_low : (kind t : ℕ) → (kind == vc12_kind) ≡ false → t % 16 ≡ 1 → place_of kind t ≡ lead kind + 1
unfolding place_of
place_low kind t clock z = h4_clock (λ L E N l. (t + l) % L ≡ l + 1) (omega arith) kind clock

epoch_high : (kind x : ℕ) → (kind == vc12_kind) ≡ false → tag_of kind x % 16 ≡ 0 → epoch_of kind (tag_of kind x) / 16 ≡ tag_of kind x / 256 % 16
unfolding epoch_of
epoch_high kind x clock z = h4_clock (λ L E N l. x % N % 16 ≡ 0 → (x % N + l) % N / L / 16 ≡ x % N / 256 % 16) (λ y. omega arith) kind clock z

epoch_low : (kind x : ℕ) → (kind == vc12_kind) ≡ false → tag_of kind x % 16 ≡ 1 → epoch_of kind (tag_of kind x) % 16 ≡ tag_of kind x / 16 % 16
unfolding epoch_of
epoch_low kind x clock z = h4_clock (λ L E N l. x % N % 16 ≡ 1 → (x % N + l) % N / L % 16 ≡ x % N / 16 % 16) (λ y. omega arith) kind clock z

-- nibbles with the epoch of the tag of x in MFI2's places: the H4 byte at the tag's place counts as the tag says
pub counted_with : (kind x : ℕ) (ns : List ℕ) (e : ℕ) → (kind == vc12_kind) ≡ false → e < 256 → slice_index ns 8 ≡ e / 16 → slice_index ns 9 ≡ e % 16 → e ≡ epoch_of kind (tag_of kind x)
    → h4_counts (tag_of kind x) (slice_index (h4_of ns) (place_of kind (tag_of kind x))) ≡ true
counted_with kind x ns e clock b high low is =
    let t : ℕ = tag_of kind x in
    counts_by_lem t (slice_index (h4_of ns) (place_of kind t)) (place_sent ns kind t clock)
    (λ (q : t % 16 ≡ 0). ap (λ (k : ℕ). slice_index (h4_of ns) k / 16) (place_high kind t clock q) ∙ high_sent kind ns e clock b high ∙ ap (λ (n : ℕ). n / 16) is ∙ epoch_high kind x clock q)
    (λ (q : t % 16 ≡ 1). ap (λ (k : ℕ). slice_index (h4_of ns) k / 16) (place_low kind t clock q) ∙ low_sent kind ns e clock low ∙ ap (λ (n : ℕ). n % 16) is ∙ epoch_low kind x clock q)

-- so of a packet of 01 with that epoch
pub counted_as_sent : (kind x : ℕ) (f : Fields) → (kind == vc12_kind) ≡ false → f.epoch < 256 → f.epoch ≡ epoch_of kind (tag_of kind x)
    → h4_counts (tag_of kind x) (slice_index (h4_of (nibbles_of f)) (place_of kind (tag_of kind x))) ≡ true
unfolding nibbles_of sealed_of data_of
counted_as_sent kind x f clock b is = counted_with kind x (nibbles_of f) f.epoch clock b refl refl is

-- so does a byte with MFI1 as in one that counts, and with its nibble where that is one of MFI2
pub counts_as : (kind t h g : ℕ) → (kind == vc12_kind) ≡ false → h4_counts t g ≡ true → h % 16 ≡ g % 16
    → (place_of kind t ≡ lead kind → h / 16 ≡ g / 16) → (place_of kind t ≡ lead kind + 1 → h / 16 ≡ g / 16) → h4_counts t h ≡ true
counts_as kind t h g clock e same same-high same_low =
    counts_by_lem t h (same ∙ counts_first t g e) (λ (z : t % 16 ≡ 0). same-high (place_high kind t clock z) ∙ counts_high t g e z)
    (λ (z : t % 16 ≡ 1). same_low (place_low kind t clock z) ∙ counts_low t g e z)

-- VC-12.

-- the two tests of a right count

abbrev start : ℕ → ℕ → Bool
start t h = cond (t % 32 == 0) (says_start h) (not (says_start h))

abbrev bit : ℕ → ℕ → Bool
bit t h = not (nat_lt (t % 32) 5) || h % 2 == told_bits (t % 1024 / 32) (t % 32) % 2

told_same : (b c : Bool) → cond b c (not c) ≡ true → c ≡ b
told_same true c e = e
told_same false c e = not-true c e

same_told : (b c : Bool) → c ≡ b → cond b c (not c) ≡ true
same_told true c e = e
same_told false c e = rw e refl

pub counts_start : (t h : ℕ) → vc12_counts t h ≡ true → says_start h ≡ (t % 32 == 0)
unfolding vc12_counts
counts_start t h e = told_same (t % 32 == 0) (says_start h) (and_left (start t h) (bit t h) e)

pub counts_bit : (t h : ℕ) → vc12_counts t h ≡ true → t % 32 < 5 → h % 2 ≡ told_bits (t % 1024 / 32) (t % 32) % 2
unfolding vc12_counts
counts_bit t h e l =
    let test : bit t h ≡ true = and_right (start t h) (bit t h) e in
    eqb-true (h % 2) (told_bits (t % 1024 / 32) (t % 32) % 2) (rw (lt-ltb (t % 32) 5 l) at test)

pub counts_as_vc12 : (t h : ℕ) → says_start h ≡ (t % 32 == 0) → (t % 32 < 5 → h % 2 ≡ told_bits (t % 1024 / 32) (t % 32) % 2) → vc12_counts t h ≡ true
unfolding vc12_counts
counts_as_vc12 t h said told = and-true (start t h) (bit t h) (same_told (t % 32 == 0) (says_start h) said) (go (nat_lt (t % 32) 5) refl)
  where
    go : (b : Bool) → nat_lt (t % 32) 5 ≡ b → (not b || h % 2 == told_bits (t % 1024 / 32) (t % 32) % 2) ≡ true
    go true e = eq-eqb (h % 2) (told_bits (t % 1024 / 32) (t % 32) % 2) (told (ltb-true (t % 32) 5 e))
    go false e = refl
