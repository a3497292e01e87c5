-- VC-12's step rule on frames as sent: the run after each, written down outright (`vc12_run_at`), and one frame more leads from it to the next.
use Rattle.std.specs.Prelude.{◌≡◌, ◌⊎◌, ◌≢◌, Bool, true, cond, ◌&&◌, ◌||◌, eqb, ltb}
use Rattle.std.proofs.Math.Path.{refl, ap}
use Rattle.std.proofs.Common.{◌∙◌, sym}
use Rattle.std.proofs.Math.Logic.{inl, inr, ⊎_elim}
use Rattle.std.proofs.Math.Bool.{false, not}
use Prim.Native.Nat.{ℕ, zero, suc, ◌+◌, ◌-◌, ◌*◌, ◌/◌, ◌%◌, ◌≤◌, ◌<◌, min}
use native.Mathlib.Omega.{arith}
use borrow.Author.Tests.{eq-eqb, ne_eqb, lt-ltb, le-ltb}
use Rattle.ground.specs.Truth.{eq_or_ne, le_or_lt}
use Rattle.packet.specs.Counts.{says_start, told_bits}
use Rattle.step.specs.SentRuns.{vc12_run_at}
use Rattle.step.specs.declared.run.Run.{Run}
use Rattle.step.specs.Starts.{begun_packet, bits_after, count_after, fifth_bit, first_of_two, goes_on, no_run, starts_run}

-- the byte of the x-th frame after one with tag 0
pub record Vc12Sent (x byte : ℕ) : Type 0 where
  pub start : says_start byte ≡ eqb (x % 32) 0
  pub bit : x % 32 < 5 → byte % 2 ≡ told_bits (x % 1024 / 32) (x % 32) % 2

same : (b : Bool) → ((b && b) || (not b && not b)) ≡ true
same true = refl
same false = refl

-- a run that goes on
module _ (run : Run) (byte : ℕ) (some : run.count ≢ 0) (said : says_start byte ≡ eqb (run.next % 32) 0) where
  abbrev after : ℕ
  after = bits_after run.bits (run.next % 32) (byte % 2)

  pub other_bit : run.next % 32 ≢ 4 → starts_run run byte ≡ goes_on run after
  unfolding starts_run
  other_bit d = rw (ne_eqb run.count 0 some, said, same (eqb (run.next % 32) 0), ne_eqb (run.next % 32) 4 d) refl

  pub fifth_bit_lem : run.next % 32 ≡ 4 → starts_run run byte ≡ fifth_bit run after
  unfolding starts_run
  fifth_bit_lem e = rw (ne_eqb run.count 0 some, said, same (eqb (run.next % 32) 0), eq-eqb (run.next % 32) 4 e) refl

-- from the fifth on they say all of it
pub told_all : (e p : ℕ) → 4 ≤ p → told_bits e p ≡ e
unfolding told_bits
told_all e p l = let z : 4 - p ≡ 0 = omega arith in rw z (let w : e / 1 ≡ e = omega arith in w)

pub later : (bits p bit : ℕ) → 5 ≤ p → bits_after bits p bit ≡ bits
unfolding bits_after
later bits p bit l = rw (ne_eqb p 0 (λ (z : p ≡ 0). omega arith), le-ltb p 5 (omega arith)) refl

-- one bit more
pub told_on_lem : (bits p e byte : ℕ) → e < 32 → p < 32 → (p ≢ 0 → bits ≡ told_bits e (p - 1)) → (p < 5 → byte % 2 ≡ told_bits e p % 2) → bits_after bits p (byte % 2) ≡ told_bits e p
unfolding told_bits bits_after
told_on_lem bits zero e byte small low before bit = let b = bit (omega arith) in b ∙ omega arith
told_on_lem bits (suc zero) e byte small low before bit = rw (before (λ z. omega arith), bit (omega arith)) (omega arith)
told_on_lem bits (suc (suc zero)) e byte small low before bit = rw (before (λ z. omega arith), bit (omega arith)) (omega arith)
told_on_lem bits (suc (suc (suc zero))) e byte small low before bit = rw (before (λ z. omega arith), bit (omega arith)) (omega arith)
told_on_lem bits (suc (suc (suc (suc zero)))) e byte small low before bit = rw (before (λ z. omega arith), bit (omega arith)) (omega arith)
told_on_lem bits (suc (suc (suc (suc (suc p))))) e byte small low before bit =
    later bits (suc (suc (suc (suc (suc p))))) (byte % 2) (omega arith)
    ∙ before (λ z. omega arith)
    ∙ told_all e (suc (suc (suc (suc (suc p)))) - 1) (omega arith)
    ∙ sym (told_all e (suc (suc (suc (suc (suc p))))) (omega arith))

pub lt_or_le : (m n : ℕ) → (m < n) ⊎ (n ≤ m)
lt_or_le m n = ⊎_elim (λ (l : n ≤ m). inr l) (λ (l : m < n). inl l) (le_or_lt n m)

count_on : (n : ℕ) → cond (ltb (min n 64) 64) (min n 64 + 1) (min n 64) ≡ min (n + 1) 64
count_on n =
    ⊎_elim (λ (l : min n 64 < 64). rw (lt-ltb (min n 64) 64 l) (omega arith)) (λ (l : 64 ≤ min n 64). rw (le-ltb (min n 64) 64 l) (omega arith))
    (lt_or_le (min n 64) 64)

-- a frame of the run at a position
module _ (a x byte : ℕ) (z : a % 32 ≡ 0) (from : a ≤ x) (sent : Vc12Sent (x + 1) byte) where
  abbrev q : ℕ
  q = (x + 1) % 32

  abbrev e : ℕ
  e = (x + 1) % 1024 / 32

  place_is : (vc12_run_at a x).next % 32 ≡ q
  unfolding vc12_run_at
  place_is =
      ⊎_elim (λ (l : x - a < 4). rw (lt-ltb (x - a) 4 l) (omega arith))
      (λ (l : 4 ≤ x - a). rw (le-ltb (x - a) 4 l) (omega arith)) (lt_or_le (x - a) 4)

  some : (vc12_run_at a x).count ≢ 0
  unfolding vc12_run_at
  some n = omega arith

  said : says_start byte ≡ eqb ((vc12_run_at a x).next % 32) 0
  said = sent.start ∙ ap (λ (n : ℕ). eqb n 0) (sym place_is)

  bits_are : bits_after (vc12_run_at a x).bits ((vc12_run_at a x).next % 32) (byte % 2) ≡ told_bits e q
  unfolding vc12_run_at
  bits_are =
      ap (λ (n : ℕ). bits_after (vc12_run_at a x).bits n (byte % 2)) place_is
      ∙ told_on_lem (told_bits (x % 1024 / 32) (x % 32)) q e byte (omega arith) (omega arith)
      (λ (d : q ≢ 0).
      let same-e : x % 1024 / 32 ≡ (x + 1) % 1024 / 32 = omega arith in
      let one_less : x % 32 ≡ (x + 1) % 32 - 1 = omega arith in
      rw (same-e, one_less) refl)
      sent.bit

  counted : goes_on (vc12_run_at a x) (told_bits e q) ≡ vc12_run_at a (x + 1) ⊎ (x - a ≡ 3)
  unfolding vc12_run_at goes_on count_after
  counted =
      ⊎_elim
      (λ (l : x - a < 3).
      let low : x - a < 4 = omega arith in
      let short : x + 1 - a < 4 = omega arith in
      let next_is : ((x - a + 1) % 1024 + 1) % 1024 ≡ x + 1 - a + 1 = omega arith in
      let count_is : min (x - a + 1) 64 + 1 ≡ min (x + 1 - a + 1) 64 = omega arith in
      let few : min (x - a + 1) 64 < 64 = omega arith in
      inl (rw (lt-ltb (x - a) 4 low, lt-ltb (x + 1 - a) 4 short, lt-ltb (min (x - a + 1) 64) 64 few, next_is, count_is) refl))
      (λ (g : 3 ≤ x - a).
      ⊎_elim
      (λ (l : x - a < 4). inr (omega arith))
      (λ (l : 4 ≤ x - a).
      let long : 4 ≤ x + 1 - a = omega arith in
      let next_is : ((x + 1) % 1024 % 1024 + 1) % 1024 ≡ (x + 1 + 1) % 1024 = omega arith in
      inl (rw (le-ltb (x - a) 4 l, le-ltb (x + 1 - a) 4 long, next_is, count_on (x - a + 1)) (ap (λ (n : ℕ). record { count = min n 64; next = (x + 1 + 1) % 1024; breaks = 0; odd = 0; bits = told_bits e q }) (omega arith))))
      (lt_or_le (x - a) 4))
      (lt_or_le (x - a) 3)

  fits : x - a ≢ 3 → goes_on (vc12_run_at a x) (told_bits e q) ≡ vc12_run_at a (x + 1)
  fits d = ⊎_elim (λ g. g) (λ w. absurd (d w)) counted

  -- not the fifth bit
  goes : q ≢ 4 → starts_run (vc12_run_at a x) byte ≡ vc12_run_at a (x + 1)
  goes d =
      other_bit (vc12_run_at a x) byte some said (λ (w : (vc12_run_at a x).next % 32 ≡ 4). d (sym place_is ∙ w))
      ∙ rw bits_are (fits (λ (w : x - a ≡ 3). d (omega arith)))

  -- the fifth bit of the first packet, and of a later one
  tells : q ≡ 4 → fifth_bit (vc12_run_at a x) (told_bits e q) ≡ vc12_run_at a (x + 1)
  unfolding vc12_run_at fifth_bit first_of_two
  tells w =
      let all : told_bits e q ≡ e = told_all e q (omega arith) in
      ⊎_elim
      (λ (l : x - a < 4).
      let few : min (x - a + 1) 64 < 5 = omega arith in
      let long : 4 ≤ x + 1 - a = omega arith in
      let next_is : e % 32 * 32 + 5 ≡ (x + 1 + 1) % 1024 = omega arith in
      let five : 5 ≡ min (x + 1 - a + 1) 64 = omega arith in
      rw (all, lt-ltb (min (x - a + 1) 64) 5 few, le-ltb (x + 1 - a) 4 long, next_is, ← five) refl)
      (λ (l : 4 ≤ x - a).
      let many : 5 ≤ min (x - a + 1) 64 = omega arith in
      let own : e ≡ (x + 1) % 1024 % 1024 / 32 = omega arith in
      let test : (ltb (vc12_run_at a x).count 5 || not (eqb (told_bits e q) ((vc12_run_at a x).next % 1024 / 32))) ≡ false =
      rw (le-ltb (min (x - a + 1) 64) 5 many, le-ltb (x - a) 4 l, eq-eqb (told_bits e q) ((x + 1) % 1024 % 1024 / 32) (all ∙ own)) refl in
      rw test (fits (λ (v : x - a ≡ 3). omega arith)))
      (lt_or_le (x - a) 4)

  pub run_goes : starts_run (vc12_run_at a x) byte ≡ vc12_run_at a (x + 1)
  run_goes =
      ⊎_elim
      (λ (w : q ≡ 4). fifth_bit_lem (vc12_run_at a x) byte some said (place_is ∙ w) ∙ rw bits_are (tells w))
      (λ (d : q ≢ 4). goes d)
      (eq_or_ne q 4)

-- the first frame of a run, after none
pub run_starts : (a byte : ℕ) (run : Run) → a % 32 ≡ 0 → run.count ≡ 0 → Vc12Sent a byte → starts_run run byte ≡ vc12_run_at a a
unfolding starts_run begun_packet vc12_run_at told_bits
run_starts a byte run z none sent =
    let first : says_start byte ≡ true = sent.start ∙ eq-eqb (a % 32) 0 z in
    let bit = sent.bit (omega arith) in
    let e-is : byte % 2 ≡ a % 1024 / 32 / 16 = bit ∙ rw z (omega arith) in
    let one : 1 ≡ min (a - a + 1) 64 = omega arith in
    let self : a - a ≡ 0 = omega arith in
    rw (eq-eqb run.count 0 none, first, e-is, z, self) refl

-- a frame that is said to be no start, after none
pub run_none : (byte : ℕ) (run : Run) → run.count ≡ 0 → says_start byte ≡ false → starts_run run byte ≡ no_run
unfolding starts_run begun_packet
run_none byte run none other = rw (eq-eqb run.count 0 none, other) refl

pub alike : (x y : Bool) → (x ≡ y) ⊎ (x ≡ not y)
alike true true = inl refl
alike true false = inr refl
alike false true = inr refl
alike false false = inl refl
