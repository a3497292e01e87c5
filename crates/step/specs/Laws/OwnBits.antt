-- The bits of VC-12's counts, frame by frame: in step, the frames of the packet under way have the bits of the count so far, and from the fifth bit on those of their epoch's number. Over the kind of packet: of H4 nothing is said.
use Rattle.std.specs.Prelude.{◌≡◌, refl, Bool, cond, not, ◌&&◌, ◌||◌, ℕ, zero, suc, ◌+◌, ◌-◌, ◌*◌, ◌/◌, ◌%◌, ◌^◌, ◌≤◌, ◌<◌, eqb, ltb}
use Rattle.std.proofs.Math.Path.{sym, ap}
use Rattle.std.proofs.Common.{◌∙◌, true≢false, mod-eq_of_lt}
use Rattle.std.proofs.Math.Logic.{⊎_elim}
use Rattle.std.proofs.Math.Bool.{true}
use native.Mathlib.Omega.{arith}
use borrow.Author.Tests.{eq-eqb, eqb-true, lt-ltb, ne_eqb, not-false}
use Rattle.ground.specs.Truth.{cond_by, le_or_lt, neither}
use Rattle.packet.specs.Counts.{says_start, told_bits}
use Rattle.packet.specs.Kinds.{ends_epoch, epoch_of, epochs, first_tag, frames, place_of, tag_of, vc12_kind}
use Rattle.packet.specs.Laws.Epochs as Epochs
use Rattle.packet.specs.Laws.Epochs.{ends_alike, place_lt, position_is, same_epoch_before}
use Rattle.packet.specs.Laws.OwnBits.{OwnBit, own_read}
use Rattle.packet.specs.Laws.Vc12Clock.{vc12_epoch, vc12_epochs, vc12_frames, vc12_place}
use Rattle.packet.specs.Ruling.{fields_in}
use Rattle.packet.specs.Symbols.{row_from}
use Rattle.packet.specs.Theorems.Tags.{epoch_each, place_each}
use Rattle.step.specs.Theorems.Lost.{packet_short, two_short}
use Rattle.step.specs.declared.run.Run.{Run}
use Rattle.step.specs.OwnCount.{without_mfi2}
use Rattle.step.specs.Run.{ends_packet, in_step_at, run_on}
use Rattle.step.specs.Starts.{begun_packet, bits_after, fifth_bit, first_of_two, goes_on, starts_run}

-- the frame with a tag has its bit of the epoch's number
abbrev pub Own : ℕ → ℕ → ℕ → Type 0
Own kind tag h = without_mfi2 kind ≡ true → OwnBit tag h

-- a frame of the packet under way: one of the bits so far
pub record Bit12 (run : Run) (tag h : ℕ) : Type 0 where
  pub early : tag % 32 < run.next % 32 → run.next % 32 < 5 → h % 2 ≡ run.bits / 2 ^ (run.next % 32 - 1 - tag % 32) % 2
  pub late : 5 ≤ run.next % 32 → OwnBit tag h

abbrev pub Told : ℕ → Run → ℕ → ℕ → Type 0
Told kind run tag h = without_mfi2 kind ≡ true → Bit12 run tag h

-- a tag is of the epoch of the tag to come, before it
pub record Earlier (kind tag next : ℕ) : Type 0 where
  pub epoch : epoch_of kind tag ≡ epoch_of kind next
  pub before : place_of kind tag < place_of kind next

-- what a frame in step leaves of a run
record Onward (run : Run) (h : ℕ) (r : Run) : Type 0 where
  next : r.next ≡ (run.next % 1024 + 1) % 1024
  bits : r.bits ≡ bits_after run.bits (run.next % 32) (h % 2)
  fifth : run.next % 32 ≡ 4 → bits_after run.bits (run.next % 32) (h % 2) ≡ run.next % 1024 / 32

onward : (run : Run) (h : ℕ) → in_step_at vc12_kind (starts_run run h).count ≡ true → Onward run h (starts_run run h)
unfolding starts_run fifth_bit goes_on
onward run h =
    cond_by On (eqb run.count 0 || not ((says_start h && eqb (run.next % 32) 0) || (not (says_start h) && not (eqb (run.next % 32) 0)))) (begun_packet h)
    (cond (eqb (run.next % 32) 4) (fifth_bit run bits) (goes_on run bits))
    (λ e t. absurd (true≢false (sym t ∙ packet_short h)))
    (λ e.
    cond_by On (eqb (run.next % 32) 4) (fifth_bit run bits) (goes_on run bits)
    (λ w.
    cond_by On (ltb run.count 5 || not (eqb bits (run.next % 1024 / 32))) (first_of_two bits) (goes_on run bits)
    (λ o t. absurd (true≢false (sym t ∙ two_short bits)))
    (λ o t. record { next = refl; bits = refl; fifth = λ z. eqb-true bits (run.next % 1024 / 32) (not-false (eqb bits (run.next % 1024 / 32)) (neither (ltb run.count 5) (not (eqb bits (run.next % 1024 / 32))) o).1) }))
    (λ w t. record { next = refl; bits = refl; fifth = λ z. absurd (true≢false (sym (eq-eqb (run.next % 32) 4 z) ∙ w)) }))
  where
    On : Run → Type 0
    On r = in_step_at vc12_kind r.count ≡ true → Onward run h r

    bits : ℕ
    bits = bits_after run.bits (run.next % 32) (h % 2)

-- one bit more
bit_first : (bits p b : ℕ) → p < 5 → bits_after bits p (b % 2) % 2 ≡ b % 2
unfolding bits_after
bit_first bits p b l =
    cond_by (λ (n : ℕ). n % 2 ≡ b % 2) (eqb p 0) (b % 2) (cond (ltb p 5) (bits % 16 * 2 + b % 2) bits) (λ e. omega arith)
    (λ e. rw (lt-ltb p 5 l) (omega arith))

bit_shift : (bits m b : ℕ) → m < 4 → (bits % 16 * 2 + b % 2) / 2 ^ (m + 1) % 2 ≡ bits / 2 ^ m % 2
bit_shift bits zero b l = omega arith
bit_shift bits (suc zero) b l = omega arith
bit_shift bits (suc (suc zero)) b l = omega arith
bit_shift bits (suc (suc (suc zero))) b l = omega arith
bit_shift bits (suc (suc (suc (suc m)))) b l = absurd (omega arith)

bit_before : (bits p k b : ℕ) → k < p → p < 5 → bits_after bits p (b % 2) / 2 ^ (p - k) % 2 ≡ bits / 2 ^ (p - 1 - k) % 2
unfolding bits_after
bit_before bits p k b l low =
    let e : p - k ≡ p - 1 - k + 1 = omega arith in
    rw (ne_eqb p 0 (λ (z : p ≡ 0). omega arith), lt-ltb p 5 low, e) (bit_shift bits (p - 1 - k) b (omega arith))

module _ (run : Run) (h : ℕ) (r : Run) (o : Onward run h r) where
  abbrev p : ℕ
  p = run.next % 32

  abbrev bits : ℕ
  bits = bits_after run.bits (run.next % 32) (h % 2)

  place : (run.next % 1024 + 1) % 1024 % 32 ≡ (run.next + 1) % 32
  place = omega arith

  next_place_lem : r.next % 32 ≡ (run.next + 1) % 32
  next_place_lem = rw o.next place

  -- the frame itself
  new12 : Bit12 r run.next h
  unfolding told_bits
  new12 =
      record {
        early = λ l m.
            let at = next_place_lem in
            let e : r.next % 32 - 1 - run.next % 32 ≡ 0 = omega arith in
            let first : bits % 2 ≡ h % 2 = bit_first run.bits p h (omega arith) in
            rw (e, o.bits) (let one : bits / 1 ≡ bits = omega arith in sym first ∙ ap (λ (n : ℕ). n % 2) (sym one));
        late = λ l. record {
          bit = λ m.
              let at = next_place_lem in
              let four : run.next % 32 ≡ 4 = omega arith in
              let first : bits % 2 ≡ h % 2 = bit_first run.bits p h (omega arith) in
              let own : bits ≡ run.next % 1024 / 32 = o.fifth four in
              rw four (let one : run.next % 1024 / 32 / 1 ≡ run.next % 1024 / 32 = omega arith in sym first ∙ ap (λ (n : ℕ). n % 2) (own ∙ sym one));
        };
      }

  -- one before it
  on12 : (tag b : ℕ) → tag % 1024 / 32 ≡ run.next % 1024 / 32 → tag % 32 < run.next % 32 → Bit12 run tag b → Bit12 r tag b
  unfolding told_bits
  on12 tag b epoch before was =
      record {
        early = λ l m.
            let at = next_place_lem in
            let e : r.next % 32 - 1 - tag % 32 ≡ run.next % 32 - tag % 32 = omega arith in
            let low : run.next % 32 < 5 = omega arith in
            rw (e, o.bits) (was.early before low ∙ sym (bit_before run.bits p (tag % 32) h before low));
        late = λ l.
            let at = next_place_lem in
            ⊎_elim
            (λ (m : 5 ≤ run.next % 32). was.late m)
            (λ (m : run.next % 32 < 5).
            let four : run.next % 32 ≡ 4 = omega arith in
            record {
              bit = λ d.
                  let shifted : bits / 2 ^ (p - tag % 32) % 2 ≡ run.bits / 2 ^ (p - 1 - tag % 32) % 2 = bit_before run.bits p (tag % 32) h before m in
                  was.early before m ∙ sym shifted ∙ rw (o.fifth four, four, epoch) refl;
            })
            (le_or_lt 5 (run.next % 32));
      }

-- Over the kind.

module _ (kind : ℕ) (run : Run) (odd : Bool) (h : ℕ) where
  abbrev after : Run
  after = run_on kind run odd h

  went : without_mfi2 kind ≡ true → in_step_at kind (run_on kind run odd h).count ≡ true → Onward run h (run_on kind run odd h)
  unfolding run_on
  went v e =
      let is : kind ≡ vc12_kind = eqb-true kind vc12_kind v in
      let on : in_step_at vc12_kind (starts_run run h).count ≡ true = rw (is) at e in
      rw v (onward run h on)

  -- the frame that comes
  pub told_new : in_step_at kind (run_on kind run odd h).count ≡ true → Told kind (run_on kind run odd h) run.next h
  told_new e v = new12 run h after (went v e)

  -- and those before it
  pub told_on_lem : in_step_at kind (run_on kind run odd h).count ≡ true → (tag b : ℕ) → Earlier kind tag run.next → Told kind run tag b → Told kind (run_on kind run odd h) tag b
  told_on_lem e tag b u was v =
      let is : kind ≡ vc12_kind = eqb-true kind vc12_kind v in
      let epoch : epoch_of vc12_kind tag ≡ epoch_of vc12_kind run.next = rw is at u.epoch in
      let before : place_of vc12_kind tag < place_of vc12_kind run.next = rw is at u.before in
      on12 run h after (went v e) tag b (sym (vc12_epoch tag) ∙ epoch ∙ vc12_epoch run.next) (rw (vc12_place tag, vc12_place run.next) at before) (was v)

-- At the last place of a packet.

last_place : (t : ℕ) → ends_packet vc12_kind t ≡ true → t % 32 ≡ 31
unfolding ends_packet
last_place t e =
    let is : place_of vc12_kind t % frames vc12_kind ≡ frames vc12_kind - 1 = Epochs.last_place vc12_kind (place_of vc12_kind t) e in
    let at : t % 32 % 32 ≡ 31 = rw (vc12_place t, vc12_frames) at is in
    omega arith

-- all frames before it have their bits
pub told_end : (kind : ℕ) (run : Run) → ends_packet kind run.next ≡ true → (tag b : ℕ) → Told kind run tag b → Own kind tag b
told_end kind run e tag b was v =
    let is : kind ≡ vc12_kind = eqb-true kind vc12_kind v in
    let last = last_place run.next (rw is at e) in
    (was v).late (omega arith)

-- and there is no bit in it
pub own_end : (kind t h : ℕ) → ends_packet kind t ≡ true → Own kind t h
own_end kind t h e v =
    let is : kind ≡ vc12_kind = eqb-true kind vc12_kind v in
    let last = last_place t (rw is at e) in
    record { bit = λ l. absurd (omega arith) }

-- A packet all of whose frames have their bits carries its epoch's number.
pub own_packet : (kind : ℕ) (f : ℕ → ℕ) (e : ℕ) → without_mfi2 kind ≡ true → e < epochs kind → ((k : ℕ) → k < frames kind → Own kind (tag_of kind (first_tag kind e + k)) (f k))
    → (fields_in kind (row_from kind f)).epoch ≡ e
own_packet kind f e v =
    rw (eqb-true kind vc12_kind v)
    (λ (low : e < epochs vc12_kind) (own : (k : ℕ) → k < frames vc12_kind → Own vc12_kind (tag_of vc12_kind (first_tag vc12_kind e + k)) (f k)).
    own_read f e (rw vc12_epochs at low) (λ k l. own k (rw vc12_frames l) refl))

-- Frames of a window, by how far they lie after its first.

module _ (kind e : ℕ) where
  tag_place : (d : ℕ) → place_of kind (tag_of kind (first_tag kind e + d)) ≡ d % frames kind
  tag_place d = rw (position_is kind d) at (place_each kind e (d / frames kind) (d % frames kind) (place_lt kind d))

  tag_epoch : (d : ℕ) → epoch_of kind (tag_of kind (first_tag kind e + d)) ≡ (e + d / frames kind) % epochs kind
  tag_epoch d = rw (position_is kind d) at (epoch_each kind e (d / frames kind) (d % frames kind) (place_lt kind d))

  pub earlier_in : (d x : ℕ) → frames kind * (x / frames kind) ≤ d → d < x → Earlier kind (tag_of kind (first_tag kind e + d)) (tag_of kind (first_tag kind e + x))
  earlier_in d x from upto =
      let same = same_epoch_before kind d x from upto in
      record {
        epoch = tag_epoch d ∙ ap (λ (i : ℕ). (e + i) % epochs kind) same.0 ∙ sym (tag_epoch x);
        before = rw (tag_place d, tag_place x) same.1;
      }

  pub ends_in_lem : (d : ℕ) → ends_epoch kind d ≡ true → ends_packet kind (tag_of kind (first_tag kind e + d)) ≡ true
  unfolding ends_packet
  ends_in_lem d ends = ends_alike kind (place_of kind (tag_of kind (first_tag kind e + d))) d (rw (tag_place d) (mod-eq_of_lt (place_lt kind d))) ∙ ends
