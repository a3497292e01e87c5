-- A port in step is kept (request 2026-04): through every frame of which what lines never change came as sent, if no packet of it that ends has a right CRC and another MFI2. It comes into step as before.
use Rattle.std.specs.Prelude.{◌≡◌, ◌≢◌, Bool, true, false, ℕ, ◌+◌, ◌-◌, ◌*◌, ◌/◌, ◌%◌, ◌≤◌, ◌<◌, eqb}
use Rattle.std.proofs.Math.Path.{refl, ap}
use Rattle.std.proofs.Common.{◌∙◌, sym, ⊎_elim, true≢false, mod-eq_of_lt}
use native.Mathlib.Omega.{arith}
use borrow.Author.Tests.{eq-eqb, le-ltb, leb-true, ne_eqb}
use Rattle.ground.specs.Truth.{eq_or_ne}
use Rattle.packet.specs.Changes.{brings_mfi2}
use Rattle.packet.specs.Counts.{counts, h4_counts, says_start, told_bits}
use Rattle.packet.specs.Kinds.{frames, lead, place_of, tag_after, tag_of, vc12_kind}
use Rattle.packet.specs.Laws.Changes.{brings_not, counts_kept, vc12_brings}
use Rattle.packet.specs.Laws.Clock.{by, by_kind}
use Rattle.packet.specs.Laws.Counting.{counts_h4}
use Rattle.packet.specs.Laws.Vc12Clock.{vc12_frames, vc12_next, vc12_tag}
use Rattle.packet.specs.Theorems.Tags.{next_tag, place_of_lem}
use Rattle.step.specs.Laws.H4Run.{odd_none, run_broken, run_on_lem}
use Rattle.step.specs.Laws.StartsRun.{Vc12Sent, fifth_bit_lem, other_bit, told_all, told_on_lem}
use Rattle.step.specs.Run.{h4_run_on, in_step_at, odd_after, run_on, with_bits}
use Rattle.step.specs.Sent.{KeptAs, SentWith}
use Rattle.step.specs.SentRuns.{BitsTold, RunAt, Stays, most_breaks}
use Rattle.step.specs.Starts.{bits_after, count_after, fifth_bit, goes_on, starts_run}
use Rattle.step.specs.Theorems.Run.{run_even, run_in_step, run_next, run_told, run_unbroken, sent_vc12}
use Rattle.step.specs.declared.run.Run.{Run}

-- With its kept part as sent a frame breaks the count only where it brings a nibble of MFI2.

spared_counts : (kind x h : ℕ) → KeptAs kind x h → brings_mfi2 kind (place_of kind (tag_of kind x)) ≡ false → SentWith kind x h
spared_counts kind x h k none = counts_kept kind (tag_of kind x) h k.byte k.sent k.same (λ z. absurd (true≢false (sym z ∙ none)))

place_next : (kind x : ℕ) → place_of kind (tag_of kind (x + 1)) ≡ (place_of kind (tag_of kind x) + 1) % frames kind
place_next kind x =
    place_of_lem kind (x + 1)
    ∙ by (λ L E N l. (x + 1 + l) % L ≡ ((x + l) % L + 1) % L) (omega arith) (omega arith) kind
    ∙ ap (λ (n : ℕ). (n + 1) % frames kind) (sym (place_of_lem kind x))

third_within : (kind : ℕ) → lead kind + 2 < frames kind
third_within kind = by (λ L E N l. l + 2 < L) (omega arith) (omega arith) kind

record Fewer (kind x b : ℕ) : Type 0 where
  three : b < 3
  more : b + 1 ≤ most_breaks kind (tag_of kind (x + 1))

few_on : (kind x h b : ℕ) → KeptAs kind x h → counts kind (tag_of kind x) h ≡ false → b ≤ most_breaks kind (tag_of kind x) → Fewer kind x b
unfolding most_breaks
few_on kind x h b as-kept broken l =
    let within = third_within kind in
    let p : ℕ = place_of kind (tag_of kind x) in
    ⊎_elim
    (λ (e : place_of kind (tag_of kind x) ≡ lead kind).
    let none : most_breaks kind (tag_of kind x) ≡ 0 = rw (e, ne_eqb (lead kind) (lead kind + 1) (λ (z : lead kind ≡ lead kind + 1). omega arith), ne_eqb (lead kind) (lead kind + 2) (λ (z : lead kind ≡ lead kind + 2). omega arith)) refl in
    let next : place_of kind (tag_of kind (x + 1)) ≡ lead kind + 1 = place_next kind x ∙ rw e (mod-eq_of_lt (omega arith)) in
    let one : most_breaks kind (tag_of kind (x + 1)) ≡ 1 = rw (next, eq-eqb (lead kind + 1) (lead kind + 1) refl) refl in
    let zero : b ≤ 0 = rw none at l in
    record { three = omega arith; more = rw one (omega arith) })
    (λ (d : place_of kind (tag_of kind x) ≢ lead kind).
    ⊎_elim
    (λ (e : place_of kind (tag_of kind x) ≡ lead kind + 1).
    let one : most_breaks kind (tag_of kind x) ≡ 1 = rw (e, eq-eqb (lead kind + 1) (lead kind + 1) refl) refl in
    let next : place_of kind (tag_of kind (x + 1)) ≡ lead kind + 2 = place_next kind x ∙ rw e (mod-eq_of_lt (omega arith) ∙ omega arith) in
    let two : most_breaks kind (tag_of kind (x + 1)) ≡ 2 = rw (next, ne_eqb (lead kind + 2) (lead kind + 1) (λ (z : lead kind + 2 ≡ lead kind + 1). omega arith), eq-eqb (lead kind + 2) (lead kind + 2) refl) refl in
    let most : b ≤ 1 = rw one at l in
    record { three = omega arith; more = rw two (omega arith) })
    (λ (f : place_of kind (tag_of kind x) ≢ lead kind + 1).
    absurd (true≢false (sym (spared_counts kind x h as-kept (brings_not kind (place_of kind (tag_of kind x)) d f)) ∙ broken)))
    (eq_or_ne (place_of kind (tag_of kind x)) (lead kind + 1)))
    (eq_or_ne (place_of kind (tag_of kind x)) (lead kind))

h4_kept : (kind x : ℕ) (run : Run) (odd : Bool) (h : ℕ) → eqb kind vc12_kind ≡ false → Stays kind x run → KeptAs kind x h → odd ≡ false → Stays kind (x + 1) (h4_run_on kind run odd h)
h4_kept kind x run odd h clock o as-kept even = go (h4_counts run.next h) refl
  where
    on : tag_after kind run.next ≡ tag_of kind (x + 1)
    on = ap (tag_after kind) o.next ∙ next_tag kind x

    none : (r : Run) → BitsTold kind (x + 1) r
    none r t = absurd (true≢false (sym t ∙ clock))

    go : (c : Bool) → h4_counts run.next h ≡ c → Stays kind (x + 1) (h4_run_on kind run odd h)
    go true e =
        rw (run_on_lem kind run odd h o.count e even)
        (record { count = o.count; next = on; breaks = omega arith; even = odd_none kind run o.even; told = none (record { count = run.count; next = tag_after kind run.next; breaks = 0; odd = odd_after kind run false; bits = run.bits }) })
    go false e =
        let broken : counts kind (tag_of kind x) h ≡ false = counts_h4 kind (tag_of kind x) h clock ∙ (rw o.next at e) in
        let f : Fewer kind x run.breaks = few_on kind x h run.breaks as-kept broken o.breaks in
        rw (run_broken kind run odd h o.count e even f.three)
        (record { count = o.count; next = on; breaks = f.more; even = odd_none kind run o.even; told = none (record { count = run.count; next = tag_after kind run.next; breaks = run.breaks + 1; odd = odd_after kind run false; bits = run.bits }) })

-- VC-12: a frame with its kept part as sent counts as sent, and the run goes on.

vc12_spared : (x h : ℕ) → KeptAs vc12_kind x h → SentWith vc12_kind x h
vc12_spared x h k = spared_counts vc12_kind x h k (vc12_brings (place_of vc12_kind (tag_of vc12_kind x)))

module _ (x : ℕ) (run : Run) (h : ℕ) (o : Stays vc12_kind x run) (sent : Vc12Sent x h) where
  many : 64 ≤ run.count
  unfolding in_step_at
  many = let f = vc12_frames in let l = leb-true (frames vc12_kind * 2) run.count o.count in omega arith

  next_is : run.next ≡ x % 1024
  next_is = o.next ∙ vc12_tag x

  place_is : run.next % 32 ≡ x % 32
  place_is = ap (λ (n : ℕ). n % 32) next_is ∙ (let e : x % 1024 % 32 ≡ x % 32 = omega arith in e)

  said : says_start h ≡ eqb (run.next % 32) 0
  said = sent.start ∙ ap (λ (n : ℕ). eqb n 0) (sym place_is)

  some : run.count ≢ 0
  some z = let m = many in omega arith

  bits_are : bits_after run.bits (run.next % 32) (h % 2) ≡ told_bits (x % 1024 / 32) (x % 32)
  bits_are =
      ap (λ (n : ℕ). bits_after run.bits n (h % 2)) place_is
      ∙ told_on_lem run.bits (x % 32) (x % 1024 / 32) h (omega arith) (omega arith) (λ d. o.told refl d) sent.bit

  abbrev onward : Run
  onward = goes_on run (told_bits (x % 1024 / 32) (x % 32))

  fifth_on : x % 32 ≡ 4 → fifth_bit run (told_bits (x % 1024 / 32) (x % 32)) ≡ goes_on run (told_bits (x % 1024 / 32) (x % 32))
  unfolding fifth_bit
  fifth_on w =
      let m = many in
      let all : told_bits (x % 1024 / 32) (x % 32) ≡ x % 1024 / 32 = told_all (x % 1024 / 32) (x % 32) (omega arith) in
      let own : told_bits (x % 1024 / 32) (x % 32) ≡ run.next % 1024 / 32 = all ∙ (let e : x % 1024 / 32 ≡ x % 1024 % 1024 / 32 = omega arith in e) ∙ ap (λ (n : ℕ). n % 1024 / 32) (sym next_is) in
      rw (le-ltb run.count 5 (omega arith), eq-eqb (told_bits (x % 1024 / 32) (x % 32)) (run.next % 1024 / 32) own) refl

  goes : starts_run run h ≡ onward
  goes =
      ⊎_elim
      (λ (w : x % 32 ≡ 4). fifth_bit_lem run h some said (place_is ∙ w) ∙ ap (fifth_bit run) bits_are ∙ fifth_on w)
      (λ (d : x % 32 ≢ 4). other_bit run h some said (λ (w : run.next % 32 ≡ 4). d (sym place_is ∙ w)) ∙ ap (goes_on run) bits_are)
      (eq_or_ne (x % 32) 4)

  stays_on : Stays vc12_kind (x + 1) onward
  unfolding goes_on count_after in_step_at
  stays_on =
      record {
        count = (let m = many in rw (le-ltb run.count 64 m) o.count);
        next = vc12_next run.next ∙ ap (tag_after vc12_kind) o.next ∙ next_tag vc12_kind x;
        breaks = omega arith;
        even = refl;
        told = λ t d.
            let e : (x + 1) % 1024 / 32 ≡ x % 1024 / 32 = omega arith in
            let p : (x + 1) % 32 - 1 ≡ x % 32 = omega arith in
            rw (e, p) refl;
      }

vc12_kept : (x : ℕ) (run : Run) (odd : Bool) (h : ℕ) → Stays vc12_kind x run → KeptAs vc12_kind x h → Stays vc12_kind (x + 1) (run_on vc12_kind run odd h)
unfolding run_on
vc12_kept x run odd h o k = let sent = sent_vc12 x h (vc12_spared x h k) in rw (goes x run h o sent) (stays_on x run h o sent)

left : (bits kind x : ℕ) (run : Run) → eqb kind vc12_kind ≡ false → Stays kind x run → Stays kind x (with_bits bits run)
left bits kind x run clock o =
    record { count = o.count; next = o.next; breaks = o.breaks; even = o.even; told = λ v. absurd (true≢false (sym v ∙ clock)) }

pub kept : (kind x : ℕ) (run : Run) (odd : Bool) (h : ℕ) → Stays kind x run → KeptAs kind x h → odd ≡ false → Stays kind (x + 1) (run_on kind run odd h)
unfolding run_on
kept kind =
    by_kind (λ k. (x : ℕ) (run : Run) (odd : Bool) (h : ℕ) → Stays k x run → KeptAs k x h → odd ≡ false → Stays k (x + 1) (run_on k run odd h))
    (λ x run odd h o as-kept even. vc12_kept x run odd h o as-kept)
    (λ k clock x run odd h o as-kept even. rw clock (left run.bits k (x + 1) (h4_run_on k run odd h) clock (h4_kept k x run odd h clock o as-kept even))) kind

-- and so is the run of frames as sent, once it is a step
pub gained : (kind c0 a x : ℕ) (run : Run) → RunAt kind c0 a x run → a + frames kind * 2 ≤ x + 1 → Stays kind (c0 + (x + 1)) run
gained kind c0 a x run is enough =
    let whole = run_unbroken kind c0 a x run is in
    record {
      count = run_in_step kind c0 a x run is enough;
      next = run_next kind c0 a x run is enough;
      breaks = omega arith;
      even = run_even kind c0 a x run is;
      told = run_told kind c0 a x run is enough;
    }
