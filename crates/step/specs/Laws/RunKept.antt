-- What holds of every run is kept through every frame, over the kind of packet; and a run begins anew, or goes on by a place.
use Rattle.std.specs.Prelude.{◌≡◌, ◌⊎◌, ◌≢◌, Bool, cond, ◌&&◌, ◌||◌, ℕ, ◌+◌, ◌*◌, ◌/◌, ◌%◌, ◌≤◌, ◌<◌, ltb}
use Rattle.std.proofs.Math.Path.{refl}
use Rattle.std.proofs.Common.{sym, ◌∙◌, ap, inl, inr, ⊎_elim, eqb-true, le-ltb, leb-false, leb-true, lt-ltb}
use Rattle.std.proofs.Math.Bool.{true, false, not, true≢false}
use native.Mathlib.Omega.{arith}
use Rattle.std.proofs.Math.Dec.{eqb}
use Rattle.std.proofs.lemmas.Bool.{eqb-false}
use Rattle.ground.specs.Truth.{cond_by, le_or_lt}
use Rattle.packet.specs.Counts.{carries_low, h4_counts, says_start, starts_count, tag_by_high, tag_by_low}
use Rattle.packet.specs.Kinds.{frames, tag_after, tags, vc12_kind}
use Rattle.packet.specs.Laws.Back.{after_mod}
use Rattle.packet.specs.Laws.Clock.{by, by_kind}
use Rattle.packet.specs.Laws.Counting.{high_told, low_told}
use Rattle.packet.specs.Laws.Distances.{place_on, tag_after_lt}
use Rattle.packet.specs.Laws.Vc12Clock.{vc12_frames, vc12_next}
use Rattle.packet.specs.Theorems.Tags.{frames_two, tags_some}
use Rattle.step.specs.declared.run.Run.{Run}
use Rattle.step.specs.Laws.Positions.{few_breaks}
use Rattle.step.specs.Run.{begun_run, breaks_after, ends_packet, further_run, gained_run, h4_run_on, in_step_at, loses, no_run, odd_after, run_on, second_run, stayed_run, with_bits}
use Rattle.step.specs.RunKept.{RunKept, tag_by_first}
use Rattle.step.specs.Starts.{begun_packet, bits_after, count_after, fifth_bit, first_of_two, goes_on, starts_run}

-- a run that goes on
pub record Further (kind count next more then : ℕ) : Type 0 where
  pub count_is : more ≤ count + 1
  pub next_is : then % frames kind ≡ (next + 1) % frames kind

-- a run begins anew, or goes on
abbrev pub Grows : ℕ → Run → Run → Type 0
Grows kind r q = (q.count ≤ 1) ⊎ Further kind r.count r.next q.count q.next

-- a run that ended, whatever bits it left
pub ended_kept : (kind bits : ℕ) → bits < 32 → RunKept kind (with_bits bits no_run)
ended_kept kind bits low =
    record {
      most = omega arith;
      tag = tags_some kind;
      none = λ e. refl;
      first = λ e. absurd (omega arith);
      goes = λ l m. absurd (omega arith);
      breaks = omega arith;
      odd = omega arith;
      clean = λ l. (refl, refl);
      bits = low;
      early = λ v l. refl;
    }

pub none_kept : (kind : ℕ) → RunKept kind no_run
none_kept kind = ended_kept kind 0 (omega arith)

-- H4.

told_first_lem : (kind h : ℕ) → eqb kind vc12_kind ≡ false → tag_by_high kind h ≡ tag_by_first kind h
unfolding tag_by_first
told_first_lem kind h clock = rw clock refl

one_kept : (kind h : ℕ) → eqb kind vc12_kind ≡ false → RunKept kind (record { count = 1; next = tag_by_high kind h; breaks = 0; odd = 0; bits = 0 })
one_kept kind h clock =
    let more = frames_two kind in
    let told = high_told kind h clock in
    record {
      most = omega arith;
      tag = told.0;
      none = λ e. absurd (omega arith);
      first = λ e. record { byte = h; told = told_first_lem kind h clock };
      goes = λ l m. told.1;
      breaks = omega arith;
      odd = omega arith;
      clean = λ l. (refl, refl);
      bits = omega arith;
      early = λ v. absurd (true≢false (sym v ∙ clock));
    }

two_kept : (kind t h : ℕ) → eqb kind vc12_kind ≡ false → RunKept kind (record { count = 2; next = tag_by_low kind t h; breaks = 0; odd = 0; bits = 0 })
two_kept kind t h clock =
    let more = frames_two kind in
    let told = low_told kind t h clock in
    record {
      most = omega arith;
      tag = told.0;
      none = λ e. absurd (omega arith);
      first = λ e. absurd (omega arith);
      goes = λ l m. told.1;
      breaks = omega arith;
      odd = omega arith;
      clean = λ l. (refl, refl);
      bits = omega arith;
      early = λ v. absurd (true≢false (sym v ∙ clock));
    }

further_kept : (kind : ℕ) (run : Run) → eqb kind vc12_kind ≡ false → 2 ≤ run.count → run.count < frames kind * 2 → RunKept kind run
    → RunKept kind (record { count = run.count + 1; next = tag_after kind run.next; breaks = 0; odd = 0; bits = 0 })
further_kept kind run clock many fewer k =
    record {
      most = omega arith;
      tag = tag_after_lt kind run.next;
      none = λ (z : run.count + 1 ≡ 0). absurd (omega arith);
      first = λ (z : run.count + 1 ≡ 1). absurd (omega arith);
      goes = λ (l : 0 < run.count + 1) (m : run.count + 1 < frames kind * 2). place_on kind run.next run.count (k.goes (omega arith) (omega arith));
      breaks = omega arith;
      odd = omega arith;
      clean = λ l. (refl, refl);
      bits = omega arith;
      early = λ v. absurd (true≢false (sym v ∙ clock));
    }

begun_kept : (kind h : ℕ) → eqb kind vc12_kind ≡ false → RunKept kind (begun_run kind h)
unfolding begun_run
begun_kept kind h clock =
    cond_by (RunKept kind) (starts_count kind h) (record { count = 1; next = tag_by_high kind h; breaks = 0; odd = 0; bits = 0 }) no_run (λ e. one_kept kind h clock) (λ e. none_kept kind)

second_kept : (kind : ℕ) (run : Run) (h : ℕ) → eqb kind vc12_kind ≡ false → RunKept kind (second_run kind run h)
unfolding second_run
second_kept kind run h clock =
    cond_by (RunKept kind) (carries_low kind h) (record { count = 2; next = tag_by_low kind run.next h; breaks = 0; odd = 0; bits = 0 }) (begun_run kind h)
    (λ e. two_kept kind run.next h clock) (λ e. begun_kept kind h clock)

gained_kept : (kind : ℕ) (run : Run) (h : ℕ) → eqb kind vc12_kind ≡ false → run.count < frames kind * 2 → RunKept kind run → RunKept kind (gained_run kind run h)
unfolding gained_run further_run
gained_kept kind run h clock fewer k =
    cond_by (RunKept kind) (eqb run.count 0) (begun_run kind h) (cond (eqb run.count 1) (second_run kind run h) (further_run kind run h)) (λ e. begun_kept kind h clock)
    (λ e.
    let some = eqb-false run.count 0 e in
    cond_by (RunKept kind) (eqb run.count 1) (second_run kind run h) (further_run kind run h) (λ d. second_kept kind run h clock)
    (λ d.
    let more = eqb-false run.count 1 d in
    cond_by (RunKept kind) (h4_counts run.next h) (record { count = run.count + 1; next = tag_after kind run.next; breaks = 0; odd = 0; bits = 0 }) (begun_run kind h)
    (λ c. further_kept kind run clock (omega arith) fewer k) (λ c. begun_kept kind h clock)))

breaks_few : (counted : Bool) (run : Run) (odd : Bool) → loses counted run odd ≡ false → breaks_after counted run.breaks ≤ 3
unfolding breaks_after
breaks_few true run odd e = omega arith
breaks_few false run odd e = let l = few_breaks false run odd e refl in omega arith

odd_flag : (kind : ℕ) (run : Run) (odd : Bool) → run.odd ≤ 1 → odd_after kind run odd ≤ 1
unfolding odd_after
odd_flag kind run odd l = go (ends_packet kind run.next) odd
  where
    go : (a b : Bool) → cond a (cond b 1 0) run.odd ≤ 1
    go true true = omega arith
    go true false = omega arith
    go false b = l

stayed_kept : (kind : ℕ) (run : Run) (odd : Bool) (h : ℕ) → eqb kind vc12_kind ≡ false → frames kind * 2 ≤ run.count → RunKept kind run → RunKept kind (stayed_run kind run odd h)
unfolding stayed_run
stayed_kept kind run odd h clock enough k =
    let counted : Bool = h4_counts run.next h in
    let some = frames_two kind in
    cond_by (RunKept kind) (loses counted run odd) (begun_run kind h)
    (record { count = run.count; next = tag_after kind run.next; breaks = breaks_after counted run.breaks; odd = odd_after kind run odd; bits = run.bits })
    (λ e. begun_kept kind h clock)
    (λ e.
    record {
      most = k.most;
      tag = tag_after_lt kind run.next;
      none = λ (z : run.count ≡ 0). absurd (omega arith);
      first = λ (z : run.count ≡ 1). absurd (omega arith);
      goes = λ (l : 0 < run.count) (m : run.count < frames kind * 2). absurd (omega arith);
      breaks = breaks_few counted run odd e;
      odd = odd_flag kind run odd k.odd;
      clean = λ (l : run.count < frames kind * 2). absurd (omega arith);
      bits = k.bits;
      early = λ v. absurd (true≢false (sym v ∙ clock));
    })

h4_kept : (kind : ℕ) (run : Run) (odd : Bool) (h : ℕ) → eqb kind vc12_kind ≡ false → RunKept kind run → RunKept kind (h4_run_on kind run odd h)
unfolding h4_run_on in_step_at
h4_kept kind run odd h clock k =
    cond_by (RunKept kind) (in_step_at kind run.count) (stayed_run kind run odd h) (gained_run kind run h)
    (λ e. stayed_kept kind run odd h clock (leb-true (frames kind * 2) run.count e) k) (λ e. gained_kept kind run h clock (leb-false (frames kind * 2) run.count e) k)

second_mod : (kind x y : ℕ) → x % frames kind ≡ 1 % frames kind → y % frames kind ≡ 2 % frames kind → y % frames kind ≡ (x + 1) % frames kind
second_mod kind x y = by (λ L E N l. x % L ≡ 1 % L → y % L ≡ 2 % L → y % L ≡ (x + 1) % L) (λ p q. omega arith) (λ p q. omega arith) kind

begun_grows : (kind : ℕ) (r : Run) (h : ℕ) → Grows kind r (begun_run kind h)
unfolding begun_run
begun_grows kind r h =
    cond_by (Grows kind r) (starts_count kind h) (record { count = 1; next = tag_by_high kind h; breaks = 0; odd = 0; bits = 0 }) no_run (λ e. inl (omega arith)) (λ e. inl (omega arith))

second_grows : (kind : ℕ) (r : Run) (h : ℕ) → eqb kind vc12_kind ≡ false → r.count ≡ 1 → RunKept kind r → Grows kind r (second_run kind r h)
unfolding second_run
second_grows kind r h clock one k =
    let two = frames_two kind in
    cond_by (Grows kind r) (carries_low kind h) (record { count = 2; next = tag_by_low kind r.next h; breaks = 0; odd = 0; bits = 0 }) (begun_run kind h)
    (λ e. inr (record { count_is = omega arith; next_is = second_mod kind r.next (tag_by_low kind r.next h) (rw one at (k.goes (omega arith) (omega arith))) (low_told kind r.next h clock).1 }))
    (λ e. begun_grows kind r h)

gained_grows : (kind : ℕ) (r : Run) (h : ℕ) → eqb kind vc12_kind ≡ false → RunKept kind r → Grows kind r (gained_run kind r h)
unfolding gained_run further_run
gained_grows kind r h clock k =
    cond_by (Grows kind r) (eqb r.count 0) (begun_run kind h) (cond (eqb r.count 1) (second_run kind r h) (further_run kind r h)) (λ e. begun_grows kind r h)
    (λ e.
    cond_by (Grows kind r) (eqb r.count 1) (second_run kind r h) (further_run kind r h) (λ d. second_grows kind r h clock (eqb-true r.count 1 d) k)
    (λ d.
    cond_by (Grows kind r) (h4_counts r.next h) (record { count = r.count + 1; next = tag_after kind r.next; breaks = 0; odd = 0; bits = 0 }) (begun_run kind h)
    (λ c. inr (record { count_is = omega arith; next_is = after_mod kind r.next })) (λ c. begun_grows kind r h)))

h4_grows : (kind : ℕ) (r : Run) (odd : Bool) (h : ℕ) → eqb kind vc12_kind ≡ false → RunKept kind r → Grows kind r (h4_run_on kind r odd h)
unfolding h4_run_on stayed_run
h4_grows kind r odd h clock k =
    cond_by (Grows kind r) (in_step_at kind r.count) (stayed_run kind r odd h) (gained_run kind r h)
    (λ e.
    cond_by (Grows kind r) (loses (h4_counts r.next h) r odd) (begun_run kind h)
    (record { count = r.count; next = tag_after kind r.next; breaks = breaks_after (h4_counts r.next h) r.breaks; odd = odd_after kind r odd; bits = r.bits })
    (λ l. begun_grows kind r h) (λ l. inr (record { count_is = omega arith; next_is = after_mod kind r.next })))
    (λ e. gained_grows kind r h clock k)

-- VC-12.

-- the same of a run of VC-12's in numbers
record Kept12 (run : Run) : Type 0 where
  most : run.count ≤ 64
  tag : run.next < 1024
  none : run.count ≡ 0 → run.next ≡ 0
  goes : 0 < run.count → run.count < 64 → run.next % 32 ≡ run.count % 32
  breaks : run.breaks ≡ 0
  odd : run.odd ≡ 0
  bits : run.bits < 32
  early : run.count < 5 → run.next ≡ run.count

-- what the rule asks of a run before a frame
record Before12 (run : Run) : Type 0 where
  most : run.count ≤ 64
  goes : 0 < run.count → run.count < 64 → run.next % 32 ≡ run.count % 32
  bits : run.bits < 32
  early : run.count < 5 → run.next ≡ run.count

before12 : (run : Run) → RunKept vc12_kind run → Before12 run
before12 run k =
    let f = vc12_frames in
    let most = k.most in
    record {
      most = omega arith;
      goes = λ l m. ap (λ (n : ℕ). run.next % n) (sym vc12_frames) ∙ k.goes l (omega arith) ∙ ap (λ (n : ℕ). run.count % n) vc12_frames;
      bits = k.bits;
      early = λ l. k.early refl l;
    }

small_tag : (n : ℕ) → n < 1024 → n < tags vc12_kind
small_tag n l =
    let around : n ≡ ((n + 1023) % 1024 + 1) % 1024 = omega arith in
    let is : n ≡ tag_after vc12_kind (n + 1023) = around ∙ vc12_next (n + 1023) in
    let below = tag_after_lt vc12_kind (n + 1023) in
    omega arith

of12 : (run : Run) → Kept12 run → RunKept vc12_kind run
unfolding tag_by_first
of12 run k =
    let f = vc12_frames in
    let most = k.most in
    let breaks = k.breaks in
    let odd = k.odd in
    record {
      most = omega arith;
      tag = small_tag run.next k.tag;
      none = k.none;
      first = λ (e : run.count ≡ 1). record { byte = 0; told = k.early (omega arith) ∙ e };
      goes = λ l m. ap (λ (n : ℕ). run.next % n) vc12_frames ∙ k.goes l (omega arith) ∙ ap (λ (n : ℕ). run.count % n) (sym vc12_frames);
      breaks = omega arith;
      odd = omega arith;
      clean = λ l. (k.breaks, k.odd);
      bits = k.bits;
      early = λ v l. k.early l;
    }

begun12 : (h : ℕ) → Kept12 (begun_packet h)
unfolding begun_packet
begun12 h =
    cond_by Kept12 (says_start h) (record { count = 1; next = 1; breaks = 0; odd = 0; bits = h % 2 }) no_run
    (λ e. record { most = omega arith; tag = omega arith; none = λ z. absurd (omega arith); goes = λ l m. refl; breaks = refl; odd = refl; bits = omega arith; early = λ l. refl })
    (λ e. record { most = omega arith; tag = omega arith; none = λ z. refl; goes = λ l m. absurd (omega arith); breaks = refl; odd = refl; bits = omega arith; early = λ l. refl })

two12 : (bits : ℕ) → bits < 32 → Kept12 (first_of_two bits)
unfolding first_of_two
two12 bits low =
    record { most = omega arith; tag = omega arith; none = λ z. absurd (omega arith); goes = λ l m. omega arith; breaks = refl; odd = refl; bits = low; early = λ l. absurd (omega arith) }

bits12 : (bits place h : ℕ) → bits < 32 → bits_after bits place (h % 2) < 32
unfolding bits_after
bits12 bits place h low =
    cond_by (λ (n : ℕ). n < 32) (eqb place 0) (h % 2) (cond (ltb place 5) (bits % 16 * 2 + h % 2) bits) (λ e. omega arith)
    (λ e. cond_by (λ (n : ℕ). n < 32) (ltb place 5) (bits % 16 * 2 + h % 2) bits (λ l. omega arith) (λ l. low))

place_after : (n c : ℕ) → n % 32 ≡ c % 32 → (n % 1024 + 1) % 1024 % 32 ≡ (c + 1) % 32
place_after n c e = omega arith

-- a run that goes on: not at the fifth bit of its first packet
on12 : (run : Run) (bits : ℕ) → run.count ≢ 0 → (run.count < 5 → run.count + 1 < 5) → bits < 32 → Before12 run → Kept12 (goes_on run bits)
unfolding goes_on count_after
on12 run bits some few low k =
    let most = k.most in
    ⊎_elim
    (λ (l : 64 ≤ run.count).
    rw (le-ltb run.count 64 l)
    (record { most = k.most; tag = omega arith; none = λ z. absurd (some z); goes = λ p m. absurd (omega arith); breaks = refl; odd = refl; bits = low; early = λ m. absurd (omega arith) }))
    (λ (l : run.count < 64).
    rw (lt-ltb run.count 64 l)
    (record {
      most = omega arith;
      tag = omega arith;
      none = λ z. absurd (omega arith);
      goes = λ p m. place_after run.next run.count (k.goes (omega arith) l);
      breaks = refl;
      odd = refl;
      bits = low;
      early = λ m. let e : run.next ≡ run.count = k.early (omega arith) in let small : run.count < 5 = omega arith in rw e (omega arith);
    }))
    (le_or_lt 64 run.count)

-- at the fifth bit a run of fewer than five frames has four
four : (run : Run) → Before12 run → run.count ≢ 0 → run.next % 32 ≡ 4 → run.count < 5 → run.count ≡ 4
four run k some w few = let g = k.goes (omega arith) (omega arith) in omega arith

not_four : (run : Run) → Before12 run → run.count ≢ 0 → run.next % 32 ≢ 4 → run.count < 5 → run.count + 1 < 5
not_four run k some d few =
    let g = k.goes (omega arith) (omega arith) in
    ⊎_elim (λ (l : 4 ≤ run.count). absurd (d (let e : run.count ≡ 4 = omega arith in g ∙ rw e refl))) (λ (l : run.count < 4). let m : run.count + 1 < 5 = omega arith in m) (le_or_lt 4 run.count)

module _ (P : Run → Type 0) (run : Run) (h : ℕ) (k : Before12 run) (begun : P (begun_packet h))
    (on : (bits : ℕ) → run.count ≢ 0 → (run.count < 5 → run.count + 1 < 5) → bits < 32 → P (goes_on run bits))
    (two : (bits : ℕ) → 4 ≤ run.count → run.next % 32 ≡ 4 → bits < 32 → P (first_of_two bits)) where
  abbrev bits : ℕ
  bits = bits_after run.bits (run.next % 32) (h % 2)

  low : bits < 32
  low = bits12 run.bits (run.next % 32) h k.bits

  fifth_by : run.count ≢ 0 → run.next % 32 ≡ 4 → P (fifth_bit run bits)
  unfolding fifth_bit
  fifth_by some w =
      cond_by P (ltb run.count 5 || not (eqb bits (run.next % 1024 / 32))) (first_of_two bits) (goes_on run bits)
      (λ o. two bits (⊎_elim (λ (l : 5 ≤ run.count). let m : 4 ≤ run.count = omega arith in m) (λ (l : run.count < 5). let e = four run k some w l in omega arith) (le_or_lt 5 run.count)) w low)
      (λ o. on bits some (λ (l : run.count < 5). absurd (true≢false (sym (many l) ∙ o))) low)
    where
      many : run.count < 5 → (ltb run.count 5 || not (eqb bits (run.next % 1024 / 32))) ≡ true
      many l = rw (lt-ltb run.count 5 l) refl

  -- what holds of each way through VC-12's rule
  by_rule : P (starts_run run h)
  unfolding starts_run
  by_rule =
      cond_by P (eqb run.count 0 || not ((says_start h && eqb (run.next % 32) 0) || (not (says_start h) && not (eqb (run.next % 32) 0)))) (begun_packet h)
      (cond (eqb (run.next % 32) 4) (fifth_bit run bits) (goes_on run bits))
      (λ e. begun)
      (λ e.
      let some : run.count ≢ 0 = λ (z : run.count ≡ 0). clash z e in
      cond_by P (eqb (run.next % 32) 4) (fifth_bit run bits) (goes_on run bits)
      (λ w. fifth_by some (eqb-true (run.next % 32) 4 w))
      (λ w. on bits some (not_four run k some (eqb-false (run.next % 32) 4 w)) low))
    where
      clash : run.count ≡ 0 → (eqb run.count 0 || not ((says_start h && eqb (run.next % 32) 0) || (not (says_start h) && not (eqb (run.next % 32) 0)))) ≡ false → ⊥
      clash z e = true≢false (sym (rw z refl) ∙ e)

vc12_kept : (run : Run) (h : ℕ) → RunKept vc12_kind run → RunKept vc12_kind (starts_run run h)
vc12_kept run h k =
    let b = before12 run k in
    of12 (starts_run run h) (by_rule Kept12 run h b (begun12 h) (λ bits some few low. on12 run bits some few low b) (λ bits many w low. two12 bits low))

left_kept : (kind bits : ℕ) (run : Run) → eqb kind vc12_kind ≡ false → bits < 32 → RunKept kind run → RunKept kind (with_bits bits run)
left_kept kind bits run clock low k =
    record {
      most = k.most;
      tag = k.tag;
      none = k.none;
      first = k.first;
      goes = k.goes;
      breaks = k.breaks;
      odd = k.odd;
      clean = k.clean;
      bits = low;
      early = λ v. absurd (true≢false (sym v ∙ clock));
    }

-- a frame more
pub run_kept : (kind : ℕ) (run : Run) (odd : Bool) (h : ℕ) → RunKept kind run → RunKept kind (run_on kind run odd h)
unfolding run_on
run_kept kind =
    by_kind (λ k. (run : Run) (odd : Bool) (h : ℕ) → RunKept k run → RunKept k (run_on k run odd h)) (λ run odd h k. vc12_kept run h k) (λ k clock run odd h kept. rw clock (left_kept k run.bits (h4_run_on k run odd h) clock kept.bits (h4_kept k run odd h clock kept))) kind

begun_one : (h : ℕ) → (begun_packet h).count ≤ 1
unfolding begun_packet
begun_one h = cond_by (λ (r : Run). r.count ≤ 1) (says_start h) (record { count = 1; next = 1; breaks = 0; odd = 0; bits = h % 2 }) no_run (λ e. omega arith) (λ e. omega arith)

next_mod : (n : ℕ) → (n % 1024 + 1) % 1024 % 32 ≡ (n + 1) % 32
next_mod n = omega arith

five_mod : (bits n : ℕ) → n % 32 ≡ 4 → (bits % 32 * 32 + 5) % 32 ≡ (n + 1) % 32
five_mod bits n w = omega arith

in_frames : (a b : ℕ) → a % 32 ≡ b % 32 → a % frames vc12_kind ≡ b % frames vc12_kind
in_frames a b e = ap (λ (n : ℕ). a % n) vc12_frames ∙ e ∙ ap (λ (n : ℕ). b % n) (sym vc12_frames)

goes_grows : (run : Run) (bits : ℕ) → Grows vc12_kind run (goes_on run bits)
unfolding goes_on count_after
goes_grows run bits =
    inr (record {
      count_is = cond_by (λ (n : ℕ). n ≤ run.count + 1) (ltb run.count 64) (run.count + 1) run.count (λ e. omega arith) (λ e. omega arith);
      next_is = in_frames ((run.next % 1024 + 1) % 1024) (run.next + 1) (next_mod run.next);
    })

two_grows : (run : Run) (bits : ℕ) → 4 ≤ run.count → run.next % 32 ≡ 4 → Grows vc12_kind run (first_of_two bits)
unfolding first_of_two
two_grows run bits many w = inr (record { count_is = omega arith; next_is = in_frames (bits % 32 * 32 + 5) (run.next + 1) (five_mod bits run.next w) })

vc12_grows : (run : Run) (h : ℕ) → RunKept vc12_kind run → Grows vc12_kind run (starts_run run h)
vc12_grows run h k =
    by_rule (Grows vc12_kind run) run h (before12 run k) (inl (begun_one h)) (λ bits some few low. goes_grows run bits) (λ bits many w low. two_grows run bits many w)

pub run_grows : (kind : ℕ) (r : Run) (odd : Bool) (h : ℕ) → RunKept kind r → Grows kind r (run_on kind r odd h)
unfolding run_on
run_grows kind =
    by_kind (λ k. (r : Run) (odd : Bool) (h : ℕ) → RunKept k r → Grows k r (run_on k r odd h)) (λ r odd h k. vc12_grows r h k) (λ k clock r odd h kept. rw clock (h4_grows k r odd h clock kept)) kind
