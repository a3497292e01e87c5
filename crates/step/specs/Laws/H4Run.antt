-- H4's step rule on frames as sent: a port is in step exactly from the frame at which two multiframes have come since the first with MFI1 0, and stays so with the tag of its position.
-- The idea: the run after the frame at position x is written down outright (`h4_run_at`), and one frame more leads from it to the next (`run_goes`).
use Rattle.std.specs.Prelude.{◌≡◌, refl, ◌≢◌, Bool, true, false, cond, ℕ, ◌+◌, ◌-◌, ◌*◌, ◌%◌, ◌≤◌, ◌<◌, min, eqb}
use Rattle.std.proofs.Common.{◌∙◌, ap, ⊎_elim, arith, eq-eqb, ne_eqb, lt-ltb, le-ltb, le-leb}
use Rattle.std.proofs.lemmas.Bool.{lt-leb}
use Rattle.ground.specs.Truth.{eq_or_ne, le_or_lt}
use Rattle.packet.specs.Counts.{h4_counts, told_first}
use Rattle.packet.specs.Kinds.{frames, place_of, tag_after, tag_before, tag_of, vc12_kind}
use Rattle.packet.specs.Laws.Counting.{sent_first, sent_second, sent_starts, sent_starts_not, sent_told, told_place}
use Rattle.packet.specs.Theorems.Tags.{frames_two, next_tag, tag_before_lem}
use Rattle.step.specs.Laws.Positions.{few_short, starts_least}
use Rattle.step.specs.SentRuns.{Starts, h4_run_at}
use Rattle.step.specs.declared.run.Run.{Run}
use Rattle.step.specs.Run.{begun_run, breaks_after, ends_packet, further_run, gained_run, h4_run_on, in_step_at, loses, no_run, odd_after, second_run, stayed_run}

abbrev pub H4Sent : ℕ → ℕ → ℕ → Type 0
H4Sent kind x h = h4_counts (tag_of kind x) h ≡ true

abbrev pub H4RunAt : ℕ → ℕ → ℕ → ℕ → Run → Type 0
H4RunAt kind c0 a x run = run ≡ h4_run_at kind c0 a x

pub at_before : (kind c0 a x : ℕ) → x < a → h4_run_at kind c0 a x ≡ no_run
unfolding h4_run_at
at_before kind c0 a x b = rw (lt-ltb x a b) refl

pub at_first : (kind c0 a : ℕ) → h4_run_at kind c0 a a ≡ record { count = 1; next = told_first kind (c0 + a); breaks = 0; odd = 0; bits = 0 }
unfolding h4_run_at
at_first kind c0 a = rw (le-ltb a a (omega arith), eq-eqb a a refl) refl

pub at_after : (kind c0 a x : ℕ) → a < x
    → h4_run_at kind c0 a x ≡ record { count = min (x - a + 1) (frames kind * 2); next = tag_of kind (c0 + (x + 1)); breaks = 0; odd = 0; bits = 0 }
unfolding h4_run_at
at_after kind c0 a x b = rw (le-ltb x a (omega arith), ne_eqb x a (λ (z : x ≡ a). omega arith)) refl

-- In step exactly from the frame at which so many have come since a, and then with the tag of the position.

pub run_in_step : (kind c0 a x : ℕ) (run : Run) → H4RunAt kind c0 a x run → a + frames kind * 2 ≤ x + 1 → in_step_at kind run.count ≡ true
unfolding in_step_at
run_in_step kind c0 a x run is enough =
    let more = frames_two kind in
    rw (is, at_after kind c0 a x (omega arith)) (le-leb (frames kind * 2) (min (x - a + 1) (frames kind * 2)) (omega arith))

pub run_short : (kind c0 a x : ℕ) (run : Run) → H4RunAt kind c0 a x run → x + 1 < a + frames kind * 2 → in_step_at kind run.count ≡ false
unfolding in_step_at
run_short kind c0 a x run is near =
    let more = frames_two kind in
    ⊎_elim
    (λ (g : a ≤ x).
    ⊎_elim
    (λ (e : x ≡ a). rw (is, e, at_first kind c0 a) (lt-leb (frames kind * 2) 1 (omega arith)))
    (λ (n : x ≢ a). rw (is, at_after kind c0 a x (omega arith)) (lt-leb (frames kind * 2) (min (x - a + 1) (frames kind * 2)) (omega arith)))
    (eq_or_ne x a))
    (λ (g : x < a). rw (is, at_before kind c0 a x g) (lt-leb (frames kind * 2) 0 (omega arith)))
    (le_or_lt a x)

-- it has a frame from a on
pub run_counted : (kind c0 a x : ℕ) (run : Run) → H4RunAt kind c0 a x run → a ≤ x → run.count ≢ 0
run_counted kind c0 a x run is late none =
    ⊎_elim
    (λ (e : x ≡ a).
    let one : run.count ≡ 1 = ap (λ (q : Run). q.count) is ∙ rw e (ap (λ (q : Run). q.count) (at_first kind c0 a)) in
    absurd (omega arith))
    (λ (n : x ≢ a).
    let more = frames_two kind in
    let many : run.count ≡ min (x - a + 1) (frames kind * 2) = ap (λ (q : Run). q.count) (is ∙ at_after kind c0 a x (omega arith)) in
    absurd (omega arith))
    (eq_or_ne x a)

pub run_next : (kind c0 a x : ℕ) (run : Run) → H4RunAt kind c0 a x run → a < x → run.next ≡ tag_of kind (c0 + (x + 1))
run_next kind c0 a x run is b = rw (is, at_after kind c0 a x b) refl

-- One frame more, before the step.

pub run_gains : (kind : ℕ) (run : Run) (odd : Bool) (h : ℕ) → in_step_at kind run.count ≡ false → h4_run_on kind run odd h ≡ gained_run kind run h
unfolding h4_run_on
run_gains kind run odd h e = rw e refl

-- a frame up to a, after none that counts: the first of the run at a, and nothing before
begun_at_lem : (kind c0 f a x h : ℕ) → eqb kind vc12_kind ≡ false → Starts kind c0 f a → f ≤ x → x ≤ a → H4Sent kind (c0 + x) h → begun_run kind h ≡ h4_run_at kind c0 a x
unfolding begun_run h4_run_at
begun_at_lem kind c0 f a x h clock o low high sent =
    ⊎_elim
    (λ (e : x ≡ a).
    let z : (c0 + x) % frames kind ≡ 0 = rw e o.starts in
    rw (sent_starts kind (c0 + x) h clock sent z, sent_first kind (c0 + x) h clock sent z, le-ltb x a (omega arith), eq-eqb x a e) refl)
    (λ (n : x ≢ a).
    rw (sent_starts_not kind (c0 + x) h clock sent (starts_least kind c0 f a o x low (omega arith)), lt-ltb x a (omega arith)) refl)
    (eq_or_ne x a)

none_on : (kind : ℕ) (run : Run) (odd : Bool) (h : ℕ) → run.count ≡ 0 → h4_run_on kind run odd h ≡ begun_run kind h
unfolding gained_run
none_on kind run odd h none =
    let more = frames_two kind in
    run_gains kind run odd h (few_short kind run.count (omega arith)) ∙ rw (eq-eqb run.count 0 none) refl

-- the run of the first frame
pub run_starts : (kind c0 f a h : ℕ) (run : Run) (odd : Bool) → eqb kind vc12_kind ≡ false → Starts kind c0 f a → run.count ≡ 0 → H4Sent kind (c0 + f) h → H4RunAt kind c0 a f (h4_run_on kind run odd h)
run_starts kind c0 f a h run odd clock o none sent = none_on kind run odd h none ∙ begun_at_lem kind c0 f a f h clock o (omega arith) o.from sent

second_at : (kind c0 a : ℕ) (odd : Bool) (h : ℕ) → eqb kind vc12_kind ≡ false → (c0 + a) % frames kind ≡ 0 → H4Sent kind (c0 + (a + 1)) h
    → h4_run_on kind (record { count = 1; next = told_first kind (c0 + a); breaks = 0; odd = 0; bits = 0 }) odd h ≡ record { count = 2; next = tag_of kind (c0 + (a + 1 + 1)); breaks = 0; odd = 0; bits = 0 }
unfolding gained_run second_run
second_at kind c0 a odd h clock z sent =
    let more = frames_two kind in
    let p : c0 + (a + 1) ≡ c0 + a + 1 = omega arith in
    let q : c0 + (a + 1 + 1) ≡ c0 + a + 1 + 1 = omega arith in
    let s : H4Sent kind (c0 + a + 1) h = rw p at sent in
    run_gains kind (record { count = 1; next = told_first kind (c0 + a); breaks = 0; odd = 0; bits = 0 }) odd h (few_short kind 1 (omega arith))
    ∙ rw (q, sent_second kind (c0 + a) h clock z s, sent_told kind (c0 + a) h clock z s) refl

gains_at : (kind n c0 x : ℕ) (odd : Bool) (h : ℕ) → 2 ≤ n → n < frames kind * 2 → H4Sent kind (c0 + (x + 1)) h
    → h4_run_on kind (record { count = n; next = tag_of kind (c0 + (x + 1)); breaks = 0; odd = 0; bits = 0 }) odd h ≡ record { count = n + 1; next = tag_of kind (c0 + (x + 1 + 1)); breaks = 0; odd = 0; bits = 0 }
unfolding gained_run further_run
gains_at kind n c0 x odd h many fewer sent =
    let q : c0 + (x + 1 + 1) ≡ c0 + (x + 1) + 1 = omega arith in
    run_gains kind (record { count = n; next = tag_of kind (c0 + (x + 1)); breaks = 0; odd = 0; bits = 0 }) odd h (few_short kind n fewer)
    ∙ rw (ne_eqb n 0 (λ (z : n ≡ 0). omega arith), ne_eqb n 1 (λ (z : n ≡ 1). omega arith), sent, next_tag kind (c0 + (x + 1)), q) refl

-- In step.

-- no odd packet after none
pub odd_none : (kind : ℕ) (run : Run) → run.odd ≡ 0 → odd_after kind run false ≡ 0
unfolding odd_after
odd_none kind run e = go (ends_packet kind run.next)
  where
    go : (b : Bool) → cond b 0 run.odd ≡ 0
    go true = refl
    go false = e

-- a frame with the tag to come that ends no odd packet
pub run_on_lem : (kind : ℕ) (run : Run) (odd : Bool) (h : ℕ) → in_step_at kind run.count ≡ true → h4_counts run.next h ≡ true → odd ≡ false
    → h4_run_on kind run odd h ≡ record { count = run.count; next = tag_after kind run.next; breaks = 0; odd = odd_after kind run false; bits = run.bits }
unfolding h4_run_on stayed_run loses breaks_after
run_on_lem kind run odd h e sent even = rw (e, sent, even) refl

-- one that breaks the count, after fewer than three that do
pub run_broken : (kind : ℕ) (run : Run) (odd : Bool) (h : ℕ) → in_step_at kind run.count ≡ true → h4_counts run.next h ≡ false → odd ≡ false → run.breaks < 3
    → h4_run_on kind run odd h ≡ record { count = run.count; next = tag_after kind run.next; breaks = run.breaks + 1; odd = odd_after kind run false; bits = run.bits }
unfolding h4_run_on stayed_run loses breaks_after
run_broken kind run odd h e broken even few = rw (e, broken, even, lt-leb 3 run.breaks few) refl

stays_at : (kind count c0 x : ℕ) (odd : Bool) (h : ℕ) → in_step_at kind count ≡ true → odd ≡ false → H4Sent kind (c0 + (x + 1)) h
    → h4_run_on kind (record { count = count; next = tag_of kind (c0 + (x + 1)); breaks = 0; odd = 0; bits = 0 }) odd h ≡ record { count = count; next = tag_of kind (c0 + (x + 1 + 1)); breaks = 0; odd = 0; bits = 0 }
stays_at kind count c0 x odd h e even sent =
    let q : c0 + (x + 1 + 1) ≡ c0 + (x + 1) + 1 = omega arith in
    run_on_lem kind (record { count = count; next = tag_of kind (c0 + (x + 1)); breaks = 0; odd = 0; bits = 0 }) odd h e sent even
    ∙ rw (odd_none kind (record { count = count; next = tag_of kind (c0 + (x + 1)); breaks = 0; odd = 0; bits = 0 }) refl, next_tag kind (c0 + (x + 1)), q) refl

further_at : (kind n c0 x : ℕ) (odd : Bool) (h : ℕ) → 2 ≤ n → (frames kind * 2 ≤ n → odd ≡ false) → H4Sent kind (c0 + (x + 1)) h
    → h4_run_on kind (record { count = min n (frames kind * 2); next = tag_of kind (c0 + (x + 1)); breaks = 0; odd = 0; bits = 0 }) odd h
    ≡ record { count = min (n + 1) (frames kind * 2); next = tag_of kind (c0 + (x + 1 + 1)); breaks = 0; odd = 0; bits = 0 }
unfolding in_step_at
further_at kind n c0 x odd h many even sent =
    ⊎_elim
    (λ (enough : frames kind * 2 ≤ n).
    let here : min n (frames kind * 2) ≡ frames kind * 2 = omega arith in
    let there : min (n + 1) (frames kind * 2) ≡ frames kind * 2 = omega arith in
    rw (here, there) (stays_at kind (frames kind * 2) c0 x odd h (le-leb (frames kind * 2) (frames kind * 2) (omega arith)) (even enough) sent))
    (λ (fewer : n < frames kind * 2).
    let here : min n (frames kind * 2) ≡ n = omega arith in
    let there : min (n + 1) (frames kind * 2) ≡ n + 1 = omega arith in
    rw (here, there) (gains_at kind n c0 x odd h many fewer sent))
    (le_or_lt (frames kind * 2) n)

two_min : (kind a : ℕ) → 2 ≡ min (a + 1 - a + 1) (frames kind * 2)
two_min kind a = let more = frames_two kind in omega arith

-- one frame more, which ends no odd packet if the port is in step
pub run_goes : (kind c0 f a x h : ℕ) (run : Run) (odd : Bool) → eqb kind vc12_kind ≡ false → Starts kind c0 f a → f ≤ x → H4RunAt kind c0 a x run → (in_step_at kind run.count ≡ true → odd ≡ false)
    → H4Sent kind (c0 + (x + 1)) h → H4RunAt kind c0 a (x + 1) (h4_run_on kind run odd h)
run_goes kind c0 f a x h run odd clock o low is even sent =
    ⊎_elim
    (λ (g : a ≤ x).
    ⊎_elim
    (λ (e : x ≡ a).
    let s : H4Sent kind (c0 + (a + 1)) h = rw e at sent in
    let m : 2 ≡ min (a + 1 - a + 1) (frames kind * 2) = two_min kind a in
    rw (is, e, at_first kind c0 a, at_after kind c0 a (a + 1) (omega arith), ← m) (second_at kind c0 a odd h clock o.starts s))
    (λ (n : x ≢ a).
    let m : x + 1 - a + 1 ≡ x - a + 1 + 1 = omega arith in
    let quiet : frames kind * 2 ≤ x - a + 1 → odd ≡ false = λ (l : frames kind * 2 ≤ x - a + 1). even (run_in_step kind c0 a x run is (omega arith)) in
    rw (is, at_after kind c0 a x (omega arith), at_after kind c0 a (x + 1) (omega arith), m)
    (further_at kind (x - a + 1) c0 x odd h (omega arith) quiet sent))
    (eq_or_ne x a))
    (λ (g : x < a).
    rw (is, at_before kind c0 a x g) (none_on kind no_run odd h refl ∙ begun_at_lem kind c0 f a (x + 1) h clock o (omega arith) (omega arith) sent))
    (le_or_lt a x)

-- From the run's first frame on the receiver's own tag of a frame, the one before the tag to come, is at the place of the frame's own.

pub run_place : (kind c0 f a x : ℕ) (run : Run) → eqb kind vc12_kind ≡ false → Starts kind c0 f a → a ≤ x → H4RunAt kind c0 a x run → place_of kind (tag_before kind run.next) ≡ place_of kind (tag_of kind (c0 + x))
run_place kind c0 f a x run clock o late is =
    ⊎_elim
    (λ (e : x ≡ a).
    let told : run.next ≡ told_first kind (c0 + x) = ap (λ (q : Run). q.next) is ∙ rw e (ap (λ (q : Run). q.next) (at_first kind c0 a)) in
    rw told (told_place kind (c0 + x) clock (rw e o.starts)))
    (λ (n : x ≢ a).
    let q : c0 + (x + 1) ≡ c0 + x + 1 = omega arith in
    rw (run_next kind c0 a x run is (omega arith), q, tag_before_lem kind (c0 + x)) refl)
    (eq_or_ne x a)
