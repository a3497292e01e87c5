-- The step rule on frames as sent, over the kind of packet: a port is in step exactly from the frame at which two whole counts have come since the first frame of one, and stays so with the tag of its position.
-- The run after the frame at position x is written down outright (`run_at`), and one frame more leads from it to the next (`run_goes`): H4's in H4Run, VC-12's in StartsRun.
use Rattle.std.specs.Prelude.{◌≡◌, refl, ◌≢◌, Bool, true, false, ℕ, ◌+◌, ◌-◌, ◌*◌, ◌/◌, ◌%◌, ◌≤◌, ◌<◌, min, eqb}
use Rattle.std.proofs.Common.{◌∙◌, sym, ap, ⊎_elim, arith, eqb-true, le-leb, le-ltb, lt-ltb, ne_eqb}
use Rattle.std.proofs.lemmas.Bool.{lt-leb}
use Rattle.ground.specs.Truth.{eq_or_ne, le_or_lt}
use Rattle.packet.specs.Counts.{says_start, told_bits, vc12_counts}
use Rattle.packet.specs.Kinds.{frames, place_of, tag_before, tag_of, vc12_kind}
use Rattle.packet.specs.Laws.Clock.{by_kind}
use Rattle.packet.specs.Laws.Counting.{counts_bit, counts_h4, counts_start, counts_vc12}
use Rattle.packet.specs.Laws.Vc12Clock.{vc12_before, vc12_frames, vc12_place, vc12_tag}
use Rattle.packet.specs.Theorems.Tags.{frames_two}
use Rattle.step.specs.Laws.H4Run as H
pub use Rattle.step.specs.Laws.Positions.{count_fits, few_breaks, few_short, start_from_lem, starts_least}
use Rattle.step.specs.Laws.StartsRun as S
use Rattle.step.specs.Run.{h4_run_on, in_step_at, no_run, run_on, with_bits}
use Rattle.step.specs.Sent.{SentWith}
use Rattle.step.specs.SentRuns.{RunAt, Starts, h4_run_at, run_at, vc12_run_at}
use Rattle.step.specs.Starts.{starts_run}
use Rattle.step.specs.declared.run.Run.{Run}

at_h4 : (kind c0 a x : ℕ) → eqb kind vc12_kind ≡ false → run_at kind c0 a x ≡ h4_run_at kind c0 a x
unfolding run_at
at_h4 kind c0 a x clock = rw clock refl

pub on_h4 : (kind : ℕ) (run : Run) (odd : Bool) (h : ℕ) → eqb kind vc12_kind ≡ false → run_on kind run odd h ≡ with_bits run.bits (h4_run_on kind run odd h)
unfolding run_on
on_h4 kind run odd h clock = rw clock refl

pub sent_h4_lem : (kind x h : ℕ) → eqb kind vc12_kind ≡ false → SentWith kind x h → H.H4Sent kind x h
sent_h4_lem kind x h clock sent = rw (counts_h4 kind (tag_of kind x) h clock) at sent

at_before : (c0 a x : ℕ) → x < a → run_at vc12_kind c0 a x ≡ no_run
unfolding run_at
at_before c0 a x b = rw (lt-ltb x a b) refl

at_from : (c0 a x : ℕ) → a ≤ x → run_at vc12_kind c0 a x ≡ vc12_run_at (c0 + a) (c0 + x)
unfolding run_at
at_from c0 a x l = rw (le-ltb x a l) refl

pub sent_vc12 : (x h : ℕ) → SentWith vc12_kind x h → S.Vc12Sent x h
sent_vc12 x h sent =
    let t : vc12_counts (x % 1024) h ≡ true = ap (λ (n : ℕ). vc12_counts n h) (sym (vc12_tag x)) ∙ sym (counts_vc12 (tag_of vc12_kind x) h) ∙ sent in
    let place : x % 1024 % 32 ≡ x % 32 = omega arith in
    let epoch : x % 1024 % 1024 / 32 ≡ x % 1024 / 32 = omega arith in
    record {
      start = counts_start (x % 1024) h t ∙ ap (λ (n : ℕ). eqb n 0) place;
      bit = λ l. counts_bit (x % 1024) h t (rw place l) ∙ ap (λ (n : ℕ). told_bits (x % 1024 % 1024 / 32) n % 2) place ∙ ap (λ (n : ℕ). told_bits n (x % 32) % 2) epoch;
    }

on_vc12 : (run : Run) (odd : Bool) (h : ℕ) → run_on vc12_kind run odd h ≡ starts_run run h
unfolding run_on
on_vc12 run odd h = refl

-- In step exactly from the frame at which so many have come since a, and then with the tag of the position.

vc12_in_step : (c0 a x : ℕ) (run : Run) → RunAt vc12_kind c0 a x run → a + frames vc12_kind * 2 ≤ x + 1 → in_step_at vc12_kind run.count ≡ true
unfolding in_step_at vc12_run_at
vc12_in_step c0 a x run is enough =
    let f = vc12_frames in
    rw (is, at_from c0 a x (omega arith)) (le-leb (frames vc12_kind * 2) (min (c0 + x - (c0 + a) + 1) 64) (omega arith))

pub run_in_step : (kind c0 a x : ℕ) (run : Run) → RunAt kind c0 a x run → a + frames kind * 2 ≤ x + 1 → in_step_at kind run.count ≡ true
run_in_step kind =
    by_kind (λ k. (c0 a x : ℕ) (run : Run) → RunAt k c0 a x run → a + frames k * 2 ≤ x + 1 → in_step_at k run.count ≡ true) vc12_in_step
    (λ k clock c0 a x run is. H.run_in_step k c0 a x run (is ∙ at_h4 k c0 a x clock)) kind

vc12_short : (c0 a x : ℕ) (run : Run) → RunAt vc12_kind c0 a x run → x + 1 < a + frames vc12_kind * 2 → in_step_at vc12_kind run.count ≡ false
unfolding in_step_at vc12_run_at
vc12_short c0 a x run is near =
    let f = vc12_frames in
    ⊎_elim (λ (l : a ≤ x). rw (is, at_from c0 a x l) (lt-leb (frames vc12_kind * 2) (min (c0 + x - (c0 + a) + 1) 64) (omega arith)))
    (λ (l : x < a). rw (is, at_before c0 a x l) (lt-leb (frames vc12_kind * 2) 0 (omega arith))) (le_or_lt a x)

pub run_short : (kind c0 a x : ℕ) (run : Run) → RunAt kind c0 a x run → x + 1 < a + frames kind * 2 → in_step_at kind run.count ≡ false
run_short kind =
    by_kind (λ k. (c0 a x : ℕ) (run : Run) → RunAt k c0 a x run → x + 1 < a + frames k * 2 → in_step_at k run.count ≡ false) vc12_short
    (λ k clock c0 a x run is. H.run_short k c0 a x run (is ∙ at_h4 k c0 a x clock)) kind

-- it has a frame from a on
vc12_counted : (c0 a x : ℕ) (run : Run) → RunAt vc12_kind c0 a x run → a ≤ x → run.count ≢ 0
unfolding vc12_run_at
vc12_counted c0 a x run is late none =
    let many : run.count ≡ min (c0 + x - (c0 + a) + 1) 64 = ap (λ (q : Run). q.count) (is ∙ at_from c0 a x late) in
    omega arith

pub run_counted : (kind c0 a x : ℕ) (run : Run) → RunAt kind c0 a x run → a ≤ x → run.count ≢ 0
run_counted kind =
    by_kind (λ k. (c0 a x : ℕ) (run : Run) → RunAt k c0 a x run → a ≤ x → run.count ≢ 0) vc12_counted
    (λ k clock c0 a x run is. H.run_counted k c0 a x run (is ∙ at_h4 k c0 a x clock)) kind

vc12_next_is : (c0 a x : ℕ) → a + 4 ≤ x → (vc12_run_at (c0 + a) (c0 + x)).next ≡ (c0 + x + 1) % 1024
unfolding vc12_run_at
vc12_next_is c0 a x l = rw (le-ltb (c0 + x - (c0 + a)) 4 (omega arith)) refl

vc12_run_next : (c0 a x : ℕ) (run : Run) → RunAt vc12_kind c0 a x run → a + frames vc12_kind * 2 ≤ x + 1 → run.next ≡ tag_of vc12_kind (c0 + (x + 1))
vc12_run_next c0 a x run is enough =
    let f = vc12_frames in
    let sum : c0 + (x + 1) ≡ c0 + x + 1 = omega arith in
    ap (λ (q : Run). q.next) (is ∙ at_from c0 a x (omega arith)) ∙ vc12_next_is c0 a x (omega arith) ∙ sym (vc12_tag (c0 + x + 1)) ∙ ap (tag_of vc12_kind) (sym sum)

pub run_next : (kind c0 a x : ℕ) (run : Run) → RunAt kind c0 a x run → a + frames kind * 2 ≤ x + 1 → run.next ≡ tag_of kind (c0 + (x + 1))
run_next kind =
    by_kind (λ k. (c0 a x : ℕ) (run : Run) → RunAt k c0 a x run → a + frames k * 2 ≤ x + 1 → run.next ≡ tag_of k (c0 + (x + 1))) vc12_run_next
    (λ k clock c0 a x run is l. let two = frames_two k in H.run_next k c0 a x run (is ∙ at_h4 k c0 a x clock) (omega arith)) kind

-- it has broken no count, and ended no odd packet

vc12_whole : (c0 a x : ℕ) → ((run_at vc12_kind c0 a x).breaks ≡ 0) × ((run_at vc12_kind c0 a x).odd ≡ 0)
unfolding vc12_run_at
vc12_whole c0 a x = ⊎_elim (λ (l : a ≤ x). rw (at_from c0 a x l) (refl, refl)) (λ (l : x < a). rw (at_before c0 a x l) (refl, refl)) (le_or_lt a x)

h4_whole : (kind c0 a x : ℕ) → ((h4_run_at kind c0 a x).breaks ≡ 0) × ((h4_run_at kind c0 a x).odd ≡ 0)
h4_whole kind c0 a x =
    ⊎_elim
    (λ (l : a ≤ x).
    ⊎_elim (λ (e : x ≡ a). rw (e, H.at_first kind c0 a) (refl, refl)) (λ (n : x ≢ a). rw (H.at_after kind c0 a x (omega arith)) (refl, refl)) (eq_or_ne x a))
    (λ (l : x < a). rw (H.at_before kind c0 a x l) (refl, refl)) (le_or_lt a x)

whole : (kind c0 a x : ℕ) → ((run_at kind c0 a x).breaks ≡ 0) × ((run_at kind c0 a x).odd ≡ 0)
whole kind = by_kind (λ k. (c0 a x : ℕ) → ((run_at k c0 a x).breaks ≡ 0) × ((run_at k c0 a x).odd ≡ 0)) vc12_whole (λ k clock c0 a x. rw (at_h4 k c0 a x clock) (h4_whole k c0 a x)) kind

pub run_unbroken : (kind c0 a x : ℕ) (run : Run) → RunAt kind c0 a x run → run.breaks ≡ 0
run_unbroken kind c0 a x run is = ap (λ (q : Run). q.breaks) is ∙ (whole kind c0 a x).0

pub run_even : (kind c0 a x : ℕ) (run : Run) → RunAt kind c0 a x run → run.odd ≡ 0
run_even kind c0 a x run is = ap (λ (q : Run). q.odd) is ∙ (whole kind c0 a x).1

-- VC-12: and it has the bits of the packet's count

told_before : (y : ℕ) → (y + 1) % 32 ≢ 0 → told_bits (y % 1024 / 32) (y % 32) ≡ told_bits ((y + 1) % 1024 / 32) ((y + 1) % 32 - 1)
told_before y d =
    let e : y % 1024 / 32 ≡ (y + 1) % 1024 / 32 = omega arith in
    let p : y % 32 ≡ (y + 1) % 32 - 1 = omega arith in
    rw (e, p) refl

vc12_told : (c0 a x : ℕ) (run : Run) → RunAt vc12_kind c0 a x run → a + frames vc12_kind * 2 ≤ x + 1 → (c0 + (x + 1)) % 32 ≢ 0
    → run.bits ≡ told_bits ((c0 + (x + 1)) % 1024 / 32) ((c0 + (x + 1)) % 32 - 1)
unfolding vc12_run_at
vc12_told c0 a x run is enough d =
    let f = vc12_frames in
    let sum : c0 + (x + 1) ≡ c0 + x + 1 = omega arith in
    ap (λ (q : Run). q.bits) (is ∙ at_from c0 a x (omega arith)) ∙ rw sum (told_before (c0 + x) (rw sum at d))

pub run_told : (kind c0 a x : ℕ) (run : Run) → RunAt kind c0 a x run → a + frames kind * 2 ≤ x + 1 → eqb kind vc12_kind ≡ true → (c0 + (x + 1)) % 32 ≢ 0
    → run.bits ≡ told_bits ((c0 + (x + 1)) % 1024 / 32) ((c0 + (x + 1)) % 32 - 1)
run_told kind c0 a x run is enough vc12 =
    let k : kind ≡ vc12_kind = eqb-true kind vc12_kind vc12 in
    vc12_told c0 a x run (rw k at is) (rw k at enough)

-- H4: and it has no bits of a count

at_bits : (kind c0 a x : ℕ) → (h4_run_at kind c0 a x).bits ≡ 0
at_bits kind c0 a x =
    ⊎_elim
    (λ (l : a ≤ x).
    ⊎_elim (λ (e : x ≡ a). rw (e, H.at_first kind c0 a) refl) (λ (n : x ≢ a). rw (H.at_after kind c0 a x (omega arith)) refl) (eq_or_ne x a))
    (λ (l : x < a). rw (H.at_before kind c0 a x l) refl) (le_or_lt a x)

blank_at : (kind c0 a x bits : ℕ) (run : Run) → bits ≡ 0 → run ≡ h4_run_at kind c0 a x → with_bits bits run ≡ h4_run_at kind c0 a x
blank_at kind c0 a x bits run blank is =
    ap (λ (n : ℕ). with_bits n run) (blank ∙ sym (at_bits kind c0 a x) ∙ sym (ap (λ (q : Run). q.bits) is)) ∙ is

-- The run of the first frame.

not_due : (c0 f a x : ℕ) → Starts vc12_kind c0 f a → f ≤ x → x < a → (h : ℕ) → SentWith vc12_kind (c0 + x) h → says_start h ≡ false
not_due c0 f a x o low high h sent =
    (sent_vc12 (c0 + x) h sent).start ∙ ne_eqb ((c0 + x) % 32) 0 (λ (z : (c0 + x) % 32 ≡ 0). starts_least vc12_kind c0 f a o x low high (ap (λ (n : ℕ). (c0 + x) % n) vc12_frames ∙ z))

due : (c0 f a : ℕ) → Starts vc12_kind c0 f a → (c0 + a) % 32 ≡ 0
due c0 f a o = ap (λ (n : ℕ). (c0 + a) % n) (sym vc12_frames) ∙ o.starts

-- a frame up to a, after none that counts
vc12_begins : (c0 f a x h : ℕ) (run : Run) → Starts vc12_kind c0 f a → f ≤ x → x ≤ a → run.count ≡ 0 → SentWith vc12_kind (c0 + x) h → starts_run run h ≡ run_at vc12_kind c0 a x
vc12_begins c0 f a x h run o low high none sent =
    ⊎_elim
    (λ (e : x ≡ a).
    let z : (c0 + x) % 32 ≡ 0 = rw e (due c0 f a o) in
    S.run_starts (c0 + x) h run z none (sent_vc12 (c0 + x) h sent) ∙ ap (λ (n : ℕ). vc12_run_at (c0 + n) (c0 + x)) e ∙ sym (at_from c0 a x (omega arith)))
    (λ (n : x ≢ a). S.run_none h run none (not_due c0 f a x o low (omega arith) h sent) ∙ sym (at_before c0 a x (omega arith)))
    (eq_or_ne x a)

pub run_starts : (kind c0 f a h : ℕ) (run : Run) (odd : Bool) → Starts kind c0 f a → run.count ≡ 0 → run.bits ≡ 0 → SentWith kind (c0 + f) h → RunAt kind c0 a f (run_on kind run odd h)
run_starts kind =
    by_kind (λ k. (c0 f a h : ℕ) (run : Run) (odd : Bool) → Starts k c0 f a → run.count ≡ 0 → run.bits ≡ 0 → SentWith k (c0 + f) h → RunAt k c0 a f (run_on k run odd h))
    (λ c0 f a h run odd o none blank sent. on_vc12 run odd h ∙ vc12_begins c0 f a f h run o (omega arith) o.from none sent)
    (λ k clock c0 f a h run odd o none blank sent. on_h4 k run odd h clock ∙ blank_at k c0 a f run.bits (h4_run_on k run odd h) blank (H.run_starts k c0 f a h run odd clock o none (sent_h4_lem k (c0 + f) h clock sent)) ∙ sym (at_h4 k c0 a f clock)) kind

-- One frame more, which ends no odd packet if the port is in step.

vc12_goes : (c0 f a x h : ℕ) (run : Run) → Starts vc12_kind c0 f a → f ≤ x → RunAt vc12_kind c0 a x run → SentWith vc12_kind (c0 + (x + 1)) h → starts_run run h ≡ run_at vc12_kind c0 a (x + 1)
vc12_goes c0 f a x h run o low is sent =
    let sum : c0 + (x + 1) ≡ c0 + x + 1 = omega arith in
    ⊎_elim
    (λ (l : a ≤ x).
    ap (λ (q : Run). starts_run q h) (is ∙ at_from c0 a x l)
    ∙ S.run_goes (c0 + a) (c0 + x) h (due c0 f a o) (omega arith) (sent_vc12 (c0 + x + 1) h (rw sum at sent))
    ∙ ap (vc12_run_at (c0 + a)) (sym sum)
    ∙ sym (at_from c0 a (x + 1) (omega arith)))
    (λ (l : x < a).
    vc12_begins c0 f a (x + 1) h run o (omega arith) (omega arith) (ap (λ (q : Run). q.count) (is ∙ at_before c0 a x l)) sent)
    (le_or_lt a x)

pub run_goes : (kind c0 f a x h : ℕ) (run : Run) (odd : Bool) → Starts kind c0 f a → f ≤ x → RunAt kind c0 a x run → (in_step_at kind run.count ≡ true → odd ≡ false)
    → SentWith kind (c0 + (x + 1)) h → RunAt kind c0 a (x + 1) (run_on kind run odd h)
run_goes kind =
    by_kind (λ k. (c0 f a x h : ℕ) (run : Run) (odd : Bool) → Starts k c0 f a → f ≤ x → RunAt k c0 a x run → (in_step_at k run.count ≡ true → odd ≡ false) → SentWith k (c0 + (x + 1)) h → RunAt k c0 a (x + 1) (run_on k run odd h))
    (λ c0 f a x h run odd o low is even sent. on_vc12 run odd h ∙ vc12_goes c0 f a x h run o low is sent)
    (λ k clock c0 f a x h run odd o low is even sent.
    on_h4 k run odd h clock
    ∙ blank_at k c0 a (x + 1) run.bits (h4_run_on k run odd h) (ap (λ (q : Run). q.bits) (is ∙ at_h4 k c0 a x clock) ∙ at_bits k c0 a x)
    (H.run_goes k c0 f a x h run odd clock o low (is ∙ at_h4 k c0 a x clock) even (sent_h4_lem k (c0 + (x + 1)) h clock sent))
    ∙ sym (at_h4 k c0 a (x + 1) clock)) kind

-- From the run's first frame on the receiver's own tag of a frame, the one before the tag to come, is at the place of the frame's own.

back_one : (y : ℕ) → ((y + 1) % 1024 + 1023) % 1024 % 32 ≡ y % 1024 % 32
back_one y = omega arith

back_near : (d : ℕ) → d < 4 → (d + 1 + 1023) % 1024 % 32 ≡ d
back_near d l = omega arith

near_start : (b d : ℕ) → b % 32 ≡ 0 → d < 4 → (b + d) % 1024 % 32 ≡ d
near_start b d z l = omega arith

vc12_place_is : (c0 a x : ℕ) → (c0 + a) % 32 ≡ 0 → a ≤ x → ((vc12_run_at (c0 + a) (c0 + x)).next + 1023) % 1024 % 32 ≡ (c0 + x) % 1024 % 32
unfolding vc12_run_at
vc12_place_is c0 a x z late =
    ⊎_elim (λ (l : 4 ≤ c0 + x - (c0 + a)). rw (le-ltb (c0 + x - (c0 + a)) 4 l) (back_one (c0 + x)))
    (λ (l : c0 + x - (c0 + a) < 4).
    let sum : c0 + a + (c0 + x - (c0 + a)) ≡ c0 + x = omega arith in
    rw (lt-ltb (c0 + x - (c0 + a)) 4 l) (back_near (c0 + x - (c0 + a)) l ∙ sym (near_start (c0 + a) (c0 + x - (c0 + a)) z l) ∙ ap (λ (n : ℕ). n % 1024 % 32) sum)) (le_or_lt 4 (c0 + x - (c0 + a)))

vc12_run_place : (c0 f a x : ℕ) (run : Run) → Starts vc12_kind c0 f a → a ≤ x → RunAt vc12_kind c0 a x run
    → place_of vc12_kind (tag_before vc12_kind run.next) ≡ place_of vc12_kind (tag_of vc12_kind (c0 + x))
vc12_run_place c0 f a x run o late is =
    vc12_place (tag_before vc12_kind run.next)
    ∙ ap (λ (n : ℕ). n % 32) (vc12_before run.next ∙ ap (λ (q : Run). (q.next + 1023) % 1024) (is ∙ at_from c0 a x late))
    ∙ vc12_place_is c0 a x (due c0 f a o) late
    ∙ ap (λ (n : ℕ). n % 32) (sym (vc12_tag (c0 + x)))
    ∙ sym (vc12_place (tag_of vc12_kind (c0 + x)))

pub run_place : (kind c0 f a x : ℕ) (run : Run) → Starts kind c0 f a → a ≤ x → RunAt kind c0 a x run → place_of kind (tag_before kind run.next) ≡ place_of kind (tag_of kind (c0 + x))
run_place kind =
    by_kind (λ k. (c0 f a x : ℕ) (run : Run) → Starts k c0 f a → a ≤ x → RunAt k c0 a x run → place_of k (tag_before k run.next) ≡ place_of k (tag_of k (c0 + x))) vc12_run_place
    (λ k clock c0 f a x run o late is. H.run_place k c0 f a x run clock o late (is ∙ at_h4 k c0 a x clock)) kind
