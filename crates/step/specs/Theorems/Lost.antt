-- Step is lost exactly so, of H4 (request 2026-04) and of VC-12 (request 2026-01), on every record and every frame that is not flagged; and a frame after which the port is in step has the tag that was to come.
use Rattle.std.specs.Prelude.{◌≡◌, ◌≢◌, ◌⊎◌, Bool, true, ◌&&◌, ◌||◌, ℕ, ◌+◌, ◌*◌, ◌/◌, ◌%◌, ◌≤◌, eqb, leb, ltb}
use Rattle.std.proofs.Math.Path.{refl, sym, ap}
use Rattle.std.proofs.Common.{◌∙◌, true≢false}
use Rattle.std.proofs.Math.Logic.{inl, inr, ⊎_elim}
use Rattle.std.proofs.Math.Bool.{false, cond, not}
use native.Mathlib.Omega.{arith}
use borrow.Author.Tests.{eq-eqb, eqb-false, le-leb, le-ltb, leb-true, lt-leb, ne_eqb, not-false, not-true}
use Rattle.ground.specs.Truth.{and_left, and_right, cond_by, eq_or_ne, fails, or_cases, or_left, or_right}
use Rattle.packet.specs.Counts.{carries_low, h4_counts, says_start, starts_count, tag_by_high, tag_by_low}
use Rattle.packet.specs.Kinds.{frames, tag_after, vc12_kind}
use Rattle.packet.specs.Laws.Clock.{by_kind}
use Rattle.packet.specs.Laws.Vc12Clock.{vc12_frames, vc12_next}
use Rattle.packet.specs.Theorems.Tags.{frames_two}
use Rattle.rows.specs.declared.group.Group.{Group}
use Rattle.rows.specs.declared.step.Step.{Step}
use Rattle.step.specs.Arrival.{counts_on, frame_dropped, in_step, joining, keeps, outside, run_of, taken_of}
use Rattle.step.specs.Laws.Arrival.{stepped, taken_by}
use Rattle.step.specs.Laws.StartsRun.{alike, fifth_bit_lem, other_bit}
use Rattle.step.specs.Losing.{FourthBreak, OtherCount, SecondOdd, StartNotDue}
use Rattle.step.specs.Run.{begun_run, breaks_after, further_run, gained_run, h4_run_on, in_step_at, loses, no_run, odd_after, run_on, second_run, stayed_run}
use Rattle.step.specs.Starts.{begun_packet, bits_after, count_after, fifth_bit, first_of_two, goes_on, starts_run}
use Rattle.step.specs.declared.arrival.Taken.{Taken}
use Rattle.step.specs.declared.run.Run.{Run}

-- a run of at most two frames is no step
pub two_not_in_step : (kind count : ℕ) → count ≤ 2 → in_step_at kind count ≡ true → ⊥
unfolding in_step_at
two_not_in_step kind count l e =
    let enough = leb-true (frames kind * 2) count e in
    let more = frames_two kind in
    omega arith

begun_at_most_two : (kind h : ℕ) → (begun_run kind h).count ≤ 2
unfolding begun_run
begun_at_most_two kind h =
    cond_by (λ (r : Run). r.count ≤ 2) (starts_count kind h) (record { count = 1; next = tag_by_high kind h; breaks = 0; odd = 0; bits = 0 }) no_run (λ e. omega arith) (λ e. omega arith)

second_at_most_two : (kind : ℕ) (run : Run) (h : ℕ) → (second_run kind run h).count ≤ 2
unfolding second_run
second_at_most_two kind run h =
    cond_by (λ (r : Run). r.count ≤ 2) (carries_low kind h) (record { count = 2; next = tag_by_low kind run.next h; breaks = 0; odd = 0; bits = 0 }) (begun_run kind h)
    (λ e. omega arith) (λ e. begun_at_most_two kind h)

begun_short : (kind h : ℕ) → in_step_at kind (begun_run kind h).count ≡ false
begun_short kind h = fails (in_step_at kind (begun_run kind h).count) (λ t. two_not_in_step kind (begun_run kind h).count (begun_at_most_two kind h) t)

-- a frame after which the port is in step has the tag that was to come: the next one is the tag after it

abbrev GoesOn : ℕ → Run → Run → Type 0
GoesOn kind run r = in_step_at kind r.count ≡ true → r.next ≡ tag_after kind run.next

begun_not : (kind : ℕ) (run : Run) (h : ℕ) → GoesOn kind run (begun_run kind h)
begun_not kind run h t = absurd (two_not_in_step kind (begun_run kind h).count (begun_at_most_two kind h) t)

gained_on : (kind : ℕ) (run : Run) (h : ℕ) → GoesOn kind run (gained_run kind run h)
unfolding gained_run further_run
gained_on kind run h =
    cond_by (GoesOn kind run) (eqb run.count 0) (begun_run kind h) (cond (eqb run.count 1) (second_run kind run h) (further_run kind run h)) (λ e. begun_not kind run h)
    (λ e.
    cond_by (GoesOn kind run) (eqb run.count 1) (second_run kind run h) (further_run kind run h)
    (λ d t. absurd (two_not_in_step kind (second_run kind run h).count (second_at_most_two kind run h) t))
    (λ d.
    cond_by (GoesOn kind run) (h4_counts run.next h) (record { count = run.count + 1; next = tag_after kind run.next; breaks = 0; odd = 0; bits = 0 }) (begun_run kind h)
    (λ c t. refl) (λ c. begun_not kind run h)))

-- what stays of a run in step
abbrev onward : ℕ → Run → Bool → ℕ → Run
onward kind run odd h =
    record { count = run.count; next = tag_after kind run.next; breaks = breaks_after (h4_counts run.next h) run.breaks; odd = odd_after kind run odd; bits = run.bits }

h4_goes_on : (kind : ℕ) (run : Run) (odd : Bool) (h : ℕ) → GoesOn kind run (h4_run_on kind run odd h)
unfolding h4_run_on stayed_run
h4_goes_on kind run odd h =
    cond_by (GoesOn kind run) (in_step_at kind run.count) (stayed_run kind run odd h) (gained_run kind run h)
    (λ e.
    cond_by (GoesOn kind run) (loses (h4_counts run.next h) run odd) (begun_run kind h) (onward kind run odd h)
    (λ l. begun_not kind run h) (λ l t. refl))
    (λ e. gained_on kind run h)

-- VC-12

begun_one : (h : ℕ) → (begun_packet h).count ≤ 2
unfolding begun_packet
begun_one h = cond_by (λ (r : Run). r.count ≤ 2) (says_start h) (record { count = 1; next = 1; breaks = 0; odd = 0; bits = h % 2 }) no_run (λ e. omega arith) (λ e. omega arith)

pub two_short : (bits : ℕ) → in_step_at vc12_kind (first_of_two bits).count ≡ false
unfolding first_of_two in_step_at
two_short bits = let f = vc12_frames in lt-leb (frames vc12_kind * 2) 5 (omega arith)

pub packet_short : (h : ℕ) → in_step_at vc12_kind (begun_packet h).count ≡ false
packet_short h = fails (in_step_at vc12_kind (begun_packet h).count) (λ t. two_not_in_step vc12_kind (begun_packet h).count (begun_one h) t)

on_next : (run : Run) (bits : ℕ) → GoesOn vc12_kind run (goes_on run bits)
unfolding goes_on
on_next run bits t = vc12_next run.next

not_short : (run r : Run) → in_step_at vc12_kind r.count ≡ false → GoesOn vc12_kind run r
not_short run r short t = absurd (true≢false (sym t ∙ short))

vc12_goes_on : (run : Run) (h : ℕ) → GoesOn vc12_kind run (starts_run run h)
unfolding starts_run fifth_bit
vc12_goes_on run h =
    let bits : ℕ = bits_after run.bits (run.next % 32) (h % 2) in
    cond_by (GoesOn vc12_kind run) (eqb run.count 0 || not ((says_start h && eqb (run.next % 32) 0) || (not (says_start h) && not (eqb (run.next % 32) 0)))) (begun_packet h)
    (cond (eqb (run.next % 32) 4) (fifth_bit run bits) (goes_on run bits))
    (λ e. not_short run (begun_packet h) (packet_short h))
    (λ e.
    cond_by (GoesOn vc12_kind run) (eqb (run.next % 32) 4) (fifth_bit run bits) (goes_on run bits)
    (λ w.
    cond_by (GoesOn vc12_kind run) (ltb run.count 5 || not (eqb bits (run.next % 1024 / 32))) (first_of_two bits) (goes_on run bits)
    (λ o. not_short run (first_of_two bits) (two_short bits)) (λ o. on_next run bits))
    (λ w. on_next run bits))

pub run_goes_on : (kind : ℕ) (run : Run) (odd : Bool) (h : ℕ) → in_step_at kind (run_on kind run odd h).count ≡ true → (run_on kind run odd h).next ≡ tag_after kind run.next
unfolding run_on
run_goes_on kind =
    by_kind (λ k. (run : Run) (odd : Bool) (h : ℕ) → GoesOn k run (run_on k run odd h)) (λ run odd h. vc12_goes_on run h) (λ k clock run odd h. rw clock (h4_goes_on k run odd h)) kind

-- In step before, it is lost exactly where the rule says so. Of H4:
lost_is : (kind : ℕ) (run : Run) (odd : Bool) (h : ℕ) → eqb kind vc12_kind ≡ false → in_step_at kind run.count ≡ true
    → in_step_at kind (run_on kind run odd h).count ≡ not (loses (h4_counts run.next h) run odd)
unfolding run_on h4_run_on stayed_run
lost_is kind run odd h clock e = rw (clock, e) (go (loses (h4_counts run.next h) run odd))
  where
    go : (l : Bool) → in_step_at kind (cond l (begun_run kind h) (onward kind run odd h)).count ≡ not l
    go true = begun_short kind h
    go false = e

module _ (kind : ℕ) (run : Run) (odd : Bool) (h : ℕ) (clock : eqb kind vc12_kind ≡ false) (stands : in_step_at kind run.count ≡ true) where
  abbrev broken : Bool
  broken = not (h4_counts run.next h) && leb 3 run.breaks

  abbrev twice : Bool
  twice = odd && not (eqb run.odd 0)

  pub lost_so : in_step_at kind (run_on kind run odd h).count ≡ false → FourthBreak run h ⊎ SecondOdd run odd
  unfolding loses
  lost_so e =
      ⊎_elim
      (λ (b : broken ≡ true).
      inl (record {
        broken = not-true (h4_counts run.next h) (and_left (not (h4_counts run.next h)) (leb 3 run.breaks) b);
        after = leb-true 3 run.breaks (and_right (not (h4_counts run.next h)) (leb 3 run.breaks) b);
      }))
      (λ (b : twice ≡ true).
      inr (record { ends = and_left odd (not (eqb run.odd 0)) b; after = eqb-false run.odd 0 (not-true (eqb run.odd 0) (and_right odd (not (eqb run.odd 0)) b)) }))
      (or_cases broken twice (not-false (broken || twice) (sym (lost_is kind run odd h clock stands) ∙ e)))

  pub so_lost : FourthBreak run h ⊎ SecondOdd run odd → in_step_at kind (run_on kind run odd h).count ≡ false
  unfolding loses
  so_lost =
      ⊎_elim
      (λ (b : FourthBreak run h). lost_is kind run odd h clock stands ∙ ap not (or_left broken twice (rw (b.broken, le-leb 3 run.breaks b.after) refl)))
      (λ (b : SecondOdd run odd). lost_is kind run odd h clock stands ∙ ap not (or_right broken twice (rw (b.ends, ne_eqb run.odd 0 b.after) refl)))

-- Of VC-12: 'A start said early or left out loses step at that frame', and 'a packet that breaks this loses step at the fifth bit of its count'. What follows is the frame as a first bit, if it is said to be a start, or its packet as the first of a new two.

module _ (run : Run) (h : ℕ) (stands : in_step_at vc12_kind run.count ≡ true) where
  many : 64 ≤ run.count
  unfolding in_step_at
  many = let f = vc12_frames in let l = leb-true (frames vc12_kind * 2) run.count stands in omega arith

  some : run.count ≢ 0
  some z = let m = many in omega arith

  pub not_due_run : StartNotDue run h → starts_run run h ≡ begun_packet h
  unfolding starts_run
  not_due_run s = rw (ne_eqb run.count 0 some, s.said) (go (eqb (run.next % 32) 0))
    where
      rest : Run
      rest = cond (eqb (run.next % 32) 4) (fifth_bit run (bits_after run.bits (run.next % 32) (h % 2))) (goes_on run (bits_after run.bits (run.next % 32) (h % 2)))

      go : (d : Bool) → cond (not ((not d && d) || (not (not d) && not d))) (begun_packet h) rest ≡ begun_packet h
      go true = refl
      go false = refl

  bits_fifth : run.next % 32 ≡ 4 → bits_after run.bits (run.next % 32) (h % 2) ≡ run.bits % 16 * 2 + h % 2
  unfolding bits_after
  bits_fifth w = rw w refl

  pub other_count_run : OtherCount run h → starts_run run h ≡ first_of_two (run.bits % 16 * 2 + h % 2)
  unfolding fifth_bit
  other_count_run o =
      let m = many in
      fifth_bit_lem run h some o.said o.fifth
      ∙ ap (fifth_bit run) (bits_fifth o.fifth)
      ∙ rw (le-ltb run.count 5 (omega arith), ne_eqb (run.bits % 16 * 2 + h % 2) (run.next % 1024 / 32) o.other) refl

  stands_on : (bits : ℕ) → in_step_at vc12_kind (goes_on run bits).count ≡ true
  unfolding goes_on count_after
  stands_on bits = rw (le-ltb run.count 64 many) stands

  goes_else : says_start h ≡ eqb (run.next % 32) 0 → (OtherCount run h → ⊥) → in_step_at vc12_kind (starts_run run h).count ≡ true
  unfolding fifth_bit
  goes_else said none =
      ⊎_elim
      (λ (w : run.next % 32 ≡ 4).
      ⊎_elim
      (λ (own : run.bits % 16 * 2 + h % 2 ≡ run.next % 1024 / 32).
      let m = many in
      let is : starts_run run h ≡ goes_on run (run.bits % 16 * 2 + h % 2) =
      fifth_bit_lem run h some said w
      ∙ ap (fifth_bit run) (bits_fifth w)
      ∙ rw (le-ltb run.count 5 (omega arith), eq-eqb (run.bits % 16 * 2 + h % 2) (run.next % 1024 / 32) own) refl in
      rw is (stands_on (run.bits % 16 * 2 + h % 2)))
      (λ (other : run.bits % 16 * 2 + h % 2 ≢ run.next % 1024 / 32). absurd (none (record { said = said; fifth = w; other = other })))
      (eq_or_ne (run.bits % 16 * 2 + h % 2) (run.next % 1024 / 32)))
      (λ (d : run.next % 32 ≢ 4). rw (other_bit run h some said d) (stands_on (bits_after run.bits (run.next % 32) (h % 2))))
      (eq_or_ne (run.next % 32) 4)

  pub vc12_so_lost : StartNotDue run h ⊎ OtherCount run h → in_step_at vc12_kind (starts_run run h).count ≡ false
  vc12_so_lost =
      ⊎_elim (λ (s : StartNotDue run h). rw (not_due_run s) (packet_short h)) (λ (o : OtherCount run h). rw (other_count_run o) (two_short (run.bits % 16 * 2 + h % 2)))

  other_or_not : says_start h ≡ eqb (run.next % 32) 0 → OtherCount run h ⊎ (OtherCount run h → ⊥)
  other_or_not said =
      ⊎_elim
      (λ (w : run.next % 32 ≡ 4).
      ⊎_elim (λ (own : run.bits % 16 * 2 + h % 2 ≡ run.next % 1024 / 32). inr (λ o. o.other own))
      (λ (other : run.bits % 16 * 2 + h % 2 ≢ run.next % 1024 / 32). inl (record { said = said; fifth = w; other = other }))
      (eq_or_ne (run.bits % 16 * 2 + h % 2) (run.next % 1024 / 32)))
      (λ (d : run.next % 32 ≢ 4). inr (λ o. d o.fifth))
      (eq_or_ne (run.next % 32) 4)

  pub vc12_lost_so : in_step_at vc12_kind (starts_run run h).count ≡ false → StartNotDue run h ⊎ OtherCount run h
  vc12_lost_so e =
      ⊎_elim
      (λ (said : says_start h ≡ eqb (run.next % 32) 0).
      ⊎_elim (λ (o : OtherCount run h). inr o) (λ (none : OtherCount run h → ⊥). absurd (true≢false (sym (goes_else said none) ∙ e))) (other_or_not said))
      (λ (off : says_start h ≡ not (eqb (run.next % 32) 0)). inl (record { said = off }))
      (alike (says_start h) (eqb (run.next % 32) 0))

-- The same of what a frame does to a port's record, answered 11 too, by which nothing is lost.
module _ (g : Group) (s : Step) (odd : Bool) (h : ℕ) (stands : in_step g s ≡ true) where
  step_after : in_step g (taken_of g s false odd h).step ≡ stepped g s odd h
  unfolding in_step counts_on frame_dropped keeps outside joining
  step_after =
      taken_by (λ (t : Taken). in_step g t.step ≡ stepped g s odd h) g s false odd h (λ f. absurd (true≢false (sym f)))
      (λ f e. refl) (λ f e b. refl) (λ f e b j w. refl) (λ f e b j w. stands ∙ sym e) (λ f e b j t w. refl) (λ f e b j w. refl)

  pub lost_exactly : eqb g.kind vc12_kind ≡ false → in_step g (taken_of g s false odd h).step ≡ false → FourthBreak (run_of s) h ⊎ SecondOdd (run_of s) odd
  unfolding in_step
  lost_exactly clock e = lost_so g.kind (run_of s) odd h clock stands (sym step_after ∙ e)

  pub exactly_lost : eqb g.kind vc12_kind ≡ false → FourthBreak (run_of s) h ⊎ SecondOdd (run_of s) odd → in_step g (taken_of g s false odd h).step ≡ false
  unfolding in_step
  exactly_lost clock b = step_after ∙ so_lost g.kind (run_of s) odd h clock stands b

  pub vc12_lost_exactly : g.kind ≡ vc12_kind → in_step g (taken_of g s false odd h).step ≡ false → StartNotDue (run_of s) h ⊎ OtherCount (run_of s) h
  unfolding in_step run_on
  vc12_lost_exactly k e =
      let out : in_step_at g.kind (run_on g.kind (run_of s) odd h).count ≡ false = sym step_after ∙ e in
      vc12_lost_so (run_of s) h (rw k at stands) (rw k at out)

  pub vc12_exactly_lost : g.kind ≡ vc12_kind → StartNotDue (run_of s) h ⊎ OtherCount (run_of s) h → in_step g (taken_of g s false odd h).step ≡ false
  unfolding in_step run_on
  vc12_exactly_lost k b = step_after ∙ rw k (vc12_so_lost (run_of s) h (rw k at stands) b)
