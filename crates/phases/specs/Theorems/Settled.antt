-- What holds of every state that stopping, beginning and gathering have left, whatever state they found: a group that has begun has a readable port, its first epoch is gathered as soon as it is due, and a group that has not begun could not begin.
use Rattle.std.specs.Prelude.{◌≡◌, refl, Bool, true, false, not, ◌&&◌, List, ℕ, ◌≤◌, length, replicate}
use Rattle.std.proofs.Common.{◌∙◌, ap, arith}
use Rattle.std.proofs.lemmas.Bool.{not-true}
use Rattle.ground.specs.Truth.{and_left, and_right, and-true, clash, cond_by}
use Rattle.ground.specs.Counting.Laws.Tests.{every_ext, every_fails, some_not_none, some_one}
use Rattle.ground.specs.Counting.Words.{One}
use Rattle.phases.specs.Beginning.{begins}
use Rattle.phases.specs.Due.{brought, owes_nothing, silent}
use Rattle.phases.specs.Laws.Cleared.{begun_group, begun_marks_at, begun_step_at, stopped_group}
use Rattle.phases.specs.Laws.Lengths.{length_begin, length_stop}
use Rattle.phases.specs.Laws.Passed.{passed_group_lem, passed_step_at}
use Rattle.phases.specs.Passing.{group_to, passed_group, passed_of, passed_step}
use Rattle.phases.specs.Settling.{Settled, begin_by, begun_at, begun_of, cleared_step, gather_by, gathered_at, settled_of, stop_by, stopped_of}
use Rattle.phases.specs.Theorems.Arc.{sound}
use Rattle.rows.specs.declared.group.Group.{Group}
use Rattle.rows.specs.declared.step.Step.{Step}
use Rattle.rows.specs.Group.{group_at}
use Rattle.rows.specs.Packets.{marks_at}
use Rattle.rows.specs.Rows.{rows_for}
use Rattle.rows.specs.Step.{step_at}
use Rattle.step.specs.Arrival.{flag_of, in_step, readable}
use Rattle.store.specs.Marks.{first_mark}

other : (b c : Bool) → (b && c) ≡ false → b ≡ true → c ≡ false
other b c e t = rw t at e

-- stopping

stop_heard : (n : ℕ) (s : List (List ℕ)) → rows_for n ≤ length s → begun_at (stop_by (group_at s) n s) ≡ true
    → silent (group_at (stop_by (group_at s) n s)) (stop_by (group_at s) n s) n ≡ false
unfolding stop_by
stop_heard n s h =
    cond_by (λ t. begun_at t ≡ true → silent (group_at t) t n ≡ false) (begun_at s && silent (group_at s) s n) (stopped_of (group_at s) n s) s
    (λ e t. clash (begun_at (stopped_of (group_at s) n s)) t (ap (λ (g : Group). flag_of g.begun) (stopped_group (group_at s) n s (omega arith))))
    (λ e t. other (begun_at s) (silent (group_at s) s n) e t)

-- beginning: a port in step is readable from then on

begun_readable : (g : Group) (q : Step) (oldest origin ack : ℕ) → in_step g q ≡ true → readable (group_to g 1 0 oldest origin ack) (cleared_step q (in_step g q)) ≡ true
unfolding readable in_step cleared_step
begun_readable g q oldest origin ack t = rw t refl

pub begun_heard : (g : Group) (n : ℕ) (s : List (List ℕ)) → rows_for n ≤ length s → begins g s n ≡ true → silent (group_at (begun_of g n s)) (begun_of g n s) n ≡ false
unfolding silent
begun_heard g n s h e =
    let o = sound g s n e in
    let i = o.port in
    let is_readable : readable (group_at (begun_of g n s)) (step_at (begun_of g n s) i) ≡ true =
    rw (begun_group g n s (omega arith), begun_step_at g n s i o.below h) (begun_readable g (step_at s i) _ _ _ o.stepped) in
    every_fails n (λ k. not (readable (group_at (begun_of g n s)) (step_at (begun_of g n s) k))) i o.below (ap not is_readable)

-- and it owes its sixteen frames, so nothing is gathered in the call that begins
owes : (g : Group) (q : Step) (oldest origin ack : ℕ) → in_step g q ≡ true → owes_nothing (group_to g 1 0 oldest origin ack) (cleared_step q (in_step g q)) (replicate 16 0) ≡ false
unfolding owes_nothing cleared_step first_mark
owes g q oldest origin ack t = rw (begun_readable g q oldest origin ack t) refl

pub begun_owes : (g : Group) (n : ℕ) (s : List (List ℕ)) → rows_for n ≤ length s → begins g s n ≡ true → brought (group_at (begun_of g n s)) (begun_of g n s) n ≡ false
unfolding brought
begun_owes g n s h e =
    let o = sound g s n e in
    let i = o.port in
    let t = begun_of g n s in
    let owed : owes_nothing (group_at t) (step_at t i) (marks_at t i) ≡ false =
    rw (begun_group g n s (omega arith), begun_step_at g n s i o.below h, begun_marks_at g n s i o.below h) (owes g (step_at s i) _ _ _ o.stepped) in
    every_fails n (λ k. owes_nothing (group_at t) (step_at t k) (marks_at t k)) i o.below owed

record Begun (n : ℕ) (s : List (List ℕ)) : Type 0 where
  heard : begun_at s ≡ true → silent (group_at s) s n ≡ false
  waits : begun_at s ≡ false → begins (group_at s) s n ≡ false

begin_begun : (n : ℕ) (s : List (List ℕ)) → rows_for n ≤ length s → (begun_at s ≡ true → silent (group_at s) s n ≡ false) → Begun n (begin_by (group_at s) n s)
unfolding begin_by
begin_begun n s h heard =
    cond_by (λ t. Begun n t) (not (begun_at s) && begins (group_at s) s n) (begun_of (group_at s) n s) s
    (λ e.
    record {
      heard = λ t. begun_heard (group_at s) n s h (and_right (not (begun_at s)) (begins (group_at s) s n) e);
      waits = λ f. clash (begun_at (begun_of (group_at s) n s)) (ap (λ (g : Group). flag_of g.begun) (begun_group (group_at s) n s (omega arith))) f;
    })
    (λ e. record { heard = heard; waits = λ f. other (not (begun_at s)) (begins (group_at s) s n) e (ap not f) })

-- gathering: who is readable stays so

passed_readable : (g : Group) (q : Step) (whole : Bool) → readable (passed_group g) (passed_step q whole) ≡ readable g q
unfolding readable in_step passed_group passed_step
passed_readable g q whole = refl

pub passed_silent : (g : Group) (store : List ℕ) (n : ℕ) (s : List (List ℕ)) → rows_for n ≤ length s → silent (group_at (passed_of g store n s)) (passed_of g store n s) n ≡ silent g s n
unfolding silent
passed_silent g store n s h =
    let r = passed_of g store n s in
    every_ext n (λ i. not (readable (group_at r) (step_at r i))) (λ i. not (readable g (step_at s i)))
    (λ i b.
    let e : readable (group_at r) (step_at r i) ≡ readable g (step_at s i) =
    rw (passed_group_lem g store n s (omega arith), passed_step_at g store n s i b h) (passed_readable g (step_at s i) (first_mark (marks_at s i))) in
    ap not e)

pub passed_begun : (g : Group) → (passed_group g).begun ≡ g.begun
unfolding passed_group
passed_begun g = refl

pub passed_gathered : (g : Group) → flag_of (passed_group g).gathered ≡ true
unfolding passed_group
passed_gathered g = refl

gather_settled : (store : List ℕ) (n : ℕ) (s : List (List ℕ)) → rows_for n ≤ length s → Begun n s → Settled n (gather_by (group_at s) store n s)
unfolding gather_by
gather_settled store n s h o =
    cond_by (λ t. Settled n t) (begun_at s && not (gathered_at s) && brought (group_at s) s n) (passed_of (group_at s) store n s) s
    (λ e.
    let r = passed_of (group_at s) store n s in
    let first = and_left (begun_at s && not (gathered_at s)) (brought (group_at s) s n) e in
    let begun = and_left (begun_at s) (not (gathered_at s)) first in
    let group : group_at r ≡ passed_group (group_at s) = passed_group_lem (group_at s) store n s (omega arith) in
    let stays : begun_at r ≡ true = ap (λ (g : Group). flag_of g.begun) group ∙ ap (λ (b : ℕ). flag_of b) (passed_begun (group_at s)) ∙ begun in
    record {
      heard = λ t. passed_silent (group_at s) store n s h ∙ o.heard begun;
      gathers = λ t f. clash (gathered_at r) (ap (λ (g : Group). flag_of g.gathered) group ∙ passed_gathered (group_at s)) f;
      waits = λ f. clash (begun_at r) stays f;
    })
    (λ e.
    record {
      heard = o.heard;
      gathers = λ t f. other (begun_at s && not (gathered_at s)) (brought (group_at s) s n) e (and-true (begun_at s) (not (gathered_at s)) t (ap not f));
      waits = o.waits;
    })

pub settled : (n : ℕ) (store : List ℕ) (s : List (List ℕ)) → rows_for n ≤ length s → Settled n (settled_of n store s)
unfolding settled_of
settled n store s h =
    let a = stop_by (group_at s) n s in
    let la : length a ≡ length s = length_stop (group_at s) n s in
    let b = begin_by (group_at a) n a in
    let lb : length b ≡ length s = length_begin (group_at a) n a ∙ la in
    gather_settled store n b (rw lb h) (begin_begun n a (rw la h) (stop_heard n s h))

-- where not all are unreadable, some port is readable
pub heard_port : (g : Group) (s : List (List ℕ)) (n : ℕ) → silent g s n ≡ false → One n (λ i. readable g (step_at s i))
unfolding silent
heard_port g s n e = some_one n (λ i. readable g (step_at s i)) (some_not_none n (λ i. readable g (step_at s i)) e)

-- Which of the three follows. On a settled state nothing does.

off : (b c : Bool) → (b ≡ true → c ≡ false) → (b && c) ≡ false
off true c h = h refl
off false c h = refl

pub stop_stays : (g : Group) (n : ℕ) (s : List (List ℕ)) → (flag_of g.begun ≡ true → silent g s n ≡ false) → stop_by g n s ≡ s
unfolding stop_by
stop_stays g n s h = rw (off (flag_of g.begun) (silent g s n) h) refl

pub begin_stays : (g : Group) (n : ℕ) (s : List (List ℕ)) → (flag_of g.begun ≡ false → begins g s n ≡ false) → begin_by g n s ≡ s
unfolding begin_by
begin_stays g n s h = rw (off (not (flag_of g.begun)) (begins g s n) (λ t. h (not-true (flag_of g.begun) t))) refl

pub gather_stays : (g : Group) (store : List ℕ) (n : ℕ) (s : List (List ℕ)) → (flag_of g.begun ≡ true → flag_of g.gathered ≡ false → brought g s n ≡ false)
    → gather_by g store n s ≡ s
unfolding gather_by
gather_stays g store n s h =
    rw (off (flag_of g.begun && not (flag_of g.gathered)) (brought g s n)
    (λ t.
    h (and_left (flag_of g.begun) (not (flag_of g.gathered)) t)
    (not-true (flag_of g.gathered) (and_right (flag_of g.begun) (not (flag_of g.gathered)) t))))
    refl

pub settled_stays : (n : ℕ) (store : List ℕ) (s : List (List ℕ)) → Settled n s → settled_of n store s ≡ s
unfolding settled_of
settled_stays n store s o =
    rw (stop_stays (group_at s) n s o.heard, begin_stays (group_at s) n s o.waits) (gather_stays (group_at s) store n s o.gathers)

begin_now : (g : Group) (n : ℕ) (s : List (List ℕ)) → flag_of g.begun ≡ false → begins g s n ≡ true → begin_by g n s ≡ begun_of g n s
unfolding begin_by
begin_now g n s f e = rw (f, e) refl

gather_now : (g : Group) (store : List ℕ) (n : ℕ) (s : List (List ℕ)) → flag_of g.begun ≡ true → flag_of g.gathered ≡ false → brought g s n ≡ true
    → gather_by g store n s ≡ passed_of g store n s
unfolding gather_by
gather_now g store n s t f e = rw (t, f, e) refl

pub settled_begins : (n : ℕ) (store : List ℕ) (s : List (List ℕ)) → rows_for n ≤ length s → begun_at s ≡ false → begins (group_at s) s n ≡ true
    → settled_of n store s ≡ begun_of (group_at s) n s
unfolding settled_of
settled_begins n store s h f e =
    rw (stop_stays (group_at s) n s (λ t. clash (begun_at s) t f), begin_now (group_at s) n s f e)
    (gather_stays (group_at (begun_of (group_at s) n s)) store n (begun_of (group_at s) n s) (λ t x. begun_owes (group_at s) n s h e))

pub settled_gathers : (n : ℕ) (store : List ℕ) (s : List (List ℕ)) → begun_at s ≡ true → silent (group_at s) s n ≡ false → gathered_at s ≡ false
    → brought (group_at s) s n ≡ true → settled_of n store s ≡ passed_of (group_at s) store n s
unfolding settled_of
settled_gathers n store s t q f e =
    rw (stop_stays (group_at s) n s (λ x. q), begin_stays (group_at s) n s (λ x. clash (begun_at s) t x)) (gather_now (group_at s) store n s t f e)
