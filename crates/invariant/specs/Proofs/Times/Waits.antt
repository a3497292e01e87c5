-- The timers over the receiver's runs: what the counter of a port says of the reports that came, through any calls.
-- The idea: of an OK port the counter is the number of the latest reports in a row that saw it without its claim, of a FAIL port of those that saw it with its claim; neither goes beyond its time. So the report at which a timer ends is known by the reports alone.
use Rattle.std.specs.Prelude.{◌≡◌, refl, Bool, true, false, cond, ◌&&◌, List, [], ◌∷◌, ℕ, zero, suc, ◌+◌, ◌≤◌, ◌<◌, leb, get_or, length}
use Rattle.std.proofs.Common.{sym, ap, subst, ◌∙◌, ⊎_elim, arith, leb-true, le-ltb, lt-ltb}
use Rattle.std.proofs.Math.ListN.{get_or-eq_default}
use Rattle.ground.specs.Counting.Laws.Tests.{every_at}
use Rattle.ground.specs.Truth.{and_left, and_right, fails, le_or_lt}
use Rattle.invariant.specs.Calls.{Fetch, Frame, Receiver, ReceiverCall, receiver_after, receiver_run, started_with}
use Rattle.invariant.specs.Kept.Group.{Kept}
use Rattle.invariant.specs.Proofs.Calls.{call_kept, run_kept}
use Rattle.invariant.specs.Proofs.Kept.Start.{started_kept, started_with_lem}
use Rattle.invariant.specs.Proofs.Laws.Flags.{never}
use Rattle.invariant.specs.Proofs.Laws.Started.{accepted}
use Rattle.invariant.specs.Proofs.Reports.Ack.{report_port}
use Rattle.invariant.specs.Proofs.Sizes.{call_sizes, run_sizes}
use Rattle.invariant.specs.Proofs.Times.Between.{frame_standing, none_standing, passed_keeps, report_standing}
use Rattle.invariant.specs.Reports.{Given, gives, report_ports}
use Rattle.invariant.specs.Times.{standing_in, waiting_in}
use Rattle.invariant.specs.Waits.{Claimant, InARow, Unclaimed, Zeros, saw_of, saw_with}
use Rattle.phases.specs.Sizes.{ports_in, start_sized}
use Rattle.receiver.specs.Fetch.{due_in, fetch_of, lent_fits}
use Rattle.receiver.specs.Laws.Fresh.{started_port}
use Rattle.receiver.specs.Laws.Sizes.{ports_are, size_is, sizes_of}
use Rattle.receiver.specs.Starting.{fresh_member, group_with, sized_answer, start_as_answer, start_as_rows, start_right, time_of, timer_most, times_within}
use Rattle.reply.specs.Reports.{Apart, Claim, Low, NoTimes}
use Rattle.reply.specs.Theorems.Waiting.{claim_is, hold_exactly, hold_kept, hold_over, idle_at_once, is_claim, restore_exactly}
use Rattle.reply.specs.Theorems.Zero.{zero_today}
use Rattle.reply.specs.declared.members.Port.{Port}
use Rattle.reply.specs.declared.waiting.Standing.{Standing}
use Rattle.reply.specs.Laws.Claims.{keeps_elapsed, keeps_state_lem, left_claim, left_idle, left_lost, with_rested, with_restoring, without_failed, without_kept}
use Rattle.reply.specs.Laws.Members.{candidate_not_idle, restoring_fail, restoring_left}
use Rattle.reply.specs.Members.{fail_state, idle_state, is_idle, is_restoring, ok_state, port_at}
use Rattle.reply.specs.Theorems.States.{standing_is}
use Rattle.reply.specs.Waiting.{chosen_of, has_claim, keeps_number, no_standing, standing, standing_at, standing_by, standings_of, with_claim, without_claim}
use Rattle.reply.specs.Zero.{states_of}
use Rattle.rows.specs.declared.group.Group.{Group}
use Rattle.rows.specs.Group.{group_at}
use Rattle.rows.specs.Laws.Port.{port_member}
use Rattle.rows.specs.Member.{member_at}

-- so many in a row, and one more
row_more : (P : List Port → Type 0) (m : ℕ) (ports : List Port) (saw : List (List Port)) → P ports → InARow P m saw → InARow P (m + 1) (ports ∷ saw)
row_more P m ports saw p q = let one : m + 1 ≡ suc m = omega arith in rw one (p, q)

row_one : (P : List Port → Type 0) (a b : ℕ) (saw : List (List Port)) → InARow P a saw → InARow P b saw → a ≡ b
row_one P zero zero saw p q = refl
row_one P zero (suc b) [] p q = absurd q
row_one P zero (suc b) (ports ∷ saw) p q = absurd (p q.0)
row_one P (suc a) zero [] p q = absurd p
row_one P (suc a) zero (ports ∷ saw) p q = absurd (q p.0)
row_one P (suc a) (suc b) [] p q = absurd p
row_one P (suc a) (suc b) (ports ∷ saw) p q = ap suc (row_one P a b saw p.1 q.1)

-- what a state and a counter say of the reports that came
record Says (n i hold restore state elapsed : ℕ) (saw : List (List Port)) : Type 0 where
  ok : state ≡ ok_state → (elapsed ≤ hold) × InARow (Unclaimed n i) elapsed saw
  fail : state ≡ fail_state → (elapsed ≤ restore) × InARow (Claimant n i) elapsed saw

-- One report.
module _ (ports : List Port) (n i hold restore : ℕ) (saw : List (List Port)) (small : n ≤ 64) (apart : Apart ports n) (b : i < n)
    (off : (port_at ports i).hold_off ≡ hold) (wait : (port_at ports i).restore ≡ restore)
    (says : Says n i hold restore (port_at ports i).state (port_at ports i).elapsed saw) where
  abbrev p : Port
  p = port_at ports i

  abbrev C : List ℕ
  C = chosen_of ports n

  abbrev Left : Standing → Type 0
  Left s = Says n i hold restore s.state s.elapsed (ports ∷ saw)

  with_left : Claim ports n i → (r : Bool) → is_restoring p ≡ r → Left (with_claim p)
  with_left c true r =
      rw (with_restoring p r)
      (record {
        ok = λ (z : fail_state ≡ ok_state). absurd (omega arith);
        fail = λ z. (let l = restoring_left p r in omega arith, row_more (Claimant n i) p.elapsed ports saw c (says.fail (restoring_fail p r)).1);
      })
  with_left c false r =
      rw (with_rested p r)
      (record { ok = λ z. (omega arith, λ (l : Unclaimed n i ports). l.1 c); fail = λ (z : ok_state ≡ fail_state). absurd (omega arith) })

  without_left : is_idle p ≡ false → (Claim ports n i → ⊥) → (k : Bool) → keeps_number C i p ≡ k → Left (without_claim C i p)
  without_left live d true k =
      rw (without_kept C i p k)
      (record {
        ok = λ z. (let l = keeps_elapsed C i p k in omega arith, row_more (Unclaimed n i) p.elapsed ports saw (live, d) (says.ok (keeps_state_lem C i p k)).1);
        fail = λ (z : ok_state ≡ fail_state). absurd (omega arith);
      })
  without_left live d false k =
      rw (without_failed C i p k)
      (record { ok = λ (z : fail_state ≡ ok_state). absurd (omega arith); fail = λ z. (omega arith, d) })

  live_left : is_idle p ≡ false → (c : Bool) → has_claim C i p ≡ c → Left (standing_by C i p)
  live_left live true c = rw (left_claim C i p live c) (with_left (is_claim ports n small apart i b c) (is_restoring p) refl)
  live_left live false c =
      rw (left_lost C i p live c)
      (without_left live (λ (k : Claim ports n i). never (sym c ∙ claim_is ports n small apart i b k)) (keeps_number C i p) refl)

  any_left : (a : Bool) → is_idle p ≡ a → Left (standing_by C i p)
  any_left true e =
      rw (left_idle C i p e)
      (record { ok = λ (z : idle_state ≡ ok_state). absurd (omega arith); fail = λ (z : idle_state ≡ fail_state). absurd (omega arith) })
  any_left false e = live_left e (has_claim C i p) refl

  left_says : Left (standing_at ports n i)
  left_says = rw (standing_is ports n i small b) (any_left (is_idle p) refl)

  abbrev left : Standing
  left = standing_at ports n i

  not_idle : left.state ≡ fail_state → is_idle p ≡ false
  not_idle f = fails (is_idle p) (λ e. let z : idle_state ≡ fail_state = sym (ap (λ (s : Standing). s.state) (idle_at_once ports n i small b e)) ∙ f in omega arith)

  -- the report at which hold-off ends, and that at which restoring does
  fail_at : Low ports n → p.state ≡ ok_state
      → (left.state ≡ fail_state → InARow (Unclaimed n i) (suc hold) (ports ∷ saw)) × (InARow (Unclaimed n i) (suc hold) (ports ∷ saw) → left.state ≡ fail_state)
  fail_at low s = (
    λ f.
        let live = not_idle f in
        let w = (hold_exactly ports n small apart i b live low s).0 f in
        let o = says.ok s in
        let same : p.elapsed ≡ hold = let l = w.1 in let m = o.0 in omega arith in
        ((live, w.0), subst (λ (m : ℕ). InARow (Unclaimed n i) m saw) same o.1),
    λ r.
        let same : p.elapsed ≡ hold = row_one (Unclaimed n i) p.elapsed hold saw (says.ok s).1 r.1 in
        (hold_exactly ports n small apart i b r.0.0 low s).1 (r.0.1, omega arith),
  )

  ok_at : p.state ≡ fail_state
      → (left.state ≡ ok_state → InARow (Claimant n i) (suc restore) (ports ∷ saw)) × (InARow (Claimant n i) (suc restore) (ports ∷ saw) → left.state ≡ ok_state)
  ok_at s = (
    λ f.
        let live : is_idle p ≡ false = fails (is_idle p) (λ e. let z : idle_state ≡ ok_state = sym (ap (λ (t : Standing). t.state) (idle_at_once ports n i small b e)) ∙ f in omega arith) in
        let w = (restore_exactly ports n small apart i b live s).0 f in
        let o = says.fail s in
        let same : p.elapsed ≡ restore = let l = w.1 in let m = o.0 in omega arith in
        (w.0, subst (λ (m : ℕ). InARow (Claimant n i) m saw) same o.1),
    λ r.
        let same : p.elapsed ≡ restore = row_one (Claimant n i) p.elapsed restore saw (says.fail s).1 r.1 in
        (restore_exactly ports n small apart i b (candidate_not_idle p r.0.candidate) s).1 (r.0, omega arith),
  )

  -- until then it is OK under the number that it had
  number_at_lem : Low ports n → p.state ≡ ok_state → Unclaimed n i ports → (left.state ≡ fail_state → ⊥) → (left.state ≡ ok_state) × (left.number ≡ p.state_number)
  number_at_lem low s u d =
      ⊎_elim
      (λ (o : p.hold_off ≤ p.elapsed). absurd (d (ap (λ (t : Standing). t.state) (hold_over ports n small apart i b u.0 u.1 o))))
      (λ (o : p.elapsed < p.hold_off).
      let e : left ≡ standing ok_state p.state_number (p.elapsed + 1) = hold_kept ports n small apart i b u.0 low s u.1 o in
      (ap (λ (t : Standing). t.state) e, ap (λ (t : Standing). t.number) e))
      (le_or_lt p.hold_off p.elapsed)

-- what waiting goes by, of a port as a report sees it
abbrev waits : Port → List ℕ
waits p = p.state ∷ p.state_number ∷ p.hold_off ∷ p.restore ∷ p.elapsed ∷ []

-- and of what is left of it
abbrev left_with : Standing → ℕ → ℕ → List ℕ
left_with s hold restore = s.state ∷ s.number ∷ hold ∷ restore ∷ s.elapsed ∷ []

-- The same of the receiver's rows.
module _ (s : List (List ℕ)) (k : Kept s) (store : List ℕ) where
  abbrev n : ℕ
  n = (group_at s).count

  abbrev seen : List Port
  seen = report_ports s store

  few : n ≤ 64
  few = (sizes_of (group_at s).kind n (group_at s).payload (group_at s).window k.lasting.group.sizes).few_ports

  ports : ports_in (group_at s) ≡ (group_at s).count
  ports = ports_are (group_at s) k.lasting.group.sizes

  port_waits : (i : ℕ) → i < n → waits (port_at seen i) ≡ standing_in s i
  port_waits i c = ap waits (report_port s store i (rw ports c)) ∙ passed_keeps i (group_at s) store (ports_in (group_at s)) s

  port_state : (i : ℕ) → i < n → (port_at seen i).state ≡ (member_at s i).state
  port_state i c = ap (λ (l : List ℕ). get_or l 0 0) (port_waits i c)

  port_number : (i : ℕ) → i < n → (port_at seen i).state_number ≡ (member_at s i).state_number
  port_number i c = ap (λ (l : List ℕ). get_or l 1 0) (port_waits i c)

  low : Low seen n
  low i c ok =
      let below : (member_at s i).state ≡ ok_state → (member_at s i).state_number < 64 = rw (port_member s i) at (k.lasting.members.below i c) in
      rw (port_number i c) (below (sym (port_state i c) ∙ ok))

  apart : Apart seen n
  apart i j bi bj oi oj e =
      let own : (member_at s i).state ≡ ok_state → (member_at s j).state ≡ ok_state → (member_at s i).state_number ≡ (member_at s j).state_number → i ≡ j =
      rw (port_member s i, port_member s j) at (k.lasting.members.apart i j bi bj) in
      own (sym (port_state i bi) ∙ oi) (sym (port_state j bj) ∙ oj) (sym (port_number i bi) ∙ e ∙ port_number j bj)

  left_is : (out report : List ℕ) → Given s store out report → (i : ℕ) → i < n
      → standing_in (fetch_of s store out report).rows i ≡ left_with (standing_at seen n i) (member_at s i).hold_off (member_at s i).restore
  left_is out report o i c =
      report_standing i s store out report o (rw ports c)
      ∙ ap (λ (m : ℕ). left_with (get_or (standings_of seen m) i no_standing) (member_at s i).hold_off (member_at s i).restore)
      (size_is (ports_in (group_at s)) (rw ports few) ∙ ports)

-- The invariant.
record Counted (n i hold restore : ℕ) (w : List ℕ) (saw : List (List Port)) : Type 0 where
  hold_is : get_or w 2 0 ≡ hold
  restore_is : get_or w 3 0 ≡ restore
  says : Says n i hold restore (get_or w 0 0) (get_or w 4 0) saw

abbrev CountedIn : ℕ → ℕ → ℕ → List (List ℕ) → List (List Port) → Type 0
CountedIn i hold restore s saw = Counted (group_at s).count i hold restore (standing_in s i) saw

module _ (s : List (List ℕ)) (k : Kept s) (store : List ℕ) (i hold restore : ℕ) (c : i < (group_at s).count) (saw : List (List Port)) (o : CountedIn i hold restore s saw) where
  off : (port_at (report_ports s store) i).hold_off ≡ hold
  off = ap (λ (l : List ℕ). get_or l 2 0) (port_waits s k store i c) ∙ o.hold_is

  wait : (port_at (report_ports s store) i).restore ≡ restore
  wait = ap (λ (l : List ℕ). get_or l 3 0) (port_waits s k store i c) ∙ o.restore_is

  said : Says (group_at s).count i hold restore (port_at (report_ports s store) i).state (port_at (report_ports s store) i).elapsed saw
  said =
      subst (λ (l : List ℕ). Says (group_at s).count i hold restore (get_or l 0 0) (get_or l 4 0) saw) (sym (port_waits s k store i c)) o.says

  fetch_counted : (out report : List ℕ) → Given s store out report
      → Counted (group_at s).count i hold restore (standing_in (fetch_of s store out report).rows i) (report_ports s store ∷ saw)
  fetch_counted out report g =
      rw (left_is s k store out report g i c)
      (record {
        hold_is = o.hold_is;
        restore_is = o.restore_is;
        says = left_says (report_ports s store) (group_at s).count i hold restore saw (few s k store) (apart s k store) c off wait said;
      })

abbrev CountedOf : ℕ → ℕ → ℕ → Receiver → List (List Port) → Type 0
CountedOf i hold restore x saw = CountedIn i hold restore x.rows saw

given : (x : Receiver) (out report : List ℕ) → gives x out report ≡ true → Given x.rows x.store out report
given x out report e =
    let a : Bool = lent_fits x.rows x.store out report in
    let d : Bool = due_in (group_at x.rows) (ports_in (group_at x.rows)) x.rows in
    record { fitting = and_left a d e; due = and_right a d e }

call_counted : (x : Receiver) (c : ReceiverCall) → Kept x.rows → (i hold restore : ℕ) → i < (group_at x.rows).count → (saw : List (List Port)) → CountedOf i hold restore x saw
    → CountedOf i hold restore (receiver_after x c) (saw_with x c saw)
call_counted x (Frame j failed h payload) k i hold restore b saw o =
    rw ((call_sizes x (Frame j failed h payload) k).count, frame_standing i x.rows j failed h payload x.store) o
call_counted x (Fetch out report) k i hold restore b saw o = rw (call_sizes x (Fetch out report) k).count (go (gives x out report) refl)
  where
    go : (g : Bool) → gives x out report ≡ g
        → Counted (group_at x.rows).count i hold restore (standing_in (fetch_of x.rows x.store out report).rows i) (cond g (report_ports x.rows x.store ∷ saw) saw)
    go true e = fetch_counted x.rows k x.store i hold restore b saw o out report (given x out report e)
    go false e = rw (none_standing i x.rows x.store out report e) o

run_counted : (x : Receiver) (calls : List ReceiverCall) → Kept x.rows → (i hold restore : ℕ) → i < (group_at x.rows).count → (saw : List (List Port)) → CountedOf i hold restore x saw
    → CountedOf i hold restore (receiver_run x calls) (saw_of x calls saw)
run_counted x [] k i hold restore b saw o = o
run_counted x (c ∷ calls) k i hold restore b saw o =
    run_counted (receiver_after x c) calls (call_kept x c k) i hold restore (rw (call_sizes x c k).count b) (saw_with x c saw) (call_counted x c k i hold restore b saw o)

-- a count that a start takes is the port's time
time_is : (counts : List ℕ) (i : ℕ) → times_within counts ≡ true → time_of counts i ≡ get_or counts i 0
unfolding times_within
time_is counts i e =
    ⊎_elim
    (λ (o : timer_most ≤ get_or counts i 0). rw (le-ltb (get_or counts i 0) timer_most o) (let l = at_most in omega arith))
    (λ (o : get_or counts i 0 < timer_most). rw (lt-ltb (get_or counts i 0) timer_most o) refl)
    (le_or_lt timer_most (get_or counts i 0))
  where
    at_most : get_or counts i 0 ≤ timer_most
    at_most =
        ⊎_elim
        (λ (o : length counts ≤ i). rw (get_or-eq_default counts 0 {n = i} o) (omega arith))
        (λ (o : i < length counts). leb-true (get_or counts i 0) timer_most (every_at (length counts) (λ k. leb (get_or counts k 0) timer_most) e i o))
        (le_or_lt (length counts) i)

within : (kind count P W store : ℕ) (hold restore : List ℕ) (rows : ℕ) → start_as_answer kind count P W store hold restore rows ≡ 0 → (times_within hold ≡ true) × (times_within restore ≡ true)
unfolding start_as_answer start_right
within kind count P W store hold restore rows e = go (times_within hold) (times_within restore) (start_sized kind count P W) e
  where
    go : (a b c : Bool) → cond (a && b && c) (sized_answer count P W store hold restore rows) 4 ≡ 0 → (a ≡ true) × (b ≡ true)
    go true true c z = (refl, refl)
    go true false c z = absurd (omega arith)
    go false b c z = absurd (omega arith)

module _ (kind count P W : ℕ) (hold restore : List ℕ) (rows : List (List ℕ)) (store : List ℕ) (e : start_as_answer kind count P W (length store) hold restore (length rows) ≡ 0) (calls : List ReceiverCall) where
  abbrev first : Receiver
  first = started_with kind count P W hold restore rows store

  abbrev x : Receiver
  x = receiver_run first calls

  group : group_at (start_as_rows kind count P W (length store) hold restore rows) ≡ group_with kind count P W
  group = started_with_lem kind count P W (length store) hold restore rows e

  first_kept : Kept first.rows
  first_kept = started_kept kind count P W (length store) hold restore rows e

  kept : Kept x.rows
  kept = run_kept first calls first_kept

  counts : (group_at x.rows).count ≡ count
  counts = (run_sizes first calls first_kept).count ∙ ap (λ (g : Group). g.count) group

  fresh : (i : ℕ) → i < count → standing_in first.rows i ≡ waiting_in (fresh_member kind (time_of hold i) (time_of restore i))
  fresh i b =
      let o = accepted kind count P W (length store) hold restore rows e in
      ap waiting_in (sym (port_member first.rows i))
      ∙ rw (o.fresh, started_port kind count hold restore rows (group_with kind count P W) i b (let r = o.rows in omega arith)) refl

  begins : (i : ℕ) → i < count → CountedIn i (get_or hold i 0) (get_or restore i 0) first.rows []
  begins i b =
      let w = within kind count P W (length store) hold restore (length rows) e in
      rw (fresh i b)
      (record {
        hold_is = time_is hold i w.0;
        restore_is = time_is restore i w.1;
        says = record { ok = λ (z : idle_state ≡ ok_state). absurd (omega arith); fail = λ (z : idle_state ≡ fail_state). absurd (omega arith) };
      })

  stands : (i : ℕ) → i < count → CountedIn i (get_or hold i 0) (get_or restore i 0) x.rows (saw_of first calls [])
  stands i b = run_counted first calls first_kept i (get_or hold i 0) (get_or restore i 0) (rw group b) [] (begins i b)

  abbrev seen_now : List Port
  seen_now = report_ports x.rows x.store

  module _ (out report : List ℕ) (g : Given x.rows x.store out report) (i : ℕ) (b : i < count) where
    here : i < (group_at x.rows).count
    here = rw counts b

    abbrev now : ℕ
    now = (group_at x.rows).count

    abbrev saw : List (List Port)
    saw = saw_of first calls []

    abbrev rows_left : List (List ℕ)
    rows_left = (fetch_of x.rows x.store out report).rows

    is_left : standing_in (fetch_of x.rows x.store out report).rows i
        ≡ left_with (standing_at seen_now (group_at x.rows).count i) (member_at x.rows i).hold_off (member_at x.rows i).restore
    is_left = left_is x.rows kept x.store out report g i here

    state_is : (member_at (fetch_of x.rows x.store out report).rows i).state ≡ (standing_at seen_now (group_at x.rows).count i).state
    state_is = ap (λ (l : List ℕ). get_or l 0 0) is_left

    number_is : (member_at (fetch_of x.rows x.store out report).rows i).state_number ≡ (standing_at seen_now (group_at x.rows).count i).number
    number_is = ap (λ (l : List ℕ). get_or l 1 0) is_left

    off_is : (port_at seen_now i).hold_off ≡ get_or hold i 0
    off_is = off x.rows kept x.store i (get_or hold i 0) (get_or restore i 0) here saw (stands i b)

    wait_is : (port_at seen_now i).restore ≡ get_or restore i 0
    wait_is = wait x.rows kept x.store i (get_or hold i 0) (get_or restore i 0) here saw (stands i b)

    said_is : Says (group_at x.rows).count i (get_or hold i 0) (get_or restore i 0) (port_at seen_now i).state (port_at seen_now i).elapsed saw
    said_is = said x.rows kept x.store i (get_or hold i 0) (get_or restore i 0) here saw (stands i b)

    was : (port_at seen_now i).state ≡ (member_at x.rows i).state
    was = port_state x.rows kept x.store i here

    pub fail_exactly : (member_at x.rows i).state ≡ ok_state
        → ((member_at rows_left i).state ≡ fail_state → InARow (Unclaimed count i) (suc (get_or hold i 0)) (seen_now ∷ saw))
        × (InARow (Unclaimed count i) (suc (get_or hold i 0)) (seen_now ∷ saw) → (member_at rows_left i).state ≡ fail_state)
    fail_exactly ok =
        let r =
        fail_at seen_now now i (get_or hold i 0) (get_or restore i 0) saw (few x.rows kept x.store) (apart x.rows kept x.store) here off_is wait_is said_is
        (low x.rows kept x.store) (was ∙ ok) in (
          λ f. subst (λ (m : ℕ). InARow (Unclaimed m i) (suc (get_or hold i 0)) (seen_now ∷ saw)) counts (r.0 (sym state_is ∙ f)),
          λ w. state_is ∙ r.1 (subst (λ (m : ℕ). InARow (Unclaimed m i) (suc (get_or hold i 0)) (seen_now ∷ saw)) (sym counts) w),
        )

    pub ok_exactly : (member_at x.rows i).state ≡ fail_state
        → ((member_at rows_left i).state ≡ ok_state → InARow (Claimant count i) (suc (get_or restore i 0)) (seen_now ∷ saw))
        × (InARow (Claimant count i) (suc (get_or restore i 0)) (seen_now ∷ saw) → (member_at rows_left i).state ≡ ok_state)
    ok_exactly failed =
        let r =
        ok_at seen_now now i (get_or hold i 0) (get_or restore i 0) saw (few x.rows kept x.store) (apart x.rows kept x.store) here off_is wait_is said_is
        (was ∙ failed) in (
          λ f. subst (λ (m : ℕ). InARow (Claimant m i) (suc (get_or restore i 0)) (seen_now ∷ saw)) counts (r.0 (sym state_is ∙ f)),
          λ w. state_is ∙ r.1 (subst (λ (m : ℕ). InARow (Claimant m i) (suc (get_or restore i 0)) (seen_now ∷ saw)) (sym counts) w),
        )

    pub number_kept : (member_at x.rows i).state ≡ ok_state → Unclaimed count i seen_now → ((member_at rows_left i).state ≡ fail_state → ⊥)
        → ((member_at rows_left i).state ≡ ok_state) × ((member_at rows_left i).state_number ≡ (member_at x.rows i).state_number)
    number_kept ok u d =
        let r =
        number_at_lem seen_now now i (get_or hold i 0) (get_or restore i 0) saw (few x.rows kept x.store) (apart x.rows kept x.store) here off_is wait_is said_is
        (low x.rows kept x.store) (was ∙ ok) (subst (λ (m : ℕ). Unclaimed m i seen_now) (sym counts) u) (λ f. d (state_is ∙ f)) in
        (state_is ∙ r.0, number_is ∙ r.1 ∙ port_number x.rows kept x.store i here)

  -- 'Zero and zero is today's behaviour'
  pub today : Zeros hold → Zeros restore → (out report : List ℕ) → Given x.rows x.store out report → (i : ℕ) → i < count
      → ((member_at (fetch_of x.rows x.store out report).rows i).state ≡ get_or (states_of seen_now count) i idle_state)
      × ((member_at (fetch_of x.rows x.store out report).rows i).state_number ≡ (port_at seen_now i).number)
  today none-off none-wait out report g i b =
      let none : NoTimes seen_now (group_at x.rows).count =
      (λ j c. let d : j < count = rw counts at c in (off_is out report g j d ∙ none-off j, wait_is out report g j d ∙ none-wait j)) in
      let z = zero_today seen_now (group_at x.rows).count (few x.rows kept x.store) none i (rw counts b) in (
        state_is out report g i b ∙ z.0 ∙ ap (λ (m : ℕ). get_or (states_of seen_now m) i idle_state) counts,
        number_is out report g i b ∙ z.1,
      )
