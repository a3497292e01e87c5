-- Rounds of H4 with P 1 and W 16 of which `sure_add_over` speaks, made of a few numbers and the frames that come, and computed report by report.
use Rattle.std.specs.Prelude.{◌≡◌, refl, ◌≢◌, Bool, false, not, ◌&&◌, length, replicate, if◌then◌else◌, ◌==◌}
use Rattle.std.proofs.Math.Path.{sym, subst}
use Rattle.std.proofs.Common.{ap, ◌∙◌, ⊎_elim, inl, not-suc-le-zero}
use Rattle.std.proofs.Math.Bool.{true}
use mathlib.Core.List.{List, [], ◌∷◌}
use Prim.Native.Nat.{ℕ, zero, suc, ◌+◌, ◌-◌, ◌*◌, ◌%◌, ◌≤◌, ◌<◌}
use native.Mathlib.Omega.{arith}
use Rattle.std.proofs.Math.ListN.{get_or}
use borrow.Author.Tests.{eq-eqb, eqb-true, ne_eqb, not-true}
use Rattle.ground.specs.Finite.{below, below_at}
use Rattle.ground.specs.Truth.{and_left, and_right, and-true, clash, eq_or_ne}
use Rattle.packet.specs.declared.ruling.Ruling.{Ruling}
use Rattle.packet.specs.Kinds.{epochs, mst_fails}
use Rattle.packet.specs.Words.{ADD}
use Rattle.phases.specs.Sizes.{ports_in}
use Rattle.receiver.specs.Fetch.{due_in, lent_fits}
use Rattle.receiver.specs.Report.{reply_port}
use Rattle.receiver.specs.Shown.{reply_of}
use Rattle.receiver.specs.Starting.{start_as_answer}
use Rattle.reply.specs.declared.members.Port.{Port}
use Rattle.reply.specs.Members.{ok_state, port_at}
use Rattle.reply.specs.Waiting.{standing_at}
use Rattle.rows.specs.Group.{group_at}
use Rattle.rows.specs.Member.{member_at}
use Rattle.rows.specs.Packets.{marks_at}
use Rattle.rows.specs.Rows.{rows_for}
use Rattle.sender.specs.Answers.Answer.{Done}
use Rattle.sender.specs.declared.table.Table.{Table}
use Rattle.sender.specs.Board.{board_of}
use Rattle.sender.specs.Calls.{Call}
use Rattle.sender.specs.Commands.{add_of}
use Rattle.sender.specs.Numbering.{number_in, slots_in, state_in}
use Rattle.sender.specs.Ranks.{row_at}
use Rattle.sender.specs.Table.{is_add}
use Rattle.step.specs.OwnCount.{own_ruling}
use Rattle.store.specs.Frames.{packet_in}
use Rattle.store.specs.Marks.{first_mark}
use Rattle.invariant.specs.Calls.{Receiver, ReceiverCall, receiver_after, receiver_run, started_with}
use Rattle.invariant.specs.Calls.ReceiverCall.{Fetch}
use Rattle.invariant.specs.Kept.Group.{Kept}
use Rattle.invariant.specs.Proofs.Calls.{call_kept, run_kept}
use Rattle.invariant.specs.Reports.{passed_rows, reports_of}
use Rattle.invariant.specs.Theorems.{kept}
use Rattle.sure_add.specs.AsAsked.{AsAsked}
use Rattle.sure_add.specs.Own.{NumberFree}
use Rattle.sure_add.specs.Proofs.Over.{kept_few, kept_rows}
use Rattle.sure_add.specs.Proofs.Reported.{left_state, left_under, seen_number}
use Rattle.sure_add.specs.Proofs.Reported.{sees as port-seen}
use Rattle.sure_add.specs.Rounds.{Asked, Path, Rounds, before, heard, ports, reported, seen, table_of}
use Rattle.sure_add.specs.Theorems.{settled_at_once}

pub record Trial : Type 0 where
  -- the sender: its slots, the calls before the add, the slot that is added and its number
  pub slots : ℕ
  pub calls : List Call
  pub slot : ℕ
  pub number : ℕ
  -- the delays
  pub out : ℕ
  pub back : ℕ
  -- what is handed: at which starts, the number of the first, and MST of each
  pub handed : ℕ → Bool
  pub first : ℕ
  pub msts : List ℕ
  -- the receiver: its ports, their waits-to-restore, which are alike, and the slot's port
  pub count : ℕ
  pub restore : List ℕ
  pub wait : ℕ
  pub port : ℕ
  -- the calls up to the report of the first ADD, and those behind each report
  pub earlier : List ReceiverCall
  pub later : ℕ → List ReceiverCall
  -- how many reports there are behind the first
  pub more : ℕ

abbrev pub output : List ℕ
output = replicate 32 0

abbrev pub lent : List ℕ
lent = replicate 8 0

abbrev pub fetch_on : Receiver → Receiver
fetch_on x = receiver_after x (Fetch output lent)

abbrev pub all_of : List Bool → Bool
all_of [] = true
all_of (b ∷ bs) = b && all_of bs

-- a test of a list that holds
test_of : (l : List Bool) → all_of l ≡ true → (i : ℕ) → i < length l → get_or l i true ≡ true
test_of [] h i b = absurd (not-suc-le-zero b)
test_of (c ∷ l) h zero b = and_left c (all_of l) h
test_of (c ∷ l) h (suc i) b = test_of l (and_right c (all_of l) h) i (omega arith)

-- calls one after the other, each state worked out once
unfoldable pub run_by : Receiver → List ReceiverCall → Receiver
run_by x [] = x
run_by x (c ∷ calls) = let y = receiver_after x c in run_by y calls

run_by_lem : (x : Receiver) (calls : List ReceiverCall) → run_by x calls ≡ receiver_run x calls
unfolding run_by
run_by_lem x [] = refl
run_by_lem x (c ∷ calls) = run_by_lem (receiver_after x c) calls

abbrev hears : Receiver → ℕ → Ruling
hears x p = own_ruling (group_at x.rows).kind (group_at x.rows).oldest (packet_in (group_at x.rows) p x.store)

abbrev sees : Receiver → ℕ → Port
sees x p = let s = passed_rows x.rows x.store in reply_port (group_at s) s p

module _ (c : Trial) where
  -- started over rows and a store that hold anything but zeros
  abbrev pub rows_lent : List (List ℕ)
  rows_lent = replicate (rows_for c.count) (replicate 16 0xFF)

  abbrev pub store_lent : List ℕ
  store_lent = replicate (c.count * 16 * (1 + 1)) 0xFF

  abbrev pub fresh : Receiver
  fresh = started_with 0 c.count 1 16 [] c.restore rows_lent store_lent

  -- where the n-th report is due
  unfoldable pub far : ℕ → Receiver
  far zero = receiver_run fresh c.earlier
  far (suc n) = receiver_run (fetch_on (far n)) (c.later n)

  abbrev pub rounds : Rounds
  rounds =
      record {
        kind = 0;
        slots = c.slots;
        calls = c.calls;
        handed = c.handed;
        first = c.first;
        mst = λ k. get_or c.msts k 255;
        ack = λ k. 0;
        far = λ k. far (k - (c.out + 2));
        output = λ k. output;
        lent = λ k. lent;
        between = λ k. c.later (k - (c.out + 2));
      }

  -- no other port is OK under the slot's number
  abbrev sole : List (List ℕ) → ℕ → Bool
  sole s p = if p == c.port then true else not (((member_at s p).state == ok_state) && ((member_at s p).state_number == c.number))

  -- of the n-th report, from what stands before and after it
  abbrev pub tests : Receiver → Receiver → ℕ → List Bool
  tests x y n =
      lent_fits x.rows x.store output lent
      ∷ due_in (group_at x.rows) (ports_in (group_at x.rows)) x.rows
      ∷ (ports_in (group_at x.rows) == c.count)
      ∷ ((group_at x.rows).kind == 0)
      ∷ below c.count (λ p. first_mark (marks_at x.rows p))
      ∷ below c.count (λ p. (hears x p).good)
      ∷ below c.count (λ p. (sees x p).readable)
      ∷ below c.count (λ p. (sees x p).hold_off == 0)
      ∷ below c.count (λ p. (sees x p).restore == c.wait)
      ∷ ((hears x c.port).word == ADD)
      ∷ ((hears x c.port).number == c.number)
      ∷ (get_or c.msts (c.out + 2 + n + c.back) 255 == get_or (reply_of y.rows ((c.first + (c.out + 2 + n + c.back)) % 256)) 0 0)
      ∷ below c.count (sole x.rows)
      ∷ below c.count (sole y.rows)
      ∷ []

  -- all tests of m reports behind the n-th, from what stands after that one
  unfoldable pub checks : (m n : ℕ) → Receiver → Bool
  checks zero n y = true
  checks (suc m) n y =
      let x = run_by y (c.later n) in
      let z = fetch_on x in
      all_of (tests x z (suc n)) && checks m (suc n) z

  unfoldable pub all_checks : Bool
  all_checks = let x = run_by fresh c.earlier in let y = fetch_on x in all_of (tests x y 0) && checks c.more 0 y

  -- of the table at start k while the slot is ADD
  abbrev table : ℕ → Table
  table k = table_of rounds c.slot k

  abbrev pub table_tests : ℕ → List Bool
  table_tests k = ((row_at (board_of (table k)).rows c.slot).word.0 == ADD) ∷ ((row_at (board_of (table k)).rows c.slot).number == c.number) ∷ []

  -- all that has to be computed
  pub record Right : Type 0 where
    pub below_count : c.port < c.count
    pub started : start_as_answer 0 c.count 1 16 (length store_lent) [] c.restore (length rows_lent) ≡ 0
    pub none_between : (n : ℕ) (x : Receiver) → reports_of x (c.later n) ≡ []
    pub handed : (k : ℕ) → c.out + 2 + c.back ≤ k → c.handed k ≡ true
    pub reports : all_checks ≡ true
    pub tables : below (c.more + 2) (λ k. all_of (table_tests k)) ≡ true
    pub accepted : (add_of (before rounds) c.slot).answer ≡ Done
    pub own : number_in (table 0) c.slot ≡ c.number
    pub size : slots_in (before rounds) ≡ c.slots
    pub others : below c.slots (λ s. if s == c.slot then true else not (is_add (state_in (before rounds) s))) ≡ true
    pub under_way_lem : below (c.out + 2 + c.back) (λ k. mst_fails (get_or c.msts k 255) c.number) ≡ true

  module _ (r : Right) where
    abbrev f : ℕ
    f = c.out + 2

    abbrev until : ℕ
    until = c.out + 2 + c.more

    next_is : (n : ℕ) → run_by (fetch_on (far n)) (c.later n) ≡ far (suc n)
    unfolding far
    next_is n = run_by_lem (fetch_on (far n)) (c.later n)

    first_is : run_by fresh c.earlier ≡ far 0
    unfolding far
    first_is = run_by_lem fresh c.earlier

    -- the tests of a report and what is checked behind it
    abbrev On : ℕ → ℕ → Receiver → Bool
    On m n x = all_of (tests x (fetch_on x) n) && checks m n (fetch_on x)

    behind : (m n : ℕ) → On (suc m) n (far n) ≡ true → On m (suc n) (far (suc n)) ≡ true
    unfolding checks
    behind m n h = subst (λ (x : Receiver). On m (suc n) x ≡ true) (next_is n) (and_right (all_of (tests (far n) (fetch_on (far n)) n)) (checks (suc m) n (fetch_on (far n))) h)

    good_from : (m n : ℕ) → On m n (far n) ≡ true → (i : ℕ) → n ≤ i → i ≤ n + m → all_of (tests (far i) (fetch_on (far i)) i) ≡ true
    good_from zero n h i lo hi = let e : i ≡ n = omega arith in rw e (and_left (all_of (tests (far n) (fetch_on (far n)) n)) (checks zero n (fetch_on (far n))) h)
    good_from (suc m) n h i lo hi =
        ⊎_elim (λ (e : i ≡ n). rw e (and_left (all_of (tests (far n) (fetch_on (far n)) n)) (checks (suc m) n (fetch_on (far n))) h))
        (λ (d : i ≢ n). good_from m (suc n) (behind m n h) i (omega arith) (omega arith))
        (eq_or_ne i n)

    good_at_lem : (i : ℕ) → i ≤ c.more → all_of (tests (far i) (fetch_on (far i)) i) ≡ true
    unfolding all_checks
    good_at_lem i h = good_from c.more 0 (subst (λ (x : Receiver). On c.more 0 x ≡ true) first_is r.reports) i (omega arith) (omega arith)

    test_at : (k : ℕ) → f ≤ k → k ≤ until → (i : ℕ) → i < 14 → get_or (tests (far (k - f)) (fetch_on (far (k - f))) (k - f)) i true ≡ true
    test_at k from to i h = test_of (tests (far (k - f)) (fetch_on (far (k - f))) (k - f)) (good_at_lem (k - f) (omega arith)) i h

    table_at : (k : ℕ) → k ≤ c.more + 1 → ((row_at (board_of (table k)).rows c.slot).word.0 ≡ ADD) × ((row_at (board_of (table k)).rows c.slot).number ≡ c.number)
    table_at k h =
        let t = below_at (c.more + 2) (λ k. all_of (table_tests k)) r.tables k (omega arith) in
        (eqb-true (row_at (board_of (table k)).rows c.slot).word.0 ADD (test_of (table_tests k) t 0 (omega arith)), eqb-true (row_at (board_of (table k)).rows c.slot).number c.number (test_of (table_tests k) t 1 (omega arith)))

    -- the rows are such as calls make
    kept_far : (n : ℕ) → Kept (far n).rows
    unfolding far
    kept_far zero = kept 0 c.count 1 16 [] c.restore rows_lent store_lent r.started c.earlier
    kept_far (suc n) = run_kept (fetch_on (far n)) (c.later n) (call_kept (far n) (Fetch output lent) (kept_far n))

    count_at_lem : (k : ℕ) → f ≤ k → k ≤ until → ports rounds k ≡ c.count
    count_at_lem k from to = eqb-true (ports rounds k) c.count (test_at k from to 2 (omega arith))

    pub path : Path rounds c.out c.back c.slot c.port (c.out + 2 + c.more)
    unfolding far epochs
    path =
        record {
          starts =
              record {
                kind = 0;
                count = c.count;
                payload = 1;
                window = 16;
                hold = [];
                restore = c.restore;
                rows = rows_lent;
                store = store_lent;
                done = r.started;
                calls = c.earlier;
                is = (let e : c.out + 2 - (c.out + 2) ≡ 0 = omega arith in rw e refl);
              };
          kind_is = eqb-true (group_at (far (c.out + 2 - f)).rows).kind 0 (test_at (c.out + 2) (omega arith) (omega arith) 3 (omega arith));
          given = λ k from to. record { fitting = test_at k from to 0 (omega arith); due = test_at k from to 1 (omega arith) };
          next = λ k from to. (let e : suc k - f ≡ suc (k - f) = omega arith in rw e refl);
          none_between = λ k from to. r.none_between (k - f) (reported rounds k);
          handed_is = λ k from to. r.handed (k + c.back) (omega arith);
          mst_is = λ k from to.
              (let e : c.out + 2 + (k - f) + c.back ≡ k + c.back = omega arith in
              subst (λ (n : ℕ). get_or c.msts n 255 ≡ get_or (reply_of (fetch_on (far (k - f))).rows ((c.first + n) % 256)) 0 0) e (eqb-true _ _ (test_at k from (omega arith) 11 (omega arith))));
          whole = λ k one to. port_test (λ p. first_mark (marks_at (far (k + c.out + 1 - f)).rows p)) (test_at (k + c.out + 1) (omega arith) (omega arith) 4 (omega arith));
          good = λ k one to. port_test (λ p. (hears (far (k + c.out + 1 - f)) p).good) (test_at (k + c.out + 1) (omega arith) (omega arith) 5 (omega arith));
          word = λ k one to.
              eqb-true (heard rounds (k + c.out + 1) c.port).word ADD (test_at (k + c.out + 1) (omega arith) (omega arith) 9 (omega arith)) ∙ sym (table_at k (omega arith)).0;
          number = λ k one to.
              eqb-true (heard rounds (k + c.out + 1) c.port).number c.number (test_at (k + c.out + 1) (omega arith) (omega arith) 10 (omega arith)) ∙ sym (table_at k (omega arith)).1;
        }
      where
        port_test : (g : ℕ → Bool) → below c.count g ≡ true → g c.port ≡ true
        port_test g h = below_at c.count g h c.port r.below_count

    -- what a report sees of a port, by the laws of reports
    module _ (k : ℕ) (from : c.out + 2 ≤ k) (to : k ≤ c.out + 2 + c.more) (p : ℕ) (b : p < c.count) where
      few : ports rounds k ≤ 64
      few = kept_few (far (k - f)).rows (kept_far (k - f))

      in_ports : p < ports rounds k
      in_ports = let e = count_at_lem k from to in omega arith

      sees_is : port_at (seen rounds k) p ≡ sees (far (k - f)) p
      sees_is = port-seen (far (k - f)).rows (far (k - f)).store output lent (path.given k from to) few (kept_rows (far (k - f)).rows (kept_far (k - f))) p in_ports

      is_readable : (port_at (seen rounds k) p).readable ≡ true
      is_readable = ap (λ (q : Port). q.readable) sees_is ∙ below_at c.count (λ p. (sees (far (k - f)) p).readable) (test_at k from to 6 (omega arith)) p b

      holds_off : (port_at (seen rounds k) p).hold_off ≡ 0
      holds_off = ap (λ (q : Port). q.hold_off) sees_is ∙ eqb-true (sees (far (k - f)) p).hold_off 0 (below_at c.count (λ p. (sees (far (k - f)) p).hold_off == 0) (test_at k from to 7 (omega arith)) p b)

      restores : (port_at (seen rounds k) p).restore ≡ c.wait
      restores = ap (λ (q : Port). q.restore) sees_is ∙ eqb-true (sees (far (k - f)) p).restore c.wait (below_at c.count (λ p. (sees (far (k - f)) p).restore == c.wait) (test_at k from to 8 (omega arith)) p b)

      left_ok : (member_at (fetch_on (far (k - f))).rows p).state ≡ (standing_at (seen rounds k) (ports rounds k) p).state
      left_ok = left_state (far (k - f)).rows (far (k - f)).store output lent (path.given k from to) few (kept_rows (far (k - f)).rows (kept_far (k - f))) p in_ports

      left_number : (member_at (fetch_on (far (k - f))).rows p).state_number ≡ (standing_at (seen rounds k) (ports rounds k) p).number
      left_number = left_under (far (k - f)).rows (far (k - f)).store output lent (path.given k from to) few (kept_rows (far (k - f)).rows (kept_far (k - f))) p in_ports

    not_sole : (s : List (List ℕ)) (p : ℕ) → sole s p ≡ true → p ≢ c.port → (member_at s p).state ≡ ok_state → (member_at s p).state_number ≢ c.number
    not_sole s p h d ok same =
        let n : not (((member_at s p).state == ok_state) && ((member_at s p).state_number == c.number)) ≡ true = subst (λ (b : Bool). (if b then true else not (((member_at s p).state == ok_state) && ((member_at s p).state_number == c.number))) ≡ true) (ne_eqb p c.port d) h in
        clash (((member_at s p).state == ok_state) && ((member_at s p).state_number == c.number))
        (and-true ((member_at s p).state == ok_state) ((member_at s p).state_number == c.number) (eq-eqb (member_at s p).state ok_state ok) (eq-eqb (member_at s p).state_number c.number same))
        (not-true _ n)

    alone : (k other : ℕ) → c.out + 2 ≤ k → k ≤ c.out + 2 + c.more → other < ports rounds k → other ≢ c.port → (standing_at (seen rounds k) (ports rounds k) other).state ≡ ok_state
        → (standing_at (seen rounds k) (ports rounds k) other).number ≢ c.number
    alone k p from to l d ok same =
        let b : p < c.count = (let e = count_at_lem k from to in omega arith) in
        not_sole (fetch_on (far (k - f))).rows p (below_at c.count (sole (fetch_on (far (k - f))).rows) (test_at k from to 13 (omega arith)) p b) d (left_ok k from to p b ∙ ok) (left_number k from to p b ∙ same)

    settled : (s : ℕ) → s < slots_in (before rounds) → s ≢ c.slot → is_add (state_in (before rounds) s) ≡ false
    settled s l d =
        not-true _
        (subst (λ (b : Bool). (if b then true else not (is_add (state_in (before rounds) s))) ≡ true) (ne_eqb s c.slot d)
        (below_at c.slots (λ s. if s == c.slot then true else not (is_add (state_in (before rounds) s))) r.others s (let e = r.size in omega arith)))

    own_number_lem : (k : ℕ) → c.out + 2 ≤ k → k ≤ c.out + 2 + c.more → (port_at (seen rounds k) c.port).number ≡ c.number
    own_number_lem k from to =
        seen_number (far (k - f)).rows (far (k - f)).store output lent (path.given k from to) (few k from to c.port r.below_count) (kept_rows (far (k - f)).rows (kept_far (k - f))) c.port (in_ports k from to c.port r.below_count)
        (below_at c.count (λ p. first_mark (marks_at (far (k - f)).rows p)) (test_at k from to 4 (omega arith)) c.port r.below_count)
        (below_at c.count (λ p. (hears (far (k - f)) p).good) (test_at k from to 5 (omega arith)) c.port r.below_count)
        ∙ eqb-true (hears (far (k - f)) c.port).number c.number (test_at k from to 10 (omega arith))

    -- So they are rounds of which the theorems speak.

    pub asked : Asked rounds c.out c.slot c.port c.wait (c.out + 2 + c.more)
    asked =
        record {
          accepted = r.accepted;
          below = let e = count_at_lem (c.out + 2) (omega arith) (omega arith) in let h = r.below_count in omega arith;
          readable = λ k from to. is_readable k from to c.port r.below_count;
          restores = λ k from to. restores k from to c.port r.below_count;
          alone = λ k p from to some l d ok same. alone k p from to l d ok (same ∙ own_number_lem k from to);
          settled = λ k p l b d x. clash (is_add (state_in (table k) p)) x (settled_at_once rounds c.slot r.accepted settled k p b d);
        }

    pub number_free : NumberFree rounds c.out c.back c.slot c.port (c.out + 2 + c.more)
    number_free =
        record {
          alone = λ k p from to l d ok same. alone k p from to l d ok (same ∙ r.own);
          none_under_way = λ k l given spoken. rw r.own (below_at (c.out + 2 + c.back) (λ k. mst_fails (get_or c.msts k 255) c.number) r.under_way_lem k (omega arith));
        }

    pub as_asked : c.wait ≡ 0 → (before rounds).wait ≡ false → AsAsked rounds c.out c.slot c.port (c.out + 2 + c.more)
    as_asked none shut =
        record {
          below = asked.below;
          readable = asked.readable;
          not_held = λ p l d ok same.
              not_sole (far (c.out + 2 - f)).rows p (below_at c.count (sole (far (c.out + 2 - f)).rows) (test_at (c.out + 2) (omega arith) (omega arith) 12 (omega arith)) p (in_count p l)) d ok (same ∙ r.own);
          no_hold = λ k p from to l. holds_off k from to p (in_count p l);
          no_restore = λ k p from to l. restores k from to p (in_count p l) ∙ none;
          no_wait = shut;
          accepted = r.accepted;
          settled = settled;
          others = λ p l d.
              inl
              (record {
                readable = λ k from to. is_readable k from to p (in_count p l);
                whole = λ k from to. below_at c.count (λ p. first_mark (marks_at (far (k - f)).rows p)) (test_at k from to 4 (omega arith)) p (in_count p l);
                good = λ k from to. below_at c.count (λ p. (hears (far (k - f)) p).good) (test_at k from to 5 (omega arith)) p (in_count p l);
              });
        }
      where
        in_count : (p : ℕ) → p < ports rounds (c.out + 2) → p < c.count
        in_count p l = let e = count_at_lem (c.out + 2) (omega arith) (omega arith) in omega arith
