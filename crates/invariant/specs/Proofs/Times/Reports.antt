-- A report goes by steps, packets and marks; RS-Ack by words and numbers. Times change member states alone.
use Rattle.std.specs.Prelude.{◌≡◌, Bool, ◌||◌, cond, false, true, List, get_or, replicate}
use Rattle.std.proofs.Math.Path.{refl, ap}
use Rattle.std.proofs.Common.{sym, ◌∙◌, arith}
use Prim.Native.Nat.{ℕ, zero, suc, ◌<◌}
use Rattle.std.proofs.lemmas.List.{length-replicate}
use Rattle.ground.specs.Counting.Each.{each, get_or_each}
use Rattle.ground.specs.Counting.Laws.Tests.{some_ext}
use Rattle.ground.specs.Truth.{smaller_le}
use Rattle.invariant.specs.Proofs.Times.Rows.{SameButTimes, cond_same, group_same, marks_same, member_same, packets_same, put_group_lem, put_member_lem, step_same, untimed}
use Rattle.invariant.specs.Proofs.Times.Settling.{brought_same, passed_same}
use Rattle.judge.specs.declared.seen.Seen.{Seen}
use Rattle.judge.specs.Seen.{size_of}
use Rattle.phases.specs.Passing.{group_to, passed_of}
use Rattle.phases.specs.Sizes.{ports_in}
use Rattle.receiver.specs.Fetch.{FetchOutcome, due_in, fetch_of, lent_fits, out_if_due, record_of, report_if_due, rows_if_due}
use Rattle.receiver.specs.Report.{no_port, no_seen, reply_port, reply_ports, reported_of, seen_all, seen_of, state_put, states_put, states_worked_out, with_state}
use Rattle.reply.specs.declared.members.Port.{Port}
use Rattle.reply.specs.declared.waiting.Standing.{Standing}
use Rattle.reply.specs.Members.{port_at}
use Rattle.reply.specs.Telling.{ack_of, has_changed, has_left, turns_over}
use Rattle.reply.specs.Waiting.{no_standing, standings_of}
use Rattle.rows.specs.declared.group.Group.{Group}
use Rattle.rows.specs.declared.member.Member.{Member}
use Rattle.rows.specs.Group.{group_at}
use Rattle.rows.specs.Member.{member_at}

-- states are put beside what stays
state_same : (m q : Member) → untimed m ≡ untimed q → (left other : Standing) → untimed (with_state m left) ≡ untimed (with_state q other)
unfolding with_state
state_same m q e left other = ap (λ (x : Member). untimed (with_state x left)) e

states_put_lem : (left other : List Standing) (n : ℕ) {s t : List (List ℕ)} → SameButTimes s t → SameButTimes (states_put left n s) (states_put other n t)
unfolding states_put state_put
states_put_lem left other zero h = h
states_put_lem left other (suc n) {s} {t} h =
    let rest : SameButTimes (states_put left n s) (states_put other n t) = states_put_lem left other n h in
    put_member_lem rest n (with_state (member_at (states_put left n s) n) (get_or left n no_standing)) (with_state (member_at (states_put other n t) n) (get_or other n no_standing))
    (state_same (member_at (states_put left n s) n) (member_at (states_put other n t) n) (member_same rest n) (get_or left n no_standing) (get_or other n no_standing))

-- what RS-Ack looks at
abbrev moves : Port → Bool
moves p = has_changed p || has_left p

-- a port in the list that a report works with
port_listed : (n : ℕ) (f : ℕ → Port) (i : ℕ) → i < size_of n → port_at (each (size_of n) f (replicate 64 no_port)) i ≡ f i
port_listed n f i b =
    let few = smaller_le n 64 in
    get_or_each (size_of n) f (replicate 64 no_port) i no_port b (rw (length-replicate {A = Port} 64 no_port) (omega arith))

module _ (g : Group) (n : ℕ) {s t : List (List ℕ)} (h : SameButTimes s t) where
  moves_same : (i : ℕ) → moves (reply_port g s i) ≡ moves (reply_port g t i)
  unfolding reply_port
  moves_same i =
      let e = member_same h i in
      rw (
        ap (λ (m : Member). m.word) e,
        ap (λ (m : Member). m.number) e,
        ap (λ (m : Member). m.told_word) e,
        ap (λ (m : Member). m.told_number) e,
      )
      refl

  turns_same : turns_over (reply_ports g s n) (size_of n) ≡ turns_over (reply_ports g t n) (size_of n)
  unfolding turns_over reply_ports
  turns_same =
      some_ext (size_of n) (λ i. moves (port_at (reply_ports g s n) i)) (λ i. moves (port_at (reply_ports g t n) i))
      (λ i b. ap moves (port_listed n (reply_port g s) i b) ∙ moves_same i ∙ ap moves (sym (port_listed n (reply_port g t) i b)))

  ack_same : (bit : ℕ) → ack_of (reply_ports g s n) (size_of n) bit ≡ ack_of (reply_ports g t n) (size_of n) bit
  unfolding ack_of
  ack_same bit = rw turns_same refl

  told_same : SameButTimes (states_worked_out g n s) (states_worked_out g n t)
  unfolding states_worked_out
  told_same =
      rw (ack_same g.rs_ack)
      (put_group_lem (states_put_lem (standings_of (reply_ports g s n) (size_of n)) (standings_of (reply_ports g t n) (size_of n)) n h)
      (group_to g g.begun g.gathered g.oldest g.origin (ack_of (reply_ports g t n) (size_of n) g.rs_ack)))

module _ (g : Group) (n : ℕ) {s t : List (List ℕ)} (h : SameButTimes s t) where
  due_same : due_in g n s ≡ due_in g n t
  unfolding due_in
  due_same = rw (brought_same g h n) refl

  seen_same : (i : ℕ) → seen_of g s i ≡ seen_of g t i
  unfolding seen_of
  seen_same i = rw (step_same h i, packets_same h i, marks_same h i) refl

  all_seen : seen_all g s n ≡ seen_all g t n
  unfolding seen_all
  all_seen = ap (λ (f : ℕ → Seen). each (size_of n) f (replicate 64 no_seen)) (λ j i. seen_same i j)

  reported_same : (store : List ℕ) → SameButTimes (reported_of g store n s) (reported_of g store n t)
  unfolding reported_of
  reported_same store =
      let passed : SameButTimes (passed_of g store n s) (passed_of g store n t) = passed_same g n h store in
      rw (group_same passed) (told_same (group_at (passed_of g store n t)) n passed)

  rows_same : (store : List ℕ) → SameButTimes (rows_if_due g n s store) (rows_if_due g n t store)
  unfolding rows_if_due
  rows_same store = rw due_same (cond_same (due_in g n t) (reported_same store) h)

  report_same : report_if_due g n s ≡ report_if_due g n t
  unfolding report_if_due
  report_same = rw (due_same, all_seen) refl

  out_same : (store out : List ℕ) → out_if_due g n s store out ≡ out_if_due g n t store out
  unfolding out_if_due
  out_same store out = rw (due_same, all_seen) refl

-- the same answer, output and record
pub record SameFetch (o p : FetchOutcome) : Type 0 where
  pub answer : o.answer ≡ p.answer
  pub rows : SameButTimes o.rows p.rows
  pub out : o.out ≡ p.out
  pub report : o.report ≡ p.report

both : (b : Bool) {o p q r : FetchOutcome} → SameFetch o p → SameFetch q r → SameFetch (cond b o q) (cond b p r)
both true h k = h
both false h k = k

module _ {s t : List (List ℕ)} (h : SameButTimes s t) (store out report : List ℕ) where
  fits_same : lent_fits s store out report ≡ lent_fits t store out report
  unfolding lent_fits
  fits_same = rw (group_same h, h.long) refl

  pub fetch_same : SameFetch (fetch_of s store out report) (fetch_of t store out report)
  unfolding fetch_of
  fetch_same =
      let g = group_at t in
      let n = ports_in (group_at t) in
      rw (fits_same, group_same h)
      (both (lent_fits t store out report)
      (record { answer = refl; rows = rows_same g n h store; out = out_same g n h store out; report = ap record_of (report_same g n h) })
      (record { answer = refl; rows = h; out = refl; report = refl }))
