-- Between reports nothing changes a port's state, its number, its times or its counter: rows that are put for other parts do not touch the member's, and what
-- is put there as an epoch passes leaves them. On every state.
use Rattle.std.specs.Prelude.{◌≡◌, ◌≢◌, Bool, cond, ◌&&◌}
use Rattle.std.proofs.Math.Path.{refl, ap}
use Rattle.std.proofs.Common.{sym, ◌∙◌, arith}
use Rattle.std.proofs.Math.Logic.{⊎_elim}
use Rattle.std.proofs.Math.Bool.{true, false, not}
use mathlib.Core.List.{List, [], ◌∷◌}
use Prim.Native.Nat.{ℕ, zero, suc, ◌+◌, ◌*◌, ◌≤◌, ◌<◌}
use Rattle.std.proofs.Math.ListN.{get_or, length}
use Rattle.ground.specs.Truth.{eq_or_ne, le_or_lt}
use Rattle.invariant.specs.Proofs.Kept.Calls.{Due, due_says}
use Rattle.invariant.specs.Proofs.Reports.Groups.{fetch_none}
use Rattle.invariant.specs.Reports.{Given, passed_rows}
use Rattle.invariant.specs.Times.{standing_in, standings_after, waiting_in}
use Rattle.phases.specs.Beginning.{begins}
use Rattle.phases.specs.Due.{brought, silent}
use Rattle.phases.specs.Laws.Lengths.{length_passed}
use Rattle.phases.specs.Passing.{noted_by, passed_group, passed_of, passed_port, passed_ports}
use Rattle.phases.specs.Settling.{begin_by, begun_of, cleared_port, cleared_ports, gather_by, settled_of, stop_by, stopped_of}
use Rattle.phases.specs.Sizes.{ports_in}
use Rattle.receiver.specs.Fetch.{due_in, fetch_of, lent_fits, rows_if_due}
use Rattle.receiver.specs.Frame.{FrameOutcome, frame_of, port_rows, settled_by, store_by, taken_in}
use Rattle.receiver.specs.Laws.Answers.{lent}
use Rattle.receiver.specs.Laws.Outcomes.{frame_cases}
use Rattle.receiver.specs.Laws.Told.{told_of_port}
use Rattle.receiver.specs.Report.{reported_of, with_state}
use Rattle.reply.specs.Waiting.{no_standing}
use Rattle.rows.specs.declared.group.Group.{Group}
use Rattle.rows.specs.declared.member.Member.{Member}
use Rattle.rows.specs.declared.step.Step.{Step}
use Rattle.rows.specs.Group.{group_at, group_row, put_group}
use Rattle.rows.specs.Laws.Port.{port_member}
use Rattle.rows.specs.Laws.Records.{member_back}
use Rattle.rows.specs.Laws.Rows.{put_beyond, row_other, row_same}
use Rattle.rows.specs.Member.{member_at, member_of, member_row, put_member}
use Rattle.rows.specs.Packets.{put_marks, put_packets}
use Rattle.rows.specs.Port.{Port}
use Rattle.rows.specs.Rows.{put_row, row_in, rows_for}
use Rattle.rows.specs.Step.{put_step, step_row}
use Rattle.step.specs.Arrival.{flag_of}
use Rattle.step.specs.declared.arrival.Taken.{Taken}

module _ (j : ℕ) where
  abbrev Keeps : List (List ℕ) → List (List ℕ) → Type 0
  Keeps s t = standing_in t j ≡ standing_in s j

  cond_keeps : (s : List (List ℕ)) (b : Bool) (t u : List (List ℕ)) → Keeps s t → Keeps s u → Keeps s (cond b t u)
  cond_keeps s true t u p q = p
  cond_keeps s false t u p q = q

  module _ (s : List (List ℕ)) where
    put_group_lem : (g : Group) → Keeps s (put_group s g)
    unfolding member_at put_group
    put_group_lem g = ap (λ (row : List ℕ). waiting_in (member_of row)) (row_other s 0 (group_row g) (j * 5 + 2) (omega arith))

    module _ (i : ℕ) where
      put_step_lem : (q : Step) → Keeps s (put_step s i q)
      unfolding member_at put_step
      put_step_lem q = ap (λ (row : List ℕ). waiting_in (member_of row)) (row_other s (i * 5 + 1) (step_row q) (j * 5 + 2) (omega arith))

      put_marks_lem : (row : List ℕ) → Keeps s (put_marks s i row)
      unfolding member_at put_marks
      put_marks_lem row = ap (λ (r : List ℕ). waiting_in (member_of r)) (row_other s (i * 5 + 5) row (j * 5 + 2) (omega arith))

      put_packets_lem : (pair : List (List ℕ)) → Keeps s (put_packets s i pair)
      unfolding member_at put_packets
      put_packets_lem pair =
          ap (λ (row : List ℕ). waiting_in (member_of row))
          (row_other (put_row s (i * 5 + 3) (get_or pair 0 [])) (i * 5 + 4) (get_or pair 1 []) (j * 5 + 2) (omega arith)
          ∙ row_other s (i * 5 + 3) (get_or pair 0 []) (j * 5 + 2) (omega arith))

      put_here : (m : Member) → waiting_in m ≡ standing_in s i → standing_in (put_member s i m) i ≡ standing_in s i
      unfolding member_at put_member
      put_here m e =
          ⊎_elim
          (λ (b : length s ≤ i * 5 + 2). ap (λ (r : List (List ℕ)). waiting_in (member_of (row_in r (i * 5 + 2)))) (sym (put_beyond s (i * 5 + 2) (member_row m) b)))
          (λ (b : i * 5 + 2 < length s). ap (λ (row : List ℕ). waiting_in (member_of row)) (row_same s (i * 5 + 2) (member_row m) b) ∙ ap waiting_in (member_back m) ∙ e)
          (le_or_lt (length s) (i * 5 + 2))

      put_there : (m : Member) → j ≢ i → Keeps s (put_member s i m)
      unfolding member_at put_member
      put_there m d = ap (λ (row : List ℕ). waiting_in (member_of row)) (row_other s (i * 5 + 2) (member_row m) (j * 5 + 2) (omega arith))

      put_member_lem : (m : Member) → waiting_in m ≡ standing_in s i → Keeps s (put_member s i m)
      put_member_lem m e = ⊎_elim (λ (q : j ≡ i). rw q (put_here m e)) (λ (d : j ≢ i). put_there m d) (eq_or_ne j i)

  -- an epoch passes
  module _ (g : Group) (store : List ℕ) where
    passed_one : (i : ℕ) (s : List (List ℕ)) → Keeps s (passed_port g store i s)
    unfolding passed_port noted_by
    passed_one i s = put_marks_lem _ i _ ∙ put_step_lem _ i _ ∙ put_packets_lem _ i _ ∙ put_member_lem s i _ refl

    passed_ports_lem : (n : ℕ) (s : List (List ℕ)) → Keeps s (passed_ports g store n s)
    unfolding passed_ports
    passed_ports_lem zero s = refl
    passed_ports_lem (suc n) s = passed_one n (passed_ports g store n s) ∙ passed_ports_lem n s

    pub passed_keeps : (n : ℕ) (s : List (List ℕ)) → Keeps s (passed_of g store n s)
    unfolding passed_of
    passed_keeps n s = put_group_lem (passed_ports g store n s) (passed_group g) ∙ passed_ports_lem n s

  -- receiving begins or stops
  module _ (g : Group) where
    cleared_one : (beginning : Bool) (i : ℕ) (s : List (List ℕ)) → Keeps s (cleared_port g beginning i s)
    unfolding cleared_port
    cleared_one beginning i s = put_marks_lem _ i _ ∙ put_step_lem s i _

    cleared_ports_lem : (beginning : Bool) (n : ℕ) (s : List (List ℕ)) → Keeps s (cleared_ports g beginning n s)
    unfolding cleared_ports
    cleared_ports_lem beginning zero s = refl
    cleared_ports_lem beginning (suc n) s = cleared_one beginning n (cleared_ports g beginning n s) ∙ cleared_ports_lem beginning n s

    stop_keeps : (n : ℕ) (s : List (List ℕ)) → Keeps s (stop_by g n s)
    unfolding stop_by stopped_of
    stop_keeps n s = cond_keeps s (flag_of g.begun && silent g s n) (stopped_of g n s) s (put_group_lem (cleared_ports g false n s) _ ∙ cleared_ports_lem false n s) refl

    begin_keeps : (n : ℕ) (s : List (List ℕ)) → Keeps s (begin_by g n s)
    unfolding begin_by begun_of
    begin_keeps n s = cond_keeps s (not (flag_of g.begun) && begins g s n) (begun_of g n s) s (put_group_lem (cleared_ports g true n s) _ ∙ cleared_ports_lem true n s) refl

    gather_keeps : (store : List ℕ) (n : ℕ) (s : List (List ℕ)) → Keeps s (gather_by g store n s)
    unfolding gather_by
    gather_keeps store n s = cond_keeps s (flag_of g.begun && not (flag_of g.gathered) && brought g s n) (passed_of g store n s) s (passed_keeps g store n s) refl

  settled_keeps : (n : ℕ) (store : List ℕ) (s : List (List ℕ)) → Keeps s (settled_of n store s)
  unfolding settled_of
  settled_keeps n store s =
      let a : List (List ℕ) = stop_by (group_at s) n s in
      let b : List (List ℕ) = begin_by (group_at a) n a in
      gather_keeps (group_at b) store n b ∙ begin_keeps (group_at a) n a ∙ stop_keeps (group_at s) n s

  port_keeps : (kind : ℕ) (s : List (List ℕ)) (i : ℕ) (t : Taken) (h : ℕ) → Keeps s (port_rows kind s i t h)
  unfolding port_rows
  port_keeps kind s i t h = put_marks_lem _ i _ ∙ put_packets_lem _ i _ ∙ put_step_lem s i t.step

  pub frame_standing : (s : List (List ℕ)) (i : ℕ) (failed : Bool) (h : ℕ) (payload store : List ℕ) → Keeps s (frame_of s i failed h payload store).rows
  unfolding settled_by
  frame_standing s i failed h payload store =
      let t : Taken = taken_in s i failed h in
      let n : ℕ = ports_in (group_at s) in
      let after : List (List ℕ) = port_rows (group_at s).kind s i t h in
      let kept : Keeps s after = port_keeps (group_at s).kind s i t h in
      frame_cases s i failed h payload store (λ (o : FrameOutcome). Keeps s o.rows) (λ e. refl) (λ e f. refl)
      (λ e f. cond_keeps s t.settles _ after (settled_keeps n (store_by (group_at s) i t h payload store) after ∙ kept) kept)

  pub none_standing : (s : List (List ℕ)) (store out report : List ℕ) → (lent_fits s store out report && due_in (group_at s) (ports_in (group_at s)) s) ≡ false
      → Keeps s (fetch_of s store out report).rows
  none_standing s store out report e = ap (λ (r : List (List ℕ)). standing_in r j) (fetch_none s store out report e)

  -- a report: state, number and counter are those that it works out, and the times stay
  pub report_standing : (s : List (List ℕ)) (store out report : List ℕ) → Given s store out report → j < ports_in (group_at s)
      → standing_in (fetch_of s store out report).rows j
      ≡ (let left = get_or (standings_after s store) j no_standing in left.state ∷ left.number ∷ (member_at s j).hold_off ∷ (member_at s j).restore ∷ left.elapsed ∷ [])
  unfolding fetch_of rows_if_due reported_of lent_fits with_state
  report_standing s store out report o b =
      let n : ℕ = ports_in (group_at s) in
      let p : List (List ℕ) = passed_rows s store in
      let d : Due (group_at s) n s = due_says (group_at s) n s o.due in
      let rows : length s ≡ rows_for n = (lent (group_at s) n (length s) (length store) (length out) (length report) o.fitting).whole d.some in
      let whole : rows_for n ≤ length p = rw (length_passed (group_at s) store n s) (omega arith) in
      let left = get_or (standings_after s store) j no_standing in
      let times : standing_in p j ≡ standing_in s j = passed_keeps (group_at s) store n s in
      let hold : (member_at p j).hold_off ≡ (member_at s j).hold_off = ap (λ (l : List ℕ). get_or l 2 0) times in
      let wait : (member_at p j).restore ≡ (member_at s j).restore = ap (λ (l : List ℕ). get_or l 3 0) times in
      rw (o.fitting, o.due)
      (ap waiting_in (sym (port_member _ j) ∙ ap (λ (q : Port). q.member) (told_of_port (group_at p) n p j b whole) ∙ ap (λ (m : Member). with_state m left) (port_member p j))
      ∙ rw (hold, wait) refl)
