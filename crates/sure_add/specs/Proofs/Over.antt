-- The add over calls.
-- The idea: at each report from that of the first ADD on the port is a candidate under the slot's number, so after its wait-to-restore an OK port holds that number, and the reply says so; until one has come back the slot stays ADD under its number, since no other ADD becomes active.
use Rattle.std.specs.Prelude.{◌≡◌, ◌⊎◌, ◌≢◌, Bool, true, false, cond, not, ◌&&◌, List, ℕ, zero, suc, ◌+◌, ◌-◌, ◌%◌, ◌≤◌, ◌<◌, eqb, get_or, length}
use Rattle.std.proofs.Math.Path.{refl}
use Rattle.std.proofs.Common.{sym, ap, subst, ◌∙◌, inl, inr, ⊎_elim, eq-eqb, eqb-true, lt-ltb}
use native.Mathlib.Omega.{arith}
use Rattle.ground.specs.Truth.{and_left, and_right, and-true, eq_or_ne}
use Rattle.ground.specs.Counting.Laws.Tests.{some_at, some_one}
use Rattle.packet.specs.Kinds.{epochs, fixed_kind, mst_epochs, mst_fails}
use Rattle.packet.specs.Laws.Mst.{SpokenSoon, spoken_soon}
use Rattle.packet.specs.Mst.{Spoken}
use Rattle.packet.specs.Words.{ADD}
use Rattle.phases.specs.Laws.Sizes.{SameSizes}
use Rattle.phases.specs.Sizes.{ports_in}
use Rattle.receiver.specs.Laws.Sizes.{ports_are, sizes_of}
use Rattle.receiver.specs.Shown.{reply_of}
use Rattle.reply.specs.Reports.{Apart}
use Rattle.reply.specs.declared.waiting.Standing.{Standing}
use Rattle.reply.specs.Members.{is_candidate, ok_state}
use Rattle.reply.specs.Members as R
use Rattle.reply.specs.Theorems.States.{Holder}
use Rattle.reply.specs.Waiting.{standing, standing_at, with_claim}
use Rattle.rows.specs.declared.group.Group.{Group}
use Rattle.rows.specs.declared.member.Member.{Member}
use Rattle.rows.specs.Group.{group_at}
use Rattle.rows.specs.Laws.Port.{port_member}
use Rattle.rows.specs.Member.{member_at}
use Rattle.rows.specs.Packets.{marks_at}
use Rattle.rows.specs.Port.{port_at}
use Rattle.rows.specs.Rows.{rows_for}
use Rattle.sender.specs.declared.board.Row.{Row}
use Rattle.sender.specs.declared.table.State.{State}
use Rattle.sender.specs.declared.table.State.TheVariants.{Add}
use Rattle.sender.specs.declared.table.Table.{Table}
use Rattle.sender.specs.Board.{board_of, highest, row_of, word_of}
use Rattle.sender.specs.Calls.Call.{AddSlot, Report}
use Rattle.sender.specs.Commands.{start_of}
use Rattle.sender.specs.Laws.Carrying.{board_row, row_number}
use Rattle.sender.specs.Laws.Kept.{group_call, kind_run, sound_run, sound_start, start_kind}
use Rattle.sender.specs.Laws.Speaking.{BecomesActive, Pending, acts, added_pending, active_or_pending, pending_low}
use Rattle.sender.specs.Numbering.{number_in, slots_in, state_in}
use Rattle.sender.specs.Ranks.{row_at}
use Rattle.sender.specs.Reports.{report_of}
use Rattle.sender.specs.Table.{is_active}
use Rattle.store.specs.Marks.{first_mark}
use Rattle.invariant.specs.Calls.{Receiver, receiver_run}
use Rattle.invariant.specs.Calls.ReceiverCall.{Fetch}
use Rattle.invariant.specs.Kept.Group.{Kept}
use Rattle.invariant.specs.Proofs.Calls.{call_kept, run_kept}
use Rattle.invariant.specs.Proofs.Sizes.{call_sizes, run_sizes}
use Rattle.invariant.specs.Reports.{Given}
use Rattle.invariant.specs.Theorems.{kept}
use Rattle.invariant.specs.Times.{standing_in}
use Rattle.sure_add.specs.Proofs.Claiming.{claimed, has_holder_lem}
use Rattle.sure_add.specs.Proofs.Reported.{left_elapsed, left_state, left_under, mst_in, ok_in, seen_elapsed, seen_number, seen_state, seen_under, seen_word}
use Rattle.sure_add.specs.Proofs.Restoring.{Counting, Stands, after_fail, after_ok, at_last, between_keeps}
use Rattle.sure_add.specs.Rounds.{Asked, Path, Rounds, before, heard, number_of, ports, reported, seen, table_of}
use Rattle.sure_add.specs.Within.{ActiveWithin, bound}

ports_same : (g h : Group) → SameSizes g h → ports_in g ≡ ports_in h
unfolding ports_in
ports_same g h s = rw (s.kind, s.count, s.payload, s.window) refl

-- of rows that calls have made
pub kept_few : (s : List (List ℕ)) → Kept s → ports_in (group_at s) ≤ 64
kept_few s k =
    let f = (sizes_of (group_at s).kind (group_at s).count (group_at s).payload (group_at s).window k.lasting.group.sizes).few_ports in
    let c = ports_are (group_at s) k.lasting.group.sizes in
    omega arith

pub kept_rows : (s : List (List ℕ)) → Kept s → rows_for (ports_in (group_at s)) ≤ length s
kept_rows s k = rw (ports_are (group_at s) k.lasting.group.sizes) (let l = k.lasting.rows in omega arith)

word_add : (t : Table) (i : ℕ) → i < slots_in t → state_in t i ≡ Add → (row_at (board_of t).rows i).word.0 ≡ ADD
unfolding row_of
word_add t i h e = ap (λ (w : Row). w.word.0) (board_row t i h) ∙ ap (λ (s : State). (word_of s (highest t.slots (slots_in t) (number_in t i))).0) e

-- what a report keeps holds of the table at every start
pub along : (r : Rounds) (slot : ℕ) (P : Table → Type 0) → ((t : Table) (e mst ack : ℕ) → P t → P (report_of t e mst ack).table) → P (table_of r slot 0) → (k : ℕ) → P (table_of r slot k)
unfolding table_of
along r slot P keeps first zero = first
along r slot P keeps first (suc k) = go (r.handed k) (along r slot P keeps first k)
  where
    go : (c : Bool) → P (table_of r slot k) → P (cond c (report_of (table_of r slot k) (number_of r k) (r.mst k) (r.ack k)).table (table_of r slot k))
    go true so = keeps (table_of r slot k) (number_of r k) (r.mst k) (r.ack k) so
    go false so = so

module _ (r : Rounds) (a b slot port restore : ℕ) (lcas : eqb r.kind fixed_kind ≡ false) (path : Path r a b slot port (bound r.kind a b restore)) (asked : Asked r a slot port restore (bound r.kind a b restore)) where
  abbrev table : ℕ → Table
  table k = table_of r slot k

  abbrev most : ℕ
  most = bound r.kind a b restore

  most_is : most ≡ mst_epochs r.kind + 2 + a + b + restore
  unfolding bound
  most_is = omega arith

  -- The sender.

  abbrev q : ℕ
  q = number_in (table 0) slot

  pending_first : Pending (table 0) slot q
  unfolding table_of
  pending_first = added_pending (before r) slot (sound_run (start_of r.kind r.slots).table r.calls (sound_start r.kind r.slots)) asked.accepted

  low : q < 64
  low = pending_low (table 0) slot q pending_first

  next_is : (k : ℕ) → r.handed k ≡ true → table (suc k) ≡ (report_of (table k) (number_of r k) (r.mst k) (r.ack k)).table
  unfolding table_of
  next_is k c = rw c refl

  next_none : (k : ℕ) → r.handed k ≡ false → table (suc k) ≡ table k
  unfolding table_of
  next_none k c = rw c refl

  -- by what is handed at a start
  record Becomes (k : ℕ) : Type 0 where
    given : r.handed k ≡ true
    comes : BecomesActive (table k) slot q (number_of r k) (r.mst k) (table (suc k))

  step : (k : ℕ) → k < most → Pending (table k) slot q → Becomes k ⊎ Pending (table (suc k)) slot q
  step k in-time w = go (r.handed k) refl
    where
      go : (c : Bool) → r.handed k ≡ c → Becomes k ⊎ Pending (table (suc k)) slot q
      go false c = inr (subst (λ (v : Table). Pending v slot q) (sym (next_none k c)) w)
      go true c =
          ⊎_elim
          (λ (x : BecomesActive (table k) slot q (number_of r k) (r.mst k) (report_of (table k) (number_of r k) (r.mst k) (r.ack k)).table).
          inl (record { given = c; comes = subst (BecomesActive (table k) slot q (number_of r k) (r.mst k)) (sym (next_is k c)) x }))
          (λ (x : Pending (report_of (table k) (number_of r k) (r.mst k) (r.ack k)).table slot q). inr (subst (λ (v : Table). Pending v slot q) (sym (next_is k c)) x))
          (active_or_pending (table k) slot q w (number_of r k) (r.mst k) (r.ack k) (λ j h d x. ap (λ (v : Table). is_active (state_in v j)) (sym (next_is k c)) ∙ asked.settled k j in-time h d x))

  -- it is ADD at every start up to `last`, and active at the next
  pub record Come (k : ℕ) : Type 0 where
    pub last : ℕ
    pub by : suc last ≤ k
    pub given : r.handed last ≡ true
    pub pending : (j : ℕ) → j ≤ last → Pending (table j) slot q
    pub comes : BecomesActive (table last) slot q (number_of r last) (r.mst last) (table (suc last))

  far_as : (k : ℕ) → k ≤ most → Come k ⊎ ((j : ℕ) → j ≤ k → Pending (table j) slot q)
  far_as zero l = inr (λ j h. let e : j ≡ 0 = omega arith in rw e pending_first)
  far_as (suc k) l =
      ⊎_elim (λ (c : Come k). inl (record { last = c.last; by = let w = c.by in omega arith; given = c.given; pending = c.pending; comes = c.comes }))
      (λ (w : (j : ℕ) → j ≤ k → Pending (table j) slot q).
      ⊎_elim (λ (c : Becomes k). inl (record { last = k; by = omega arith; given = c.given; pending = w; comes = c.comes }))
      (λ (n : Pending (table (suc k)) slot q). inr (λ j h. ⊎_elim (λ (e : j ≡ suc k). rw e n) (λ (d : j ≢ suc k). w j (omega arith)) (eq_or_ne j (suc k))))
      (step k (omega arith) (w k (omega arith))))
      (far_as k (omega arith))

  -- The receiver, from the first report on.

  record Same (k : ℕ) : Type 0 where
    rows : Kept (r.far k).rows
    count : ports r k ≡ ports r (a + 2)
    kind : (group_at (r.far k).rows).kind ≡ r.kind

  same_first : Same (a + 2)
  same_first =
      let s = path.starts in
      record {
        rows = subst (λ (x : Receiver). Kept x.rows) (sym s.is) (kept s.kind s.count s.payload s.window s.hold s.restore s.rows s.store s.done s.calls);
        count = refl;
        kind = path.kind_is;
      }

  -- the report and the calls behind it
  after_report : (k : ℕ) → Same k → SameSizes (group_at (reported r k).rows) (group_at (r.far k).rows)
  after_report k o = call_sizes (r.far k) (Fetch (r.output k) (r.lent k)) o.rows

  same_next : (k : ℕ) → a + 2 ≤ k → k < most → Same k → Same (suc k)
  same_next k h l o =
      let done : Kept (reported r k).rows = call_kept (r.far k) (Fetch (r.output k) (r.lent k)) o.rows in
      let more = run_sizes (reported r k) (r.between k) done in
      let e = path.next k h l in
      record {
        rows = subst (λ (x : Receiver). Kept x.rows) (sym e) (run_kept (reported r k) (r.between k) done);
        count =
            ap (λ (x : Receiver). ports_in (group_at x.rows)) e
            ∙ ports_same (group_at (receiver_run (reported r k) (r.between k)).rows) (group_at (reported r k).rows) more
            ∙ ports_same (group_at (reported r k).rows) (group_at (r.far k).rows) (after_report k o)
            ∙ o.count;
        kind = ap (λ (x : Receiver). (group_at x.rows).kind) e ∙ more.kind ∙ (after_report k o).kind ∙ o.kind;
      }

  same : (k : ℕ) → a + 2 ≤ k → k ≤ most → Same k
  same zero h l = absurd (omega arith)
  same (suc k) h l =
      ⊎_elim (λ (e : a + 2 ≡ suc k). subst Same e same_first) (λ (d : a + 2 ≢ suc k). same_next k (omega arith) (omega arith) (same k (omega arith) (omega arith))) (eq_or_ne (a + 2) (suc k))

  -- the report by start k
  module _ (k : ℕ) (from : a + 2 ≤ k) (to : k ≤ most) where
    abbrev n : ℕ
    n = ports r k

    abbrev s : List (List ℕ)
    s = (r.far k).rows

    o : Same k
    o = same k from to

    gv : Given (r.far k).rows (r.far k).store (r.output k) (r.lent k)
    gv = path.given k from to

    fw : ports r k ≤ 64
    fw = kept_few (r.far k).rows o.rows

    en : rows_for (ports r k) ≤ length (r.far k).rows
    en = kept_rows (r.far k).rows o.rows

    apart : Apart (seen r k) (ports r k)
    apart i j bi bj oi oj e =
        let c = ports_are (group_at s) o.rows.lasting.group.sizes in
        o.rows.lasting.members.apart i j (omega arith) (omega arith) (old i bi oi) (old j bj oj) (under i bi ∙ e ∙ sym (under j bj))
      where
        old : (p : ℕ) → p < ports r k → (R.port_at (seen r k) p).state ≡ ok_state → (port_at (r.far k).rows p).member.state ≡ ok_state
        old p b ok = ap (λ (m : Member). m.state) (port_member (r.far k).rows p) ∙ sym (seen_state (r.far k).rows (r.far k).store (r.output k) (r.lent k) gv fw en p b) ∙ ok

        under : (p : ℕ) → p < ports r k → (port_at (r.far k).rows p).member.state_number ≡ (R.port_at (seen r k) p).state_number
        under p b = ap (λ (m : Member). m.state_number) (port_member (r.far k).rows p) ∙ sym (seen_under (r.far k).rows (r.far k).store (r.output k) (r.lent k) gv fw en p b)

    our_port : port < ports r k
    our_port = subst (λ (x : ℕ). port < x) (sym o.count) asked.below

    after_ports : ports_in (group_at (reported r k).rows) ≡ ports r k
    after_ports = ports_same (group_at (reported r k).rows) (group_at (r.far k).rows) (after_report k o)

    after_state : (p : ℕ) → p < ports r k → (member_at (reported r k).rows p).state ≡ (standing_at (seen r k) (ports r k) p).state
    after_state p b = left_state (r.far k).rows (r.far k).store (r.output k) (r.lent k) gv fw en p b

    after_under : (p : ℕ) → p < ports r k → (member_at (reported r k).rows p).state_number ≡ (standing_at (seen r k) (ports r k) p).number
    after_under p b = left_under (r.far k).rows (r.far k).store (r.output k) (r.lent k) gv fw en p b

    -- an OK port holds x after it exactly if the reply says so
    ok_holder : (x : ℕ) → Holder (seen r k) (ports r k) x → ok_in (reported r k).rows x ≡ true
    ok_holder x w =
        some_at (ports_in (group_at (reported r k).rows)) (λ p. eqb (member_at (reported r k).rows p).state ok_state && eqb (member_at (reported r k).rows p).state_number x) w.at (rw after_ports w.below)
        (and-true (eqb (member_at (reported r k).rows w.at).state ok_state) _ (eq-eqb (member_at (reported r k).rows w.at).state ok_state (after_state w.at w.below ∙ w.ok))
        (eq-eqb (member_at (reported r k).rows w.at).state_number x (after_under w.at w.below ∙ w.same)))

    pub holder_ok : (x : ℕ) → ok_in (reported r k).rows x ≡ true → Holder (seen r k) (ports r k) x
    holder_ok x e =
        let w = some_one (ports_in (group_at (reported r k).rows)) (λ p. eqb (member_at (reported r k).rows p).state ok_state && eqb (member_at (reported r k).rows p).state_number x) e in
        let p : ℕ = w.at in
        let b : p < ports r k = subst (λ (z : ℕ). w.at < z) after_ports w.below in
        let u : Bool = eqb (member_at (reported r k).rows p).state ok_state in
        let v : Bool = eqb (member_at (reported r k).rows p).state_number x in
        record {
          at = p;
          below = b;
          ok = sym (after_state p b) ∙ eqb-true (member_at (reported r k).rows p).state ok_state (and_left u v w.holds);
          same = sym (after_under p b) ∙ eqb-true (member_at (reported r k).rows p).state_number x (and_right u v w.holds);
        }

    -- the reply handed b + 1 starts later
    pub mst_then : k + b < most → (e x : ℕ) → number_of r (k + b) ≡ e → Spoken r.kind e x → mst_fails (r.mst (k + b)) x ≡ not (ok_in (reported r k).rows x)
    mst_then l e x is sp =
        ap (λ (v : ℕ). mst_fails v x) (path.mst_is k from l)
        ∙ ap (λ (v : ℕ). mst_fails (get_or (reply_of (reported r k).rows v) 0 0) x) is
        ∙ mst_in (reported r k).rows (rw after_ports fw) (ap (λ (y : ℕ). eqb y fixed_kind) kind_after ∙ lcas) e x (subst (λ (y : ℕ). Spoken y e x) (sym kind_after) sp)
      where
        kind_after : (group_at (reported r k).rows).kind ≡ r.kind
        kind_after = (after_report k o).kind ∙ o.kind

    -- it takes in epoch m, in which the slot was ADD
    module _ (m : ℕ) (is : m + a + 1 ≡ k) (some : 1 ≤ m) (w : Pending (table m) slot q) where
      whole : first_mark (marks_at (r.far k).rows port) ≡ true
      whole = subst (λ (x : ℕ). first_mark (marks_at (r.far x).rows port) ≡ true) is (path.whole m some (omega arith))

      good : (heard r k port).good ≡ true
      good = subst (λ (x : ℕ). (heard r x port).good ≡ true) is (path.good m some (omega arith))

      word : (R.port_at (seen r k) port).word ≡ ADD
      word =
          seen_word (r.far k).rows (r.far k).store (r.output k) (r.lent k) gv fw en port our_port whole good
          ∙ subst (λ (x : ℕ). (heard r x port).word ≡ (row_at (board_of (table m)).rows slot).word.0) is (path.word m some (omega arith))
          ∙ word_add (table m) slot w.below w.add

      number : (R.port_at (seen r k) port).number ≡ q
      number =
          seen_number (r.far k).rows (r.far k).store (r.output k) (r.lent k) gv fw en port our_port whole good
          ∙ subst (λ (x : ℕ). (heard r x port).number ≡ (row_at (board_of (table m)).rows slot).number) is (path.number m some (omega arith))
          ∙ row_number (table m) slot w.below
          ∙ w.number

      candidate : is_candidate (R.port_at (seen r k) port) ≡ true
      candidate = rw (word, asked.readable k from to, number, lt-ltb q 64 low) refl

      holder_zero : restore ≡ 0 → Holder (seen r k) (ports r k) q
      holder_zero none = rw number at (has_holder_lem (seen r k) (ports r k) fw apart port our_port candidate (asked.restores k from to ∙ none))

      with_claim_lem : 1 ≤ restore → standing_at (seen r k) (ports r k) port ≡ with_claim (R.port_at (seen r k) port)
      with_claim_lem some = claimed (seen r k) (ports r k) fw apart port our_port (record { candidate = candidate; alone = λ j h d ok. asked.alone k j from to some h d ok })

  -- what a report sees of the port's state and counter is what the one before has left
  module _ (k : ℕ) (from : a + 2 ≤ k) (in-time : suc k ≤ most) where
    before_in : k ≤ most
    before_in = omega arith

    stood : standing_in (r.far (suc k)).rows port ≡ standing_in (reported r k).rows port
    stood = ap (λ (x : Receiver). standing_in x.rows port) (path.next k from (omega arith)) ∙ between_keeps port (reported r k) (r.between k) (path.none_between k from (omega arith))

    next_state : (R.port_at (seen r (suc k)) port).state ≡ (standing_at (seen r k) (ports r k) port).state
    next_state =
        seen_state (r.far (suc k)).rows (r.far (suc k)).store (r.output (suc k)) (r.lent (suc k)) (gv (suc k) (omega arith) in-time) (fw (suc k) (omega arith) in-time) (en (suc k) (omega arith) in-time) port (our_port (suc k) (omega arith) in-time)
        ∙ ap (λ (l : List ℕ). get_or l 0 0) stood
        ∙ after_state k from before_in port (our_port k from before_in)

    next_elapsed : (R.port_at (seen r (suc k)) port).elapsed ≡ (standing_at (seen r k) (ports r k) port).elapsed
    next_elapsed =
        seen_elapsed (r.far (suc k)).rows (r.far (suc k)).store (r.output (suc k)) (r.lent (suc k)) (gv (suc k) (omega arith) in-time) (fw (suc k) (omega arith) in-time) (en (suc k) (omega arith) in-time) port (our_port (suc k) (omega arith) in-time)
        ∙ ap (λ (l : List ℕ). get_or l 4 0) stood
        ∙ left_elapsed (r.far k).rows (r.far k).store (r.output k) (r.lent k) (gv k from before_in) (fw k from before_in) (en k from before_in) port (our_port k from before_in)

  -- so its counter grows with each report until it is OK
  counts : 1 ≤ restore → (last : ℕ) → ((j : ℕ) → j ≤ last → Pending (table j) slot q) → (k : ℕ) → a + 2 ≤ k → k ≤ most → k ≤ last + a + 1
      → Stands (standing_at (seen r k) (ports r k) port) q (a + 2) k restore
  counts some last w zero from to by = absurd (omega arith)
  counts some last w (suc k) from to by =
      let m : ℕ = suc k - (a + 1) in
      let wm : Pending (table m) slot q = w m (omega arith) in
      let is : m + a + 1 ≡ suc k = omega arith in
      let num : (R.port_at (seen r (suc k)) port).number ≡ q = number (suc k) from to m is (omega arith) wm in
      let time : (R.port_at (seen r (suc k)) port).restore ≡ restore = asked.restores (suc k) from to in
      let rest = counts some last w k in
      subst (λ (s : Standing). Stands s q (a + 2) (suc k) restore) (sym (with_claim_lem (suc k) from to m is (omega arith) wm some))
      (⊎_elim (λ (e : suc k ≡ a + 2). after_fail (R.port_at (seen r (suc k)) port) q (a + 2) (suc k) restore num time (omega arith))
      (λ (d : suc k ≢ a + 2).
      ⊎_elim (λ (ok : standing_at (seen r k) (ports r k) port ≡ standing ok_state q 0).
      after_ok (R.port_at (seen r (suc k)) port) q (a + 2) (suc k) restore num time (next_state k (omega arith) to ∙ ap (λ (s : Standing). s.state) ok))
      (λ (c : Counting (standing_at (seen r k) (ports r k) port) q (a + 2) k restore).
      let e : (R.port_at (seen r (suc k)) port).elapsed ≡ c.elapsed = next_elapsed k (omega arith) to ∙ ap (λ (s : Standing). s.elapsed) c.is in
      let g = c.grown in
      after_fail (R.port_at (seen r (suc k)) port) q (a + 2) (suc k) restore num time (omega arith))
      (rest (omega arith) (omega arith) (omega arith)))
      (eq_or_ne (suc k) (a + 2)))

  -- an OK port holds q, from the wait-to-restore on
  holder_from : (last : ℕ) → ((j : ℕ) → j ≤ last → Pending (table j) slot q) → (k : ℕ) (from : a + 2 + restore ≤ k) (to : k ≤ most) → k ≤ last + a + 1 → Holder (seen r k) (ports r k) q
  holder_from last w k from to by =
      let early : a + 2 ≤ k = omega arith in
      let m : ℕ = k - (a + 1) in
      ⊎_elim (λ (none : restore ≡ 0). holder_zero k early to m (omega arith) (omega arith) (w m (omega arith)) none)
      (λ (some : restore ≢ 0).
      let e : standing_at (seen r k) (ports r k) port ≡ standing ok_state q 0 = at_last (standing_at (seen r k) (ports r k) port) q (a + 2) k restore (counts (omega arith) last w k early to by) from in
      record { at = port; below = our_port k early to; ok = ap (λ (s : Standing). s.state) e; same = ap (λ (s : Standing). s.number) e })
      (eq_or_ne restore 0)

  -- the start at whose reply MST speaks of q
  soon : SpokenSoon r.kind (r.first + (a + 2 + restore + b)) q
  soon = spoken_soon r.kind (r.first + (a + 2 + restore + b)) q low

  abbrev told_at : ℕ
  told_at = a + 2 + restore + soon.after

  spoken_then : Spoken r.kind (number_of r (told_at + b)) q
  spoken_then =
      let e : r.first + (a + 2 + restore + b) + soon.after ≡ r.first + (told_at + b) = omega arith in
      subst (λ (n : ℕ). Spoken r.kind (n % epochs r.kind) q) e soon.spoken

  pub kind_of_lem : (k : ℕ) → (table k).kind ≡ r.kind
  unfolding table_of
  kind_of_lem k =
      along r slot (λ (t : Table). t.kind ≡ r.kind) (λ t e mst ack is. (group_call t (Report e mst ack)).kind ∙ is)
      ((group_call (before r) (AddSlot slot)).kind ∙ kind_run (start_of r.kind r.slots).table r.calls ∙ start_kind r.kind r.slots) k

  pub come : Come most
  come =
      let m = most_is in
      let n = soon.soon in
      ⊎_elim (λ (c : Come (told_at + b)). record { last = c.last; by = let w = c.by in omega arith; given = c.given; pending = c.pending; comes = c.comes })
      (λ (w : (j : ℕ) → j ≤ told_at + b → Pending (table j) slot q).
      let h : ℕ = told_at + b in
      let ok : mst_fails (r.mst h) q ≡ false =
      mst_then told_at (omega arith) (omega arith) (omega arith) (number_of r h) q refl spoken_then
      ∙ ap not (ok_holder told_at (omega arith) (omega arith) q (holder_from h w told_at (omega arith) (omega arith) (omega arith))) in
      let given : r.handed h ≡ true = path.handed_is told_at (omega arith) (omega arith) in
      let sp : Spoken (table h).kind (number_of r h) q = subst (λ (n : ℕ). Spoken n (number_of r h) q) (sym (kind_of_lem h)) spoken_then in
      record {
        last = h;
        by = omega arith;
        given = given;
        pending = w;
        comes = record { active = ap (λ (t : Table). state_in t slot) (next_is h given) ∙ acts (table h) slot q (w h (omega arith)) (number_of r h) (r.mst h) (r.ack h) sp ok; spoken = sp; ok = ok };
      })
      (far_as (told_at + b) (omega arith))

  pub joins : ActiveWithin (table_of r slot) slot 0 (bound r.kind a b restore)
  joins = record { at = suc come.last; after = omega arith; within = let w = come.by in omega arith; active = ap is_active come.comes.active }
