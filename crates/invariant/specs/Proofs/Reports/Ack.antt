-- RS-Ack turns over at most once a report, and at no other call. On every state.
use Rattle.std.specs.Prelude.{◌≡◌, refl, ◌⊎◌, Bool, true, false, ◌&&◌, List, ℕ, ◌-◌, ◌≤◌, ◌<◌}
use Rattle.std.proofs.Common.{ap, ◌∙◌, inl, inr, ⊎_elim, arith}
use Rattle.invariant.specs.Proofs.Arriving.{after_group, frame_any}
use Rattle.invariant.specs.Proofs.Laws.Flags.{true_or_false}
use Rattle.invariant.specs.Proofs.Laws.Settling.{settled_by_lem}
use Rattle.invariant.specs.Proofs.Reports.Groups.{fetch_group, fetch_none}
use Rattle.invariant.specs.Proofs.Sizes.{ports_at_most_64}
use Rattle.phases.specs.Laws.Cleared.{begun_group, stopped_group}
use Rattle.phases.specs.Laws.Lengths.{length_stopped}
use Rattle.phases.specs.Laws.Passed.{passed_group_lem}
use Rattle.phases.specs.Settling.{stopped_of}
use Rattle.phases.specs.Sizes.{ports_in}
use Rattle.receiver.specs.Fetch.{due_in, fetch_of, lent_fits}
use Rattle.receiver.specs.Frame.{frame_of}
use Rattle.receiver.specs.Laws.Passed.{passed_ack}
use Rattle.receiver.specs.Laws.Sizes.{size_is}
use Rattle.receiver.specs.Laws.Told.{reply_port_lem}
use Rattle.receiver.specs.Report.{reply_port}
use Rattle.reply.specs.declared.members.Port.{Port as ReplyPort}
use Rattle.reply.specs.Members as R
use Rattle.reply.specs.Telling.{ack_of, turns_over}
use Rattle.reply.specs.Theorems.Ack.{ack_kept, ack_turned}
use Rattle.rows.specs.declared.group.Group.{Group}
use Rattle.rows.specs.Group.{group_at}
use Rattle.invariant.specs.Calls.{port_after, store_after}
use Rattle.invariant.specs.Reports.{Given, ack_in, passed_rows, port_seen, report_ports}

-- no frame changes it
pub frame_ack : (s : List (List ℕ)) (i : ℕ) (failed : Bool) (h : ℕ) (payload store : List ℕ) → ack_in (frame_of s i failed h payload store).rows ≡ ack_in s
frame_ack s i failed h payload store =
    frame_any (λ (r : List (List ℕ)). ack_in r ≡ ack_in s) s i failed h payload store refl
    (λ e f. ap (λ (g : Group). g.rs_ack) same)
    (λ e f long.
    settled_by_lem (λ (r : List (List ℕ)). ack_in r ≡ ack_in s) n st a long
    (ap (λ (g : Group). g.rs_ack) same)
    (λ b q z w. ap ack (passed_group_lem (group_at a) st n a (omega arith)) ∙ passed_ack (group_at a) ∙ ap ack same)
    (λ b w. ap ack (begun_group (group_at a) n a (omega arith)) ∙ ap ack same)
    (λ b q. ap ack (stopped_group (group_at a) n a (omega arith)) ∙ ap ack same)
    (λ b q.
    let z : List (List ℕ) = stopped_of (group_at a) n a in
    ap ack (begun_group (group_at z) n z (rw (length_stopped (group_at a) n a) (omega arith))) ∙ ap ack (stopped_group (group_at a) n a (omega arith)) ∙ ap ack same))
  where
    ack : Group → ℕ
    ack g = g.rs_ack

    n : ℕ
    n = ports_in (group_at s)

    a : List (List ℕ)
    a = port_after s i failed h

    st : List ℕ
    st = store_after s i failed h payload store

    same : group_at (port_after s i failed h) ≡ group_at s
    same = after_group s i failed h

-- nor does a fetch with none due
pub none_ack : (s : List (List ℕ)) (store out report : List ℕ) → (lent_fits s store out report && due_in (group_at s) (ports_in (group_at s)) s) ≡ false
    → ack_in (fetch_of s store out report).rows ≡ ack_in s
none_ack s store out report e = ap ack_in (fetch_none s store out report e)

-- a report: as the good packets up to its epoch's own say
pub report_ack : (s : List (List ℕ)) (store out report : List ℕ) → Given s store out report
    → ack_in (fetch_of s store out report).rows ≡ ack_of (report_ports s store) (ports_in (group_at s)) (ack_in s)
report_ack s store out report o =
    ap (λ (g : Group). g.rs_ack) (fetch_group s store out report o)
    ∙ ap (λ (n : ℕ). ack_of (report_ports s store) n (ack_in s)) (size_is (ports_in (group_at s)) (ports_at_most_64 (group_at s)))

port_as_seen : (p : List (List ℕ)) (i : ℕ) → reply_port (group_at p) p i ≡ port_seen p i
unfolding reply_port
port_as_seen p i = refl

pub report_port : (s : List (List ℕ)) (store : List ℕ) (i : ℕ) → i < ports_in (group_at s) → R.port_at (report_ports s store) i ≡ port_seen (passed_rows s store) i
report_port s store i b =
    let p : List (List ℕ) = passed_rows s store in
    reply_port_lem (group_at p) p (ports_in (group_at s)) i (ports_at_most_64 (group_at s)) b ∙ port_as_seen p i

-- it stays, or turns over once
pub report_turns : (s : List (List ℕ)) (store out report : List ℕ) → Given s store out report → ack_in s ≤ 1
    → (ack_in (fetch_of s store out report).rows ≡ ack_in s) ⊎ (ack_in (fetch_of s store out report).rows ≡ 1 - ack_in s)
report_turns s store out report o b =
    ⊎_elim (λ (t : turns_over ports n ≡ true). inr (report_ack s store out report o ∙ ack_turned ports n (ack_in s) t b))
    (λ (t : turns_over ports n ≡ false). inl (report_ack s store out report o ∙ ack_kept ports n (ack_in s) t))
    (true_or_false (turns_over ports n))
  where
    ports : List ReplyPort
    ports = report_ports s store

    n : ℕ
    n = ports_in (group_at s)
