-- The minutes' item 1: the bytes of every report, on every state, are the join under one order, and that order is read from the packets that rule.
use Rattle.std.specs.Prelude.{◌≡◌, ◌≢◌, true, List, ℕ, ◌*◌, length}
use Rattle.std.proofs.Common.{ne_eqb}
use Rattle.invariant.specs.Proofs.Kept.Calls.{due_says}
use Rattle.ground.specs.Drawn.{fill_at}
use Rattle.judge.specs.declared.seen.Seen.{Seen}
use Rattle.judge.specs.Verdict.{HELD, judge_of}
use Rattle.packet.specs.Kinds.{frames}
use Rattle.phases.specs.Sizes.{ports_in}
use Rattle.receiver.specs.Fetch.{due_in, fetch_of, lent_fits, out_if_due}
use Rattle.receiver.specs.Laws.Answers.{lent}
use Rattle.receiver.specs.Laws.Bytes.{frames_into_lem}
use Rattle.receiver.specs.Laws.Sizes.{Sizes, size_is, sizes_of, some_sized}
use Rattle.receiver.specs.Report.{frame_bytes, output_by, output_of, report_byte, seen_all}
use Rattle.rows.specs.declared.group.Group.{Group}
use Rattle.rows.specs.Group.{group_at}

-- A fetch with a report that is not held: sixteen group frames, and the output beyond them stays.
pub report_bytes_lem : (s : List (List ℕ)) (store out report : List ℕ) → lent_fits s store out report ≡ true → due_in (group_at s) (ports_in (group_at s)) s ≡ true
    → judge_of (group_at s).kind (seen_all (group_at s) s (ports_in (group_at s))) (ports_in (group_at s)) ≢ HELD
    → (fetch_of s store out report).out
    ≡ fill_at 0 (frames (group_at s).kind * frame_bytes (group_at s) (seen_all (group_at s) s (ports_in (group_at s))) (ports_in (group_at s)))
    (report_byte (group_at s) (seen_all (group_at s) s (ports_in (group_at s))) (ports_in (group_at s)) store) out
unfolding fetch_of lent_fits out_if_due output_of output_by
report_bytes_lem s store out report f d v =
    let g : Group = group_at s in
    let n : ℕ = ports_in (group_at s) in
    let seen : List Seen = seen_all (group_at s) s (ports_in (group_at s)) in
    let o = due_says g n s d in
    let sized = some_sized g o.some in
    let size : Sizes g.kind (ports_in (group_at s)) g.payload g.window = rw sized.1 (sizes_of g.kind g.count g.payload g.window sized.0) in
    let l = lent g n (length s) (length store) (length out) (length report) f in
    rw (f, d, size_is n size.few_ports, ne_eqb (judge_of g.kind seen n) HELD v) (frames_into_lem g seen n store out size l.stored l.room)
