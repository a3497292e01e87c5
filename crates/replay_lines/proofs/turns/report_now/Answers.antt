use Rattle.std.proofs.Common.{◌≡◌, ℕ, ◌<◌, ◌≤◌, true, false, ltb, length, get_or, refl, ap, ◌∙◌, arith, le-ltb, lt-ltb}
use Rattle.replay_lines.specs.Output.{report_text}
use Rattle.replay_lines.specs.Turn.{fetch_record_by, fetched_said, fetched_turn, placed, report_printed, reported_turn}
use Rattle.replay_lines.proofs.Printing.{put_over, report_le}
use Rattle.replay_lines.proofs.turns.report_now.Goals as goal

pub blamed-blamed-requires : goal.blamed-blamed-requires
blamed-blamed-requires c = rw c.rows_for-n.ensures c.requires.0.rows_there

pub fetch-given-requires : goal.fetch-given-requires
fetch-given-requires c = (c.requires.0.rows_there, c.requires.0.store_there)

pub returns-then-given-eq0 : goal.returns-then-given-eq0
unfolding fetched_turn fetched_said
returns-then-given-eq0 c =
    let y : get_or c.fetch-given.result 0 0 ≤ 0 = omega (arith, c.if-given-eq0.true) in
    let d : ltb 0 (get_or (fetch_record_by c.args.replay c.args.rows.now c.args.store.now c.args.out.now) 0 0) ≡ false = rw (← c.fetch-given.ensures.0) (le-ltb 0 (get_or c.fetch-given.result 0 0) y) in
    rw d (c.read_on.ensures, c.fetch-given.ensures.1, c.fetch-given.ensures.2, refl)

pub put_report-written-requires : goal.put_report-written-requires
put_report-written-requires c =
    (c.requires.0.ports_most, c.requires.0.room)

pub reported-requires : goal.reported-requires
reported-requires c =
    c.requires.1

pub returns : goal.returns
unfolding fetched_turn fetched_said report_printed
returns c =
    let port = rw c.rows_for-n.ensures at c.blamed-blamed.ensures in
    let l = c.requires.0 in
    let y : 0 < get_or c.fetch-given.result 0 0 = omega (arith, c.if-given-eq0.false) in
    let d : ltb 0 (get_or (fetch_record_by c.args.replay c.args.rows.now c.args.store.now c.args.out.now) 0 0) ≡ true = rw (← c.fetch-given.ensures.0) (lt-ltb 0 (get_or c.fetch-given.result 0 0) y) in
    let w : report_text c.fetch-given.result c.blamed-blamed.result c.args.replay.line c.states_in-before.result c.states_in-after.result c.args.replay.ports ≡ report_printed c.args.replay c.args.rows.now c.args.store.now c.args.out.now = rw (c.states_in-after.ensures, port, c.states_in-before.ensures, c.fetch-given.ensures.1, c.fetch-given.ensures.0) in
    let k = report_le c.fetch-given.result c.blamed-blamed.result c.args.replay.line c.states_in-before.result c.states_in-after.result c.args.replay.ports l.ports_most in
    let h : length (report_text c.fetch-given.result c.blamed-blamed.result c.args.replay.line c.states_in-before.result c.states_in-after.result c.args.replay.ports) ≤ length c.args.said.now = omega (arith, l.room) in
    let q = rw w at (put_over c.put_report-written.ensures h) in
    rw d (c.reported.ensures ∙ ap (λ (n : ℕ). placed c.args.at (reported_turn c.args.replay n)) q.0, c.fetch-given.ensures.1, c.fetch-given.ensures.2, q.1)
