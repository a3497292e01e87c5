use Rattle.std.proofs.Common.{◌≡◌, ◌<◌, ◌≤◌, false, ltb, length, get_or, sym, refl, ◌∙◌, arith, le-ltb, lt-ltb}
use Rattle.replay_lines.specs.Laws.Due.{none_due_lem, none_out, none_rows}
use Rattle.replay_lines.specs.Laws.Lent.{lent_says}
use Rattle.replay_lines.specs.Turn.{fetch_record_by, fetched_said, fetched_turn, report_out, report_rows, report_said, report_turn}
use Rattle.replay_lines.proofs.turns.report.Goals as goal

pub returns-then-not-is_lent : goal.returns-then-not-is_lent
unfolding report_turn report_rows report_out report_said
returns-then-not-is_lent c =
    let b = sym c.is_lent.ensures ∙ c.if-not-is_lent.true in
    rw b (c.refused.ensures, refl, refl, refl)

pub returns-then-replay-eq0 : goal.returns-then-replay-eq0
unfolding report_turn report_rows report_out report_said
returns-then-replay-eq0 c =
    let b = sym c.is_lent.ensures ∙ c.if-not-is_lent.false in
    let z : c.args.replay.left ≤ 0 = omega (arith, c.if-replay-eq0.true) in
    rw (b, le-ltb 0 c.args.replay.left z) (c.read_on.ensures, refl, refl, refl)

pub is_due-requires : goal.is_due-requires
is_due-requires c =
    rw c.rows_for-n.ensures (lent_says c.args.replay (length c.args.rows.now) (length c.args.store.now) (length c.args.out.now) (length c.args.said.now) (sym c.is_lent.ensures ∙ c.if-not-is_lent.false)).rows_there

pub report_now-requires : goal.report_now-requires
report_now-requires c =
    (lent_says c.args.replay (length c.args.rows.now) (length c.args.store.now) (length c.args.out.now) (length c.args.said.now) (sym c.is_lent.ensures ∙ c.if-not-is_lent.false), omega (arith, c.if-replay-eq0.false))

pub returns-then-is_due : goal.returns-then-is_due
unfolding report_turn report_rows report_out report_said
returns-then-is_due c =
    let b = sym c.is_lent.ensures ∙ c.if-not-is_lent.false in
    let z : 0 < c.args.replay.left = omega (arith, c.if-replay-eq0.false) in
    rw (b, lt-ltb 0 c.args.replay.left z) c.report_now.ensures

pub returns : goal.returns
unfolding report_turn report_rows report_out report_said fetched_turn fetched_said
returns c =
    let b = sym c.is_lent.ensures ∙ c.if-not-is_lent.false in
    let z : 0 < c.args.replay.left = omega (arith, c.if-replay-eq0.false) in
    let d = sym (rw c.rows_for-n.ensures at c.is_due.ensures) ∙ c.if-is_due.false in
    let e : ltb 0 (get_or (fetch_record_by c.args.replay c.args.rows.now c.args.store.now c.args.out.now) 0 0) ≡ false = none_due_lem c.args.replay c.args.rows.now c.args.store.now c.args.out.now d in
    rw (b, lt-ltb 0 c.args.replay.left z, e) (c.read_on-2.ensures, sym (none_rows c.args.replay c.args.rows.now c.args.store.now c.args.out.now d), sym (none_out c.args.replay c.args.rows.now c.args.store.now c.args.out.now d), refl)
