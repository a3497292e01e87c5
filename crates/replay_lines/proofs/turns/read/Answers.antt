use Rattle.std.proofs.Common.{inl, inr, length, drop, sym, refl, ◌∙◌}
use Rattle.recording.specs.Theorems.Later.{end_sooner, frame_sooner, long_sooner, malformed_sooner, unfinished_sooner}
use Rattle.replay_lines.specs.Laws.Lent.{lent_says}
use Rattle.replay_lines.specs.Laws.Placed.{answered_placed, framed_placed, payload_placed}
use Rattle.replay_lines.specs.Turn.{record_now, read_rows, read_said, read_store, read_turn}
use Rattle.replay_lines.proofs.turns.read.Goals as goal

pub returns-then-not-is_lent : goal.returns-then-not-is_lent
unfolding read_turn read_rows read_store read_said
returns-then-not-is_lent c =
    let b = sym c.is_lent.ensures ∙ c.if-not-is_lent.true in
    rw b (c.refused.ensures, refl, refl, refl)

pub take_frame-requires : goal.take_frame-requires
take_frame-requires c =
    let l = lent_says c.args.replay (length c.args.rows.now) (length c.args.store.now) c.args.out (length c.args.said.now) (sym c.is_lent.ensures ∙ c.if-not-is_lent.false) in
    (l.size_most, l.rows_there, l.store_there)

pub answered-requires : goal.answered-requires
answered-requires c =
    (lent_says c.args.replay (length c.args.rows.now) (length c.args.store.now) c.args.out (length c.args.said.now) (sym c.is_lent.ensures ∙ c.if-not-is_lent.false)).room

pub answered-requires-in-Long : goal.answered-requires-in-Long
answered-requires-in-Long c =
    (lent_says c.args.replay (length c.args.rows.now) (length c.args.store.now) c.args.out (length c.args.said.now) (sym c.is_lent.ensures ∙ c.if-not-is_lent.false)).room

pub returns-in-Frame : goal.returns-in-Frame
unfolding read_turn read_rows read_store read_said
returns-in-Frame c =
    let b = sym c.is_lent.ensures ∙ c.if-not-is_lent.false in
    let y = frame_sooner c.args.at (record_now c.args.replay.ports c.args.replay.size c.args.last (drop c.args.at c.args.text.now)) _ _ _ _ _ (sym c.record_now.ensures ∙ c.in-Frame.is) in
    let p = payload_placed c.args.at _ _ y.0 c.args.replay.size c.args.text.now in
    rw (b, y.2) (c.framed.ensures ∙ framed_placed c.args.at _ _ y.1 c.args.replay, rw p at c.take_frame.ensures.0, rw p at c.take_frame.ensures.1, refl)

pub returns-in-Malformed : goal.returns-in-Malformed
unfolding read_turn read_rows read_store read_said
returns-in-Malformed c =
    let b = sym c.is_lent.ensures ∙ c.if-not-is_lent.false in
    let y = malformed_sooner c.args.at (record_now c.args.replay.ports c.args.replay.size c.args.last (drop c.args.at c.args.text.now)) _ (sym c.record_now.ensures ∙ c.in-Malformed.is) in
    rw (b, y.1) (c.answered.ensures.0 ∙ answered_placed c.args.at _ _ y.0 _ _ _, refl, refl, c.answered.ensures.1)

pub returns-in-Long : goal.returns-in-Long
unfolding read_turn read_rows read_store read_said
returns-in-Long c =
    let b = sym c.is_lent.ensures ∙ c.if-not-is_lent.false in
    let y = long_sooner c.args.at (record_now c.args.replay.ports c.args.replay.size c.args.last (drop c.args.at c.args.text.now)) (sym c.record_now.ensures ∙ c.in-Long.is) in
    rw (b, y) (c.answered-in-Long.ensures.0 ∙ answered_placed c.args.at _ _ c.end_behind.ensures _ _ _, refl, refl, c.answered-in-Long.ensures.1)

pub returns-in-Unfinished : goal.returns-in-Unfinished
unfolding read_turn read_rows read_store read_said
returns-in-Unfinished c =
    let b = sym c.is_lent.ensures ∙ c.if-not-is_lent.false in
    elim c.in-Unfinished.is [
      | inl e ↦ rw (b, unfinished_sooner c.args.at (record_now c.args.replay.ports c.args.replay.size c.args.last (drop c.args.at c.args.text.now)) (sym c.record_now.ensures ∙ e)) (c.waiting.ensures, refl, refl, refl)
      | inr e ↦ rw (b, end_sooner c.args.at (record_now c.args.replay.ports c.args.replay.size c.args.last (drop c.args.at c.args.text.now)) (sym c.record_now.ensures ∙ e)) (c.waiting.ensures, refl, refl, refl)
    ]
