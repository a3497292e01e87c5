use Rattle.std.proofs.Common.{inl, inr, length, drop, refl, sym, ◌∙◌, arith, le-leb}
use borrow.Author.Tests.{lt-leb}
use Rattle.recording.specs.Theorems.Later.{end_opens, malformed_opens, opening_later, settings_sooner, unfinished_opens}
use Rattle.recording.specs.Opening.{opening_in}
use Rattle.replay_lines.specs.Laws.Placed.{answered_placed}
use Rattle.replay_lines.specs.Turn.{open_rows, open_said, open_turn}
use Rattle.replay_lines.proofs.turns.open.Goals as goal

pub returns-then-said-lt-REPLAY_ROOM : goal.returns-then-said-lt-REPLAY_ROOM
unfolding open_turn open_rows open_said
returns-then-said-lt-REPLAY_ROOM c = elim c.then-said-lt-REPLAY_ROOM.either [
  | inl s ↦ rw (lt-leb 1219 (length c.args.said.now) s) (c.refused.ensures, refl, refl)
  | inr (s, r) ↦ rw (le-leb 1219 (length c.args.said.now) s, lt-leb 321 (length c.args.rows.now) r) (c.refused.ensures, refl, refl)
]

pub open_with-requires : goal.open_with-requires
open_with-requires c =
    let w = (settings_sooner c.args.at (opening_in 0 c.args.last (drop c.args.at c.args.text.now)) _ _ (sym (opening_later c.args.at c.args.last (drop c.args.at c.args.text.now)) ∙ (sym c.opening_at.ensures ∙ c.in-Settings.is))).0 in
    omega arith

pub returns-in-Settings : goal.returns-in-Settings
unfolding open_turn open_rows open_said
returns-in-Settings c =
    let w = (settings_sooner c.args.at (opening_in 0 c.args.last (drop c.args.at c.args.text.now)) _ _ (sym (opening_later c.args.at c.args.last (drop c.args.at c.args.text.now)) ∙ (sym c.opening_at.ensures ∙ c.in-Settings.is))).1 in
    rw (le-leb 1219 (length c.args.said.now) c.if-said-lt-REPLAY_ROOM.false, le-leb 321 (length c.args.rows.now) c.if-rows-lt-ROWS_MOST.false, w) c.open_with.ensures

pub returns-in-Malformed : goal.returns-in-Malformed
unfolding open_turn open_rows open_said
returns-in-Malformed c =
    let w = malformed_opens c.args.at (opening_in 0 c.args.last (drop c.args.at c.args.text.now)) (sym (opening_later c.args.at c.args.last (drop c.args.at c.args.text.now)) ∙ (sym c.opening_at.ensures ∙ c.in-Malformed.is)) in
    rw (le-leb 1219 (length c.args.said.now) c.if-said-lt-REPLAY_ROOM.false, le-leb 321 (length c.args.rows.now) c.if-rows-lt-ROWS_MOST.false, w) (c.answered.ensures.0 ∙ answered_placed c.args.at c.args.at 0 (omega arith) _ _ _, refl, c.answered.ensures.1)

pub returns-in-Unfinished : goal.returns-in-Unfinished
unfolding open_turn open_rows open_said
returns-in-Unfinished c = elim c.in-Unfinished.is [
  | inl e ↦ rw (le-leb 1219 (length c.args.said.now) c.if-said-lt-REPLAY_ROOM.false, le-leb 321 (length c.args.rows.now) c.if-rows-lt-ROWS_MOST.false, unfinished_opens c.args.at (opening_in 0 c.args.last (drop c.args.at c.args.text.now)) (sym (opening_later c.args.at c.args.last (drop c.args.at c.args.text.now)) ∙ (sym c.opening_at.ensures ∙ e))) (c.waiting.ensures, refl, refl)
  | inr e ↦ rw (le-leb 1219 (length c.args.said.now) c.if-said-lt-REPLAY_ROOM.false, le-leb 321 (length c.args.rows.now) c.if-rows-lt-ROWS_MOST.false, end_opens c.args.at (opening_in 0 c.args.last (drop c.args.at c.args.text.now)) (sym (opening_later c.args.at c.args.last (drop c.args.at c.args.text.now)) ∙ (sym c.opening_at.ensures ∙ e))) (c.waiting.ensures, refl, refl)
]
