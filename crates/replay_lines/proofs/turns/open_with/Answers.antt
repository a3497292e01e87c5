use Rattle.std.proofs.Common.{◌-◌, sym, refl, ◌∙◌, arith}
use Rattle.replay_lines.specs.Laws.Placed.{answered_placed, turned_placed}
use Rattle.replay_lines.specs.Laws.Starts.{small, start_sized_lem}
use Rattle.replay_lines.specs.Turn.{open_with_rows, open_with_said, open_with_turn}
use Rattle.replay_lines.proofs.turns.open_with.Goals as goal

pub open_as-requires : goal.open_as-requires
open_as-requires c = (small c.args.settings (start_sized_lem c.args.settings c.args.store (sym c.is_startable.ensures ∙ c.if-is_startable.true)), c.requires.1)

pub returns-then-is_startable : goal.returns-then-is_startable
unfolding open_with_turn open_with_rows open_with_said
returns-then-is_startable c = let t = sym c.is_startable.ensures ∙ c.if-is_startable.true in
    rw t (c.open_as.ensures.0 ∙ turned_placed c.args.at c.args.next (c.args.next - c.args.at) (omega arith) _ _ _, c.open_as.ensures.1, refl)

pub returns : goal.returns
unfolding open_with_turn open_with_rows open_with_said
returns c = let t = sym c.is_startable.ensures ∙ c.if-is_startable.false in
    rw t (c.answered.ensures.0 ∙ answered_placed c.args.at c.args.at 0 (omega arith) _ _ _, refl, c.answered.ensures.1)
