use Rattle.std.proofs.Common.{sym, ◌∙◌}
use Rattle.replay_lines.specs.Laws.Starts.{range_sized, small}
use Rattle.replay_lines.specs.Lengths.{lengths_in}
use Rattle.replay_lines.proofs.lengths.lengths_in.Goals as goal

pub lengths_with-requires : goal.lengths_with-requires
lengths_with-requires c = small c.args.settings (range_sized c.args.settings (sym c.is_in_range.ensures ∙ c.if-is_in_range.true))

pub returns-then-is_in_range : goal.returns-then-is_in_range
unfolding lengths_in
returns-then-is_in_range c = rw (sym c.is_in_range.ensures ∙ c.if-is_in_range.true) c.lengths_with.ensures

pub returns : goal.returns
unfolding lengths_in
returns c = rw (sym c.is_in_range.ensures ∙ c.if-is_in_range.false) c.none.ensures
