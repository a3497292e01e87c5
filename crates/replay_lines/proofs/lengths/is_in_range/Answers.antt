use Rattle.std.proofs.Common.{sym, ◌∙◌}
use Rattle.replay_lines.specs.Laws.Starts.{range_in, range_out, small}
use Rattle.replay_lines.proofs.lengths.is_in_range.Goals as goal

pub times_fit-requires : goal.times_fit-requires
times_fit-requires c = (small c.args.settings (sym c.is_startable.ensures ∙ c.if-is_startable.true)).ports_most

pub returns-then-is_startable : goal.returns-then-is_startable
returns-then-is_startable c = c.times_fit.ensures ∙ range_in c.args.settings (sym c.is_startable.ensures ∙ c.if-is_startable.true)

pub returns : goal.returns
returns c = range_out c.args.settings (sym c.is_startable.ensures ∙ c.if-is_startable.false)
