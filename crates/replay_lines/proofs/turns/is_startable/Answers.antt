use Rattle.std.proofs.Common.{sym, ◌∙◌, arith}
use Rattle.replay_lines.specs.Laws.Starts.{small, start_in, start_out}
use Rattle.replay_lines.proofs.turns.is_startable.Goals as goal

pub returns-then-not-is_startable : goal.returns-then-not-is_startable
returns-then-not-is_startable c = start_out c.args.settings c.args.store (sym c.is_startable.ensures ∙ c.if-not-is_startable.true)

pub times_fit-times-requires : goal.times_fit-times-requires
times_fit-times-requires c = (small c.args.settings (sym c.is_startable.ensures ∙ c.if-not-is_startable.false)).ports_most

pub overflow_cast-settings : goal.overflow_cast-settings
overflow_cast-settings c = omega (arith, (small c.args.settings (sym c.is_startable.ensures ∙ c.if-not-is_startable.false)).ports_most)

pub overflow_cast-settings-2 : goal.overflow_cast-settings-2
overflow_cast-settings-2 c = omega (arith, (small c.args.settings (sym c.is_startable.ensures ∙ c.if-not-is_startable.false)).size_most)

pub overflow_cast-settings-3 : goal.overflow_cast-settings-3
overflow_cast-settings-3 c = omega (arith, (small c.args.settings (sym c.is_startable.ensures ∙ c.if-not-is_startable.false)).narrow)

pub returns : goal.returns
returns c = start_in c.args.settings c.args.store (sym c.is_startable.ensures ∙ c.if-not-is_startable.false) c.times_fit-times.result c.store_of-bytes.result c.times_fit-times.ensures c.store_of-bytes.ensures
