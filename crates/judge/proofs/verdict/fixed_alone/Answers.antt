use Rattle.std.specs.Prelude.{[], ◌∷◌}
use Rattle.judge.proofs.Alone.{fixed_exact_alone, none_repeats}
use Rattle.judge.proofs.Judging.{by_fixed}
use Rattle.judge.proofs.verdict.fixed_alone.Goals as goal

pub returns : goal.returns
returns c = by_fixed (c.args.port ∷ []) 1 c.tallied_alone.result _ _ _ c.tallied_alone.ensures (none_repeats _) (fixed_exact_alone _ _ c.has_zero.ensures) c.fixed_cause.ensures
