-- The tally, the repeats and the exactness of the numbers are the definition's, and so is the clause that decides (`by_fixed`).
-- Where `is_full` says so, each number below n is held by one port, which answers the two last without a walk.
use Rattle.std.specs.Prelude.{length}
use Rattle.std.proofs.Common.{◌∙◌, ap}
use Rattle.judge.specs.Tally.{exact_to}
use Rattle.judge.proofs.Judging.{by_fixed}
use Rattle.judge.proofs.seen.Ports.fixed_cause.Goals as goal

pub returns : goal.returns
returns c =
    by_fixed c.args.self.now (length c.args.self.now) c.tally.result _ _ _ c.tally.ensures c.has_repeats-repeated.ensures (c.is_exact-exact.ensures ∙ ap (exact_to _ _) (ap length c.self.view_is)) c.fixed_cause.ensures
