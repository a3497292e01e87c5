use Rattle.phases.proofs.Passed.{both, not_both}
use Rattle.phases.proofs.passing.good_byte.Goals as goal

pub returns-then-whole-good : goal.returns-then-whole-good
returns-then-whole-good c = both c.args.whole c.args.good _ _ c.if-whole-good.true

pub returns-else-whole-good : goal.returns-else-whole-good
returns-else-whole-good c = not_both c.args.whole c.args.good _ _ c.if-whole-good.false
