use Rattle.std.proofs.Common.{arith}
use Rattle.step.specs.Theorems.Run.{count_fits}
use Rattle.step.proofs.run.further.Goals as goal

pub overflow_add-result : goal.overflow_add-result
overflow_add-result c = omega (arith, count_fits c.args.kind c.args.run.count c.requires)
