use Rattle.spoken.proofs.InRuns.{slots_listed, slots_many}
use Rattle.spoken.proofs.telling.slots_speak.Goals as goal

pub returns-then-count-le64 : goal.returns-then-count-le64
returns-then-count-le64 c = slots_listed c.args.rows.now c.args.count _ _ c.told-rows c.if-count-le64.true c.from.ensures c.rows_speak.ensures

pub returns-else-count-le64 : goal.returns-else-count-le64
returns-else-count-le64 c = slots_many c.args.rows.now c.args.count c.if-count-le64.false
