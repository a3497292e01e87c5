-- The first k bytes are passed.
use Rattle.ground.specs.Counting.Each.{Done}
use Rattle.store.proofs.Rows.{passed_at}
use Rattle.store.proofs.marks.pass.Given as goal

abbrev pub invariant-loop-k : goal.invariant-loop-k
invariant-loop-k l = Done l.k (passed_at l.row) l.initial.marks l.marks
