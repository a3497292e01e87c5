-- The first k bytes are cut.
use Rattle.std.proofs.Common.{get_or}
use Rattle.ground.specs.Counting.Each.{Done}
use Rattle.store.specs.Marks.{cut_byte}
use Rattle.store.proofs.marks.cut.Given as goal

abbrev pub invariant-loop-k : goal.invariant-loop-k
invariant-loop-k l = Done l.k (λ j. cut_byte (get_or l.row j 0) j l.i) l.initial.marks l.marks
