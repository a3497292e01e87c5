-- After some turns as many elements are done and the others as given (`Done`), by whatever the closure computes.
use Rattle.std.proofs.Common.{◌≡◌, ℕ}
use Rattle.ground.specs.Counting.Each.{Done}
use Rattle.receiver.proofs.each.put_each.Given as goal

abbrev pub invariant-loop-port : goal.invariant-loop-port
invariant-loop-port g l = (f : ℕ → g.row.T.Denot) → ((i : ℕ) (v : g.row.T.Denot) → goal.F-post g l.of i v → v ≡ f i) → Done l.port f l.initial.out l.out
