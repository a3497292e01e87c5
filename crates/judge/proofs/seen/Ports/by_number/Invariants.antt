-- Where every port is active with a number of its own below n, its rank is its number: after i turns the first i ports stand at their ranks
-- (`ranked_more`), and with all placed each rank has the definition's port (`placed_all`).
use Rattle.std.specs.Prelude.{◌≡◌, length}
use Rattle.judge.proofs.Placing.{placed_to}
use Rattle.judge.proofs.seen.Ports.by_number.Given as goal

abbrev pub invariant-loop-i : goal.invariant-loop-i
invariant-loop-i l = l.order ≡ placed_to l.port-items (length l.port-items) l.i
