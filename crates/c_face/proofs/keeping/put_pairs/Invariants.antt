use Rattle.std.proofs.Common.{◌*◌, ◌/◌, ◌%◌, get_or}
use Rattle.ground.specs.Drawn.{Filling}
use Rattle.c_face.proofs.keeping.put_pairs.Given as goal

abbrev pub invariant-loop-i : goal.invariant-loop-i
invariant-loop-i g l = (d : _) → Filling l.at (2 * l.i) (λ k. g.T.Pair.side (get_or l.pairs (k / 2) d) (k % 2)) l.initial.out l.out
