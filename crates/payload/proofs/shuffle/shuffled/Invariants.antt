-- The invariant: the first 2 i bytes are in place.
use Rattle.std.specs.Prelude.{◌≡◌, ◌+◌, ◌*◌, ◌/◌, ◌%◌, length, get_or}
use Rattle.ground.specs.Drawn.{Filling}
use Rattle.payload.proofs.shuffle.shuffled.Given as goal

abbrev pub invariant-loop-i : goal.invariant-loop-i
invariant-loop-i g l = (length l.initial.s ≡ g.row.N) × Filling 0 (2 * l.i) (λ k. get_or l.q (k % 2 * (g.row.N / 2) + k / 2) 0) l.initial.s l.s
