-- The invariant: the block is turned by the shuffles so far.
use Rattle.std.specs.Prelude.{◌≡◌, ◌/◌, ◌^◌}
use Rattle.payload.specs.Inner.Block.{turned}
use Rattle.payload.proofs.shuffle.turned.Given as goal

abbrev pub invariant-loop-k : goal.invariant-loop-k
invariant-loop-k g l = l.t ≡ turned (2 ^ l.k) (g.row.N / 2 ^ l.k) l.fn.q
