-- `listed` meets its contract. By the loop: of the first i candidates those in the stretch are listed, and so many are counted.
use Rattle.std.proofs.Common.{◌≡◌}
use Rattle.ground.specs.Counting.Words.{count as count_of}
use Rattle.paths.specs.Planning.{in_stretch, padded}
use Rattle.paths.specs.Planning.{listed as listed_to}
use Rattle.paths.proofs.planning.listed.Given as goal

abbrev pub invariant-loop-i : goal.invariant-loop-i
invariant-loop-i l = (l.count ≡ count_of l.i (in_stretch l.ranks l.first l.k)) × (l.paths ≡ padded (listed_to l.i (in_stretch l.ranks l.first l.k)))
