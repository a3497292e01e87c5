-- `read_pairs` meets its contract: the pairs read so far and the fields of the rest give what the first pairs and all fields give.
use Rattle.std.proofs.Common.{◌≡◌, length}
use Rattle.recording.specs.Pairs.{pairs_from}
use Rattle.text.specs.Text.{fields_of}
use Rattle.recording.proofs.pairs.read_pairs.Given as goal

abbrev pub invariant-loop-field : goal.invariant-loop-field
invariant-loop-field l = pairs_from l.initial.pairs (fields_of l.initial.rest) ≡ pairs_from l.pairs (fields_of l.rest)

abbrev pub decreases-loop-field : goal.decreases-loop-field
decreases-loop-field l = length l.rest
