use Rattle.mending.specs.Laws.Counting.{number_told}
use lib.ListN.{replicate}
use mathlib.Core.Path.{refl}
use Rattle.mending.proofs.measuring.number_length.Goals as goal

pub returns : goal.returns
returns c = number_told c.args.number (replicate 21 0) refl c.put_decimal.result c.put_decimal.ensures.0
