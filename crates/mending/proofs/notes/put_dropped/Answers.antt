use lib.Seq.{slice}
use native.Mathlib.Omega.{arith}
use Rattle.mending.specs.Laws.Noting.{dropped_put}
use Rattle.mending.specs.Laws.Copies.{part_is}
use Rattle.mending.proofs.notes.put_dropped.Goals as goal

pub returns : goal.returns
returns c =
    let a = c.requires.0 in
    let b = c.requires.1 in
    dropped_put c.args.number (slice c.args.at c.args.end c.args.text.now) c.args.notes.now c.args.start c.requires.2
    c.put_decimal-second.ensures c.put-third.ensures (rw (part_is c.args.at c.args.end c.args.text.now a (omega arith)) at c.put-fourth.ensures) c.put.ensures
