use Rattle.std.specs.Prelude.{◌/◌}
use Rattle.std.proofs.Common.{ap, ◌∙◌, arith}
use Rattle.payload.specs.Inner.Block.{turned}
use Rattle.payload.proofs.Shuffles.{none, halves, once_more}
use Rattle.payload.proofs.shuffle.turned.Goals as goal

pub loop-k-init : goal.loop-k-init
loop-k-init g c = none g.row.N c.args.q (omega arith)

pub shuffled-t-requires : goal.shuffled-t-requires
shuffled-t-requires g c =
    let all = halves g.row.N c.args.shuffles c.loop-k.k c.requires.1 c.loop-k-test.true in
    (omega (arith, c.requires), omega (arith, all))

pub loop-k-preserved : goal.loop-k-preserved
loop-k-preserved g c =
    c.shuffled-t.ensures ∙ ap (turned 2 (g.row.N / 2)) c.loop-k.invariant ∙ once_more g.row.N c.args.shuffles c.loop-k.k c.args.q c.requires.1 c.loop-k-test.true
