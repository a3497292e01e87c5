use Rattle.std.specs.Prelude.{◌≡◌, ◌*◌, ◌/◌}
use Rattle.std.proofs.Common.{arith}
use Rattle.std.proofs.lemmas.List.{length-replicate}
use Rattle.ground.specs.Drawn.{filling_none, filling_all}
use Rattle.payload.proofs.Shuffles.{two_more}
use Rattle.payload.proofs.shuffle.shuffled.Goals as goal

pub loop-i-init : goal.loop-i-init
loop-i-init g c = (length-replicate g.row.N 0, filling_none _ _ _)

pub loop-i-preserved : goal.loop-i-preserved
loop-i-preserved g c = (c.loop-i.invariant.0, two_more (g.row.N / 2) c.args.q _ c.loop-i.invariant.1)

pub returns : goal.returns
returns g c =
    let e : 2 * c.loop-i.i ≡ g.row.N = omega arith in
    let two : 2 * (g.row.N / 2) ≡ g.row.N = omega (arith, c.requires) in
    rw two (filling_all (rw e at c.loop-i.invariant.1) c.loop-i.invariant.0)
