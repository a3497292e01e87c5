use lib.ListN.{length}
use Rattle.payload.proofs.Frames.{one_ranked, one_rankless}
use Rattle.payload.proofs.plain.spread_one.Goals as goal

pub returns-then-r-x : goal.returns-then-r-x
returns-then-r-x c =
    one_ranked c.args.x c.args.p c.args.r c.args.frame.now c.args.to.now _ c.if-r-x.true c.requires.1 c.member.ensures

pub returns-else-r-x : goal.returns-else-r-x
returns-else-r-x c =
    one_rankless c.args.x c.args.p c.args.r (length c.args.to.now) c.args.frame.now _ c.if-r-x.false c.requires.1 c.clear.ensures
