use Rattle.std.proofs.Common.{◌<◌, ◌∙◌, arith}
use Rattle.std.proofs.lemmas.List.{get_or-take}
use Rattle.ground.specs.Counting.Each.{done_more, done_all}
use Rattle.reply.proofs.members.Ports.standings_by.Goals as goal

pub loop-i-preserved : goal.loop-i-preserved
loop-i-preserved c =
    let h : c.loop-i.i < c.args.self.now.count = omega (arith, c.all-port-items.ensures.many) in
    done_more _ c.loop-i.invariant (c.standing_by.ensures ∙ rw (c.all-port-items.ensures.first, get_or-take c.args.self.now.count c.args.self.now.table.now c.loop-i.i _ h))

pub returns : goal.returns
returns c = done_all {n = c.args.self.now.count} c.loop-i.invariant (omega (arith, c.all-port-items.ensures.many))
