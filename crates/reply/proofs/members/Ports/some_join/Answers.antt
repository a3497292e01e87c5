use Rattle.std.proofs.Common.{◌≡◌, ◌<◌, ◌∙◌, refl, sym, add-one, arith}
use Rattle.std.proofs.lemmas.List.{get_or-take}
use Rattle.ground.specs.Counting.Laws.Tests.{some_at}
use Rattle.reply.specs.Waiting.{some_join}
use Rattle.reply.proofs.members.Ports.some_join.Goals as goal

pub loop-i-init : goal.loop-i-init
unfolding some_join
loop-i-init c = refl

pub returns-then-joins_kept : goal.returns-then-joins_kept
unfolding some_join
returns-then-joins_kept c =
    let h : c.loop-i.i < c.args.self.now.count = omega (arith, c.all-port-items.ensures.many) in
    let here = rw (c.all-port-items.ensures.first, get_or-take c.args.self.now.count c.args.self.now.table.now c.loop-i.i _ h) at c.joins_kept.ensures in
    sym (some_at c.args.self.now.count _ c.loop-i.i h (sym here ∙ c.if-joins_kept.true))

pub loop-i-preserved : goal.loop-i-preserved
unfolding some_join
loop-i-preserved c =
    let h : c.loop-i.i < c.args.self.now.count = omega (arith, c.all-port-items.ensures.many) in
    let here = rw (c.all-port-items.ensures.first, get_or-take c.args.self.now.count c.args.self.now.table.now c.loop-i.i _ h) at c.joins_kept.ensures in
    rw (add-one, c.loop-i.invariant, ← here, c.if-joins_kept.false) refl

pub returns : goal.returns
returns c = let e : c.loop-i.i ≡ c.args.self.now.count = omega (arith, c.all-port-items.ensures.many) in sym (rw e at c.loop-i.invariant)
