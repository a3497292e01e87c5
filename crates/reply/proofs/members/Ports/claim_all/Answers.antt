use Rattle.std.proofs.Common.{◌≡◌, ◌<◌, ◌∙◌, refl, add-one, arith}
use Rattle.std.proofs.lemmas.List.{get_or-take}
use Rattle.reply.specs.Choosing.{claims, granted}
use Rattle.reply.proofs.members.Ports.claim_all.Goals as goal

pub loop-i-init : goal.loop-i-init
unfolding claims granted
loop-i-init c = refl

pub loop-i-preserved : goal.loop-i-preserved
unfolding claims granted
loop-i-preserved c =
    let h : c.loop-i.i < c.args.self.now.count = omega (arith, c.all-port-items.ensures.many) in
    c.claim_one.ensures ∙ rw (c.all-port-items.ensures.first, get_or-take c.args.self.now.count c.args.self.now.table.now c.loop-i.i _ h, c.loop-i.invariant, add-one)

pub returns : goal.returns
returns c = let e : c.loop-i.i ≡ c.args.self.now.count = omega (arith, c.all-port-items.ensures.many) in rw e at c.loop-i.invariant
