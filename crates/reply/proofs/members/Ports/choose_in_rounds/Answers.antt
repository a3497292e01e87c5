use Rattle.std.proofs.Common.{◌≡◌, ◌+◌, ◌-◌, suc, sym, ◌∙◌, arith}
use Rattle.reply.proofs.Keeping.{rounds_begin, rounds_end, rounds_none, rounds_on, rounds_over}
use Rattle.reply.proofs.members.Ports.choose_in_rounds.Goals as goal

pub loop-k-init : goal.loop-k-init
loop-k-init c = rounds_begin c.args.self.now.table.now c.args.self.now.count (c.args.self.now.count - 0) (omega arith)

pub returns-then-not-some_join : goal.returns-then-not-some_join
returns-then-not-some_join c =
    rounds_end c.args.self.now.table.now c.args.self.now.count (c.args.self.now.count - c.loop-k.k) c.loop-k.kept c.choose-chosen.result c.choose-chosen.ensures c.loop-k.invariant (sym c.some_join.ensures ∙ c.if-not-some_join.true)

pub loop-k-preserved : goal.loop-k-preserved
loop-k-preserved c =
    let e : c.args.self.now.count - c.loop-k.k ≡ suc (c.args.self.now.count - (c.loop-k.k + 1)) = omega arith in
    let j = sym c.some_join.ensures ∙ c.if-not-some_join.false in
    rounds_on c.args.self.now.table.now c.args.self.now.count (c.args.self.now.count - c.loop-k.k) (c.args.self.now.count - (c.loop-k.k + 1)) c.loop-k.kept c.choose-chosen.result _ c.choose-chosen.ensures c.loop-k.invariant e j c.keep_more.ensures

pub returns : goal.returns
returns c =
    let e : c.args.self.now.count - c.loop-k.k ≡ 0 = omega arith in
    rounds_over c.args.self.now.table.now c.args.self.now.count (c.args.self.now.count - c.loop-k.k) c.loop-k.kept c.choose.result c.choose.ensures c.loop-k.invariant (rounds_none c.args.self.now.table.now c.args.self.now.count (c.args.self.now.count - c.loop-k.k) c.loop-k.kept e)
