use Rattle.std.proofs.Common.{◌≡◌, ◌∙◌, ap, arith, sym}
use Rattle.std.specs.Prelude.{length}
use Rattle.judge.specs.Named.{cause_number}
use Rattle.judge.proofs.Blaming.{blamed_first, blamed_none}
use Rattle.judge.proofs.seen.Ports.blamed_by.Goals as goal

pub returns-then-is_applied : goal.returns-then-is_applied
returns-then-is_applied c =
    blamed_first c.args.self.now (length c.args.self.now) (cause_number c.args.cause) c.highest-top.result c.highest-top.ensures c.loop-i.i (omega (arith, ap length c.self.view_is)) c.loop-i.invariant (sym c.is_applied.ensures ∙ c.if-is_applied.true)

pub returns : goal.returns
returns c =
    let e : c.loop-i.i ≡ length c.args.self.now = omega (arith, ap length c.self.view_is) in
    blamed_none c.args.self.now (length c.args.self.now) (cause_number c.args.cause) c.highest-top.result c.highest-top.ensures (rw e at c.loop-i.invariant)
