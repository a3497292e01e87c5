use mathlib.Core.Path.{sym, ◌∙◌}
use Prim.Native.Nat.{◌<◌}
use native.Mathlib.Omega.{arith}
use Rattle.reply.specs.Laws.Claims.{keeps_elapsed}
use Rattle.reply.proofs.waiting.without_claim.Goals as goal

pub overflow_add-result : goal.overflow_add-result
overflow_add-result c =
    let h : c.args.port.elapsed < c.args.port.hold_off = keeps_elapsed c.args.chosen c.args.i c.args.port (sym c.keeps_number.ensures ∙ c.if-keeps_number.true) in
    omega arith

pub returns-then-keeps_number : goal.returns-then-keeps_number
returns-then-keeps_number c = rw (← c.keeps_number.ensures, c.if-keeps_number.true)

pub returns : goal.returns
returns c = rw (← c.keeps_number.ensures, c.if-keeps_number.false)
