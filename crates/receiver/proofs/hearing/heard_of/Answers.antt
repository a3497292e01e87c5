use Rattle.std.proofs.Common.{◌≡◌, true, refl, sym, ◌∙◌, arith}
use Rattle.receiver.specs.Heard.{good_at}
use Rattle.receiver.specs.Laws.Heard.{heard_first, heard_none}
use Rattle.receiver.proofs.Reading.{good_is, none_more}
use Rattle.receiver.proofs.hearing.heard_of.Goals as goal

pub loop-port-init : goal.loop-port-init
loop-port-init c = refl

pub returns-then-one : goal.returns-then-one
returns-then-one c =
    let good : good_at c.args.group c.args.state.now c.loop-port.port ≡ true =
    sym (good_is c.args.group c.args.state.now c.loop-port.port _ c.seen_of-one.ensures) ∙ c.if-one.true in
    c.said_at.ensures
    ∙ sym (heard_first c.args.group c.args.state.now c.args.ports c.loop-port.port (omega arith) c.loop-port.invariant good)

pub loop-port-preserved : goal.loop-port-preserved
loop-port-preserved c =
    none_more (good_at c.args.group c.args.state.now) c.loop-port.port c.loop-port.invariant
    (sym (good_is c.args.group c.args.state.now c.loop-port.port _ c.seen_of-one.ensures) ∙ c.if-one.false)

pub returns : goal.returns
returns c =
    let e : c.loop-port.port ≡ c.args.ports = omega arith in
    sym (heard_none c.args.group c.args.state.now c.args.ports (rw e at c.loop-port.invariant))
