use mathlib.Core.Path.{◌≡◌, refl}
use native.Mathlib.Omega.{arith}
use lib.ListN.{length}
use Rattle.c_cards.proofs.Ordering.{bytes_all, bytes_length, bytes_next, in_list, list_all, list_length, list_next}
use Rattle.c_cards.proofs.commands.each.Goals as goal

pub loop-i-init : goal.loop-i-init
loop-i-init c = (omega arith, refl, refl)

pub bounds-answers-i : goal.bounds-answers-i
bounds-answers-i c =
    in_list c.args.state.now c.args.commands.now c.args.answers.now c.loop-i.i _ c.loop-i.invariant.2 c.requires c.loop-i-test.true

pub loop-i-preserved : goal.loop-i-preserved
loop-i-preserved c = (
  omega arith,
  bytes_next c.args.state.now c.args.commands.now c.loop-i.i _ _ c.loop-i.invariant.1 c.one-answer.ensures.1,
  list_next c.args.state.now c.args.commands.now c.args.answers.now c.loop-i.i _ _ _ c.loop-i.invariant.1 c.loop-i.invariant.2 c.one-answer.ensures.0,
)

pub shape_of-state : goal.shape_of-state
shape_of-state c =
    bytes_length c.args.state.now c.args.commands.now c.loop-i.i _ c.loop-i.invariant.1

pub shape_of-answers : goal.shape_of-answers
shape_of-answers c =
    list_length c.args.state.now c.args.commands.now c.args.answers.now c.loop-i.i _ c.loop-i.invariant.2

pub returns : goal.returns
returns c =
    let e : c.loop-i.i ≡ length c.args.commands.now = omega arith in (
      bytes_all c.args.state.now c.args.commands.now c.loop-i.i _ e c.loop-i.invariant.1,
      list_all c.args.state.now c.args.commands.now c.args.answers.now c.loop-i.i _ c.requires e c.loop-i.invariant.2,
    )
