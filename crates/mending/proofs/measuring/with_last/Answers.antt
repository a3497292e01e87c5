use Rattle.mending.specs.Laws.Counting.{end_turn, told_none}
use mathlib.Core.Path.{◌≡◌}
use native.Mathlib.Omega.{arith}
use Rattle.mending.proofs.measuring.with_last.Goals as goal

pub loop-i-init : goal.loop-i-init
loop-i-init c = (omega arith, omega arith, omega arith, told_none c.args.before (omega arith))

pub bounds-follows-i : goal.bounds-follows-i
bounds-follows-i c = let i = c.loop-i.invariant.1 in omega arith

pub bounds-keys-i : goal.bounds-keys-i
bounds-keys-i c = let i = c.loop-i.invariant.2 in omega arith

pub loop-i-preserved : goal.loop-i-preserved
loop-i-preserved c =
    let i = c.loop-i.invariant in
    (omega arith, i.1, i.2, end_turn c.args.follows.now c.args.keys.now c.loop-i.i c.args.before c.loop-i.notes c.restored_length-noted.result c.more-notes.result c.is_last-is.result i.3 c.is_last-is.ensures c.restored_length-noted.ensures.0 c.more-notes.ensures)

pub returns : goal.returns
returns c = let i = c.loop-i.invariant.3 in let e : c.loop-i.i ≡ 64 = omega arith in rw e at i
