use mathlib.Core.Path.{refl}
use native.Mathlib.Omega.{arith}
use Rattle.ground.specs.Counting.Each.{done_none, done_more, done_table}
use Rattle.c_cards.specs.Cards.{owners_in}
use Rattle.c_cards.proofs.card_calls.owners_in.Goals as goal

pub loop-i-init : goal.loop-i-init
loop-i-init c = (refl, omega arith, done_none _ _)

pub loop-i-preserved : goal.loop-i-preserved
loop-i-preserved c = (c.loop-i.invariant.0, omega arith, done_more _ c.loop-i.invariant.2 refl)

pub returns : goal.returns
unfolding owners_in
returns c = done_table {n = 64} c.loop-i.invariant.2 (omega arith) c.loop-i.invariant.0
