use mathlib.Core.Path.{◌∙◌}
use Rattle.std.proofs.Common.{arith, sym}
use Rattle.sender.specs.Board.{rows_of}
use Rattle.ground.specs.Counting.Each.{done_none, done_more, done_all}
use Rattle.sender.proofs.Firsts.{higher_first}
use Rattle.sender.proofs.board.rows_of.Goals as goal

pub loop-i-init : goal.loop-i-init
loop-i-init c = done_none _ _

pub row_of-requires : goal.row_of-requires
row_of-requires c = (c.requires, omega arith, λ q. higher_first c.args.slots (omega arith) q (sym (c.top_of-top.ensures q)))

pub loop-i-preserved : goal.loop-i-preserved
loop-i-preserved c = done_more _ c.loop-i.invariant c.row_of.ensures

pub returns : goal.returns
unfolding rows_of
returns c = done_all {n = c.args.n} c.loop-i.invariant (omega arith) ∙ rw c.no_row-rows.ensures
