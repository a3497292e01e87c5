use Rattle.std.proofs.Common.{◌≡◌, ◌∙◌, refl, arith}
use Rattle.ground.specs.Counting.Each.{done_none, done_more, done_table}
use Rattle.store.specs.Marks.{passed_marks}
use Rattle.store.proofs.Rows.{passed_in, passed_last}
use Rattle.store.proofs.marks.pass.Goals as goal

pub loop-k-init : goal.loop-k-init
loop-k-init c = done_none _ _

pub loop-k-preserved : goal.loop-k-preserved
loop-k-preserved c = done_more _ c.loop-k.invariant (c.passed_byte.ensures ∙ passed_in c.args.row c.loop-k.k (omega arith))

pub returns : goal.returns
unfolding passed_marks
returns c =
    let e : c.loop-k.k ≡ 15 = omega arith in
    done_table (done_more _ (rw e at c.loop-k.invariant) (passed_last c.args.row)) refl refl
