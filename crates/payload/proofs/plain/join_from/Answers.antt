use mathlib.Core.Path.{◌≡◌, refl}
use native.Mathlib.Omega.{arith}
use Rattle.ground.specs.Drawn.{drawing_none}
use Rattle.payload.specs.Joining.{started_byte}
use Rattle.payload.proofs.Areas.{area_no_column}
use Rattle.payload.proofs.Frames.{rank_more, ranks_all}
use Rattle.payload.proofs.plain.join_from.Goals as goal

pub loop-r-init : goal.loop-r-init
loop-r-init c = (omega arith, drawing_none _ _ _ (area_no_column _ _ 0 _ 0))

pub column-requires : goal.column-requires
column-requires c = (omega arith, c.requires.1 _ c.loop-r-test.true, omega arith)

pub loop-r-preserved : goal.loop-r-preserved
loop-r-preserved c = (
  omega arith,
  rank_more c.args.x c.args.p c.args.place (started_byte c.args.starts.now c.args.store.now) c.loop-r.r _ _ c.loop-r.invariant.1 c.column.ensures (λ j. refl),
)

pub shape_of-out : goal.shape_of-out
shape_of-out c = c.loop-r.invariant.1.len

pub returns : goal.returns
returns c =
    let e : c.loop-r.r ≡ c.args.x = omega arith in
    ranks_all c.args.x c.args.p c.args.place (started_byte c.args.starts.now c.args.store.now) (rw e at c.loop-r.invariant.1)
