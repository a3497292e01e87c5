use mathlib.Core.Path.{◌≡◌, refl, ap, ◌∙◌}
use native.Mathlib.Numerals.{add-one}
use native.Mathlib.Omega.{arith}
use lib.ListN.{length}
use Rattle.receiver.specs.Report.{frames_into}
use Rattle.receiver.specs.Laws.Lengths.{length_frames_into}
use Rattle.receiver.proofs.joining.frames_joined.Goals as goal

pub loop-k-init : goal.loop-k-init
unfolding frames_into
loop-k-init c = refl

pub loop-k-preserved : goal.loop-k-preserved
unfolding frames_into
loop-k-preserved c = rw (add-one, ← c.loop-k.invariant) c.frame_into.ensures

pub shape_of-out : goal.shape_of-out
shape_of-out c = ap length c.loop-k.invariant ∙ length_frames_into _ _ _ _ _

pub returns : goal.returns
returns c = let e : c.loop-k.k ≡ c.args.count = omega arith in rw e at c.loop-k.invariant
