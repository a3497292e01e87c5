use Rattle.std.proofs.Common.{◌≡◌, arith, refl}
use Rattle.ground.specs.Counting.Each.{done_more, done_none, done_table}
use Rattle.spoken.specs.SpeakingRuns.{standing}
use Rattle.spoken.proofs.telling.standing_in.Goals as goal

pub loop-i-init : goal.loop-i-init
loop-i-init c = done_none _ _

pub loop-i-preserved : goal.loop-i-preserved
loop-i-preserved c = done_more _ c.loop-i.invariant refl

pub returns : goal.returns
unfolding standing
returns c = let e : c.loop-i.i ≡ 64 = omega arith in done_table c.loop-i.invariant e refl
