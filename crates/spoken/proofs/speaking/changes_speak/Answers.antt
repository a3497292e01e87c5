use Rattle.std.proofs.Common.{◌≡◌, arith, length, refl, sym}
use Rattle.spoken.specs.Speaking.{changes_speak}
use Rattle.spoken.proofs.Saying.{speak_fails, speak_on}
use Rattle.spoken.proofs.speaking.changes_speak.Goals as goal

pub loop-k-init : goal.loop-k-init
unfolding changes_speak
loop-k-init c = refl

pub returns-then-not-speaks_by : goal.returns-then-not-speaks_by
returns-then-not-speaks_by c =
    speak_fails c.args.changes.now c.loop-k.k c.speaks_by.result (rw c.rises_at.ensures at c.speaks_by.ensures) (length c.args.changes.now) c.loop-k-test.true c.if-not-speaks_by.true

pub loop-k-preserved : goal.loop-k-preserved
loop-k-preserved c =
    speak_on c.args.changes.now c.loop-k.k c.speaks_by.result (rw c.rises_at.ensures at c.speaks_by.ensures) c.loop-k.invariant c.if-not-speaks_by.false

pub returns : goal.returns
returns c = let e : c.loop-k.k ≡ length c.args.changes.now = omega arith in sym (rw e at c.loop-k.invariant)
