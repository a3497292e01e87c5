use mathlib.Core.Path.{◌≡◌}
use native.Mathlib.Numerals.{add-one}
use native.Mathlib.Omega.{arith}
use Rattle.phases.specs.Beginning.{foremost}
use Rattle.phases.proofs.starting.foremost.Goals as goal

pub loop-i-init : goal.loop-i-init
unfolding foremost
loop-i-init c = c.no_tag-fore.ensures

pub loop-i-preserved : goal.loop-i-preserved
unfolding foremost
loop-i-preserved c = rw (add-one, ← c.loop-i.invariant, ← c.get.ensures) c.further-fore.ensures

pub returns : goal.returns
returns c = let e : c.loop-i.i ≡ c.args.ports = omega arith in rw e at c.loop-i.invariant
