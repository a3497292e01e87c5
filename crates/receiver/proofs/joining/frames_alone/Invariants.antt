-- After k turns the output holds the first k group frames of the one member, as the definition lays them; its port is the order's first.
use mathlib.Core.Path.{◌≡◌}
use Rattle.receiver.specs.Report.{frames_into}
use Rattle.receiver.proofs.joining.frames_alone.Given as goal

abbrev pub invariant-loop-k : goal.invariant-loop-k
invariant-loop-k l = l.out ≡ frames_into l.group l.order l.store l.k l.initial.out
