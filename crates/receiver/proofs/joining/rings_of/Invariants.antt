-- The first x places hold the rings' starts of the ranked ports, the others 0: after each turn the places below the rank are done (`Done`).
use Rattle.std.proofs.Common.{◌≡◌, ◌≤◌, ◌+◌, ◌*◌, length, get_or}
use Rattle.ground.specs.Counting.Each.{Done}
use Rattle.receiver.proofs.joining.rings_of.Given as goal

abbrev pub invariant-loop-rank : goal.invariant-loop-rank
invariant-loop-rank l =
    (length l.initial.rings ≡ 64)
    × (length l.ports ≡ 64)
    × (l.n ≤ 64)
    × Done l.rank (λ r. get_or l.ports r 0 * l.group.window * (l.group.payload + 1)) l.initial.rings l.rings
