use Rattle.std.proofs.Common.{◌≡◌, ◌∙◌, ap, add-one, arith}
use Rattle.std.specs.Prelude.{length}
use Rattle.ground.specs.Counting.Laws.Numbers.{count_le}
use Rattle.judge.specs.declared.verdict.Tally.{Tally}
use Rattle.judge.specs.Seen.{numbered_seen, seen_at}
use Rattle.judge.proofs.seen.Ports.tally.Goals as goal

pub with-tally-requires : goal.with-tally-requires
with-tally-requires c =
    omega (arith, ap (λ (t : Tally). t.numbered) c.loop-port.invariant, count_le c.loop-port.port-index (λ j. numbered_seen (seen_at c.self.inside.seen.now j)))

pub loop-port-preserved : goal.loop-port-preserved
loop-port-preserved c = c.with-tally.ensures ∙ rw (c.loop-port.invariant, add-one)

pub returns : goal.returns
returns c =
    let e : c.loop-port.port-index ≡ length c.self.inside.seen.now = omega arith in
    rw (← c.self.view_is) (rw e at c.loop-port.invariant)
