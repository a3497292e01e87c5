use Rattle.std.proofs.Common.{ap, ◌∙◌}
use Rattle.replay_lines.specs.declared.turns.Replayed.{Replayed}
use Rattle.replay_lines.specs.Turn.{placed, store_by}
use Rattle.replay_lines.proofs.turns.open_all.Goals as goal

pub returns : goal.returns
unfolding placed
returns c =
    let o = c.open-done.ensures in
    (o.0, o.1, c.store_by.ensures ∙ ap (λ (q : Replayed). store_by q.replay.phase c.args.store.now) o.0, o.2)
