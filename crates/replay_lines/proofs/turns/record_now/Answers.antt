use Rattle.std.proofs.Common.{drop}
use Rattle.replay_lines.specs.Laws.Placed.{now_later}
use Rattle.replay_lines.proofs.turns.record_now.Goals as goal

pub returns-then-is_open-last : goal.returns-then-is_open-last
returns-then-is_open-last c =
    rw (← now_later c.args.ports c.args.size c.args.at c.args.last (drop c.args.at c.args.text.now), ← c.record_at-found.ensures, ← c.is_open.ensures, c.if-is_open-last.true) c.last_record.ensures

pub returns : goal.returns
returns c =
    rw (← now_later c.args.ports c.args.size c.args.at c.args.last (drop c.args.at c.args.text.now), ← c.record_at-found.ensures, ← c.is_open.ensures, c.if-is_open-last.false)
