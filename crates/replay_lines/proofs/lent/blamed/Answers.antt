use Rattle.std.proofs.Common.{ℕ, List, get_or, sym, ap, length-take-le}
use Rattle.replay_lines.specs.Turn.{blamed_in}
use Rattle.replay_lines.proofs.lent.blamed.Goals as goal

pub slice_bounds-cause-end : goal.slice_bounds-cause-end
slice_bounds-cause-end c = sym (length-take-le c.args.count c.args.rows.now c.requires)

pub returns : goal.returns
unfolding blamed_in
returns c = ap (λ (l : List ℕ). get_or l 1 0) c.cause.ensures.1
