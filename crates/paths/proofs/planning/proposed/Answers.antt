-- `proposed` meets its contract: the tightest stretch listed, or nothing where it is too wide. Each exit cites one law, with what the calls before it give.
use Rattle.std.proofs.Common.{◌∙◌, arith}
use Rattle.paths.proofs.Answering.{proposed_none, proposed_some, stretch_fits}
use Rattle.paths.proofs.planning.proposed.Goals as goal

pub listed-requires : goal.listed-requires
listed-requires c = let a = c.args in let l = stretch_fits a.delays.now a.k a.room c.ranked-ranks.result c.sorted-sorted.result c.tightest-stretch.result c.ranked-ranks.ensures c.sorted-sorted.ensures c.tightest-stretch.ensures (omega arith) in (omega arith, omega arith)

pub returns-then-stretch-room : goal.returns-then-stretch-room
returns-then-stretch-room c = let a = c.args in c.listed.ensures ∙ proposed_some a.delays.now a.k a.room c.ranked-ranks.result c.sorted-sorted.result c.tightest-stretch.result c.ranked-ranks.ensures c.sorted-sorted.ensures c.tightest-stretch.ensures c.if-stretch-room.true

pub returns-else-stretch-room : goal.returns-else-stretch-room
returns-else-stretch-room c = let a = c.args in proposed_none a.delays.now a.k a.room c.ranked-ranks.result c.sorted-sorted.result c.tightest-stretch.result c.ranked-ranks.ensures c.sorted-sorted.ensures c.tightest-stretch.ensures c.if-stretch-room.false
