use native.Mathlib.Omega.{arith}
use Rattle.sender.specs.Epochs.{ranks_of}
use Rattle.sender.specs.Laws.Sizes.{size_le}
use Rattle.sender.proofs.Firsts.{carriers_first}
use Rattle.sender.proofs.epochs.Sender.ranks.Goals as goal

pub ranks_in-requires : goal.ranks_in-requires
ranks_in-requires c = rw c.size-n.ensures.value (size_le _)

pub overflow_cast-result : goal.overflow_cast-result
overflow_cast-result c = rw c.size-n.ensures.value (omega arith)

pub returns : goal.returns
unfolding ranks_of
returns c = rw (carriers_first c.args.self.ruling.rows (omega arith) c.carriers.ensures, c.ranks_in.ensures, c.size-n.ensures.value)
