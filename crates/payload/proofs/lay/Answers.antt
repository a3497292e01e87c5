-- `lay` meets its contract: bytes that fit are in place, and where they do not all stays.
use native.Mathlib.Omega.{arith}
use Rattle.payload.proofs.Copies.{laid_in, laid_none}
use Rattle.payload.proofs.lay.Goals as goal

pub returns-then-place-to : goal.returns-then-place-to
returns-then-place-to c =
    laid_in c.args.from.now c.args.place c.args.to.now _ (omega arith) c.run.ensures

pub returns-else-place-to : goal.returns-else-place-to
returns-else-place-to c = let a = c.args in laid_none a.from.now a.place a.to.now (omega arith)

pub returns-else-n-to : goal.returns-else-n-to
returns-else-n-to c = let a = c.args in laid_none a.from.now a.place a.to.now (omega arith)
