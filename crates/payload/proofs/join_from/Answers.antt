-- `join_from` meets its contract: the answer by the sizes, and under 0 the joined frame.
use mathlib.Core.Path.{refl, sym, ◌∙◌}
use native.Mathlib.Omega.{arith}
use lib.ListN.{length}
use Rattle.payload.specs.Laws.Fits.{from_fits}
use Rattle.payload.proofs.join_from.Goals as goal

pub join_from-requires : goal.join_from-requires
join_from-requires c =
    let f = from_fits c.args.x c.args.p c.args.starts.now (length c.args.store.now) c.args.place (length c.args.out.now) (sym c.from.ensures ∙ c.in-Done.is) in
    (omega arith, f.members_in, f.frame_in)

pub returns-in-Done : goal.returns-in-Done
returns-in-Done c = rw (sym c.from.ensures ∙ c.in-Done.is) (refl, c.join_from.ensures)

pub returns-in-Range : goal.returns-in-Range
returns-in-Range c = rw (sym c.from.ensures ∙ c.in-Range.is) (refl, refl)

pub returns-in-Length : goal.returns-in-Length
returns-in-Length c = rw (sym c.from.ensures ∙ c.in-Length.is) (refl, refl)
