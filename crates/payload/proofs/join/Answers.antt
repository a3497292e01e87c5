-- Under 0 the frame is the joined one, and under 4 and 9 it stays: one case for each answer.
-- The answer 0 says that both lengths are X P, which the work requires (`whole_fits`).
use mathlib.Core.Path.{refl, sym, ◌∙◌}
use lib.ListN.{length}
use Rattle.payload.specs.Laws.Fits.{whole_fits}
use Rattle.payload.proofs.join.Goals as goal

pub join-requires : goal.join-requires
join-requires c =
    let f = whole_fits c.args.x c.args.p (length c.args.members.now) (length c.args.frame.now) (sym c.whole.ensures ∙ c.in-Done.is) in
    (f.size.ranks, f.size.most, f.from_is, f.to_is)

pub returns-in-Done : goal.returns-in-Done
returns-in-Done c = rw (sym c.whole.ensures ∙ c.in-Done.is) (refl, c.join.ensures)

pub returns-in-Range : goal.returns-in-Range
returns-in-Range c = rw (sym c.whole.ensures ∙ c.in-Range.is) (refl, refl)

pub returns-in-Length : goal.returns-in-Length
returns-in-Length c = rw (sym c.whole.ensures ∙ c.in-Length.is) (refl, refl)
