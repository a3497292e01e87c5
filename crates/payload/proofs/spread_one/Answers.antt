-- Under 0 the member is the one of the frame's rank r, and under 4 and 9 it stays: one case for each answer.
-- The answer 0 says that the frame has X P bytes and the member P, which the work requires (`one_fits`).
use mathlib.Core.Path.{refl, sym, ◌∙◌}
use lib.ListN.{length}
use Rattle.payload.specs.Laws.Fits.{one_fits}
use Rattle.payload.proofs.spread_one.Goals as goal

pub spread_one-requires : goal.spread_one-requires
spread_one-requires c =
    let f = one_fits c.args.x c.args.p (length c.args.frame.now) (length c.args.member.now) (sym c.one.ensures ∙ c.in-Done.is) in
    (f.frame_is, f.member_is)

pub returns-in-Done : goal.returns-in-Done
returns-in-Done c = rw (sym c.one.ensures ∙ c.in-Done.is) (refl, c.spread_one.ensures)

pub returns-in-Range : goal.returns-in-Range
returns-in-Range c = rw (sym c.one.ensures ∙ c.in-Range.is) (refl, refl)

pub returns-in-Length : goal.returns-in-Length
returns-in-Length c = rw (sym c.one.ensures ∙ c.in-Length.is) (refl, refl)
