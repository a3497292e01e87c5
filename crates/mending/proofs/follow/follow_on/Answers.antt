use borrow.Author.Tests.{eq-eqb, ne_eqb, lt-ltb, le-ltb, not-false, not-true}
use Rattle.mending.proofs.follow.follow_on.Goals as goal

pub returns-then-not-f : goal.returns-then-not-f
returns-then-not-f c = rw (not-true c.args.f.begun c.if-not-f.true) c.gone_on.ensures

pub returns-then-o-f : goal.returns-then-o-f
returns-then-o-f c =
    rw (not-false c.args.f.begun c.if-not-f.false, eq-eqb c.args.o c.args.f.v c.if-o-f.true) c.gone_on-then-o-f.ensures

pub returns-then-f-lt3 : goal.returns-then-f-lt3
returns-then-f-lt3 c =
    rw (not-false c.args.f.begun c.if-not-f.false, ne_eqb c.args.o c.args.f.v c.if-o-f.false, lt-ltb c.args.f.pending 3 c.if-f-lt3.true)
    c.gone_on-then-f-lt3.ensures

pub returns : goal.returns
returns c =
    rw (not-false c.args.f.begun c.if-not-f.false, ne_eqb c.args.o c.args.f.v c.if-o-f.false, le-ltb c.args.f.pending 3 c.if-f-lt3.false, ← c.still_pending.ensures)
    c.gone_on-2.ensures
