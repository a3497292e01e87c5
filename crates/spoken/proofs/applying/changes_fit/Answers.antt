use Rattle.std.proofs.Common.{◌≡◌, arith, length, refl, sym}
use Rattle.spoken.specs.Applying.{changes_fit}
use Rattle.spoken.proofs.Fitting.{fit_fails, fit_on}
use Rattle.spoken.proofs.applying.changes_fit.Goals as goal

pub loop-k-init : goal.loop-k-init
unfolding changes_fit
loop-k-init c = refl

pub returns-then-not-fits_by : goal.returns-then-not-fits_by
returns-then-not-fits_by c =
    fit_fails c.args.rows.now c.args.count c.args.changes.now c.loop-k.k c.requires c.fits_by.result (rw (c.from.ensures, c.rises_at.ensures) at c.fits_by.ensures)
    (length c.args.changes.now) c.loop-k-test.true c.if-not-fits_by.true

pub loop-k-preserved : goal.loop-k-preserved
loop-k-preserved c =
    fit_on c.args.rows.now c.args.count c.args.changes.now c.loop-k.k c.requires c.fits_by.result (rw (c.from.ensures, c.rises_at.ensures) at c.fits_by.ensures)
    c.loop-k.invariant c.if-not-fits_by.false

pub returns : goal.returns
returns c = let e : c.loop-k.k ≡ length c.args.changes.now = omega arith in sym (rw e at c.loop-k.invariant)
