use Rattle.std.proofs.Common.{◌≡◌, arith, inl, inr, length}
use Rattle.spoken.proofs.Fitting.{fits_each, fits_large, fits_not}
use Rattle.spoken.proofs.applying.does_fit.Goals as goal
use Rattle.spoken.proofs.applying.does_fit.Goals.{then-board-gt64-via-then-board-gt64, then-board-gt64-via-else-board-gt64+then-changes-gt64}

pub returns-then-board-gt64 : goal.returns-then-board-gt64
returns-then-board-gt64 c =
    fits_large c.args.board.now c.args.changes.now
    (elim c.then-board-gt64.branch [ then-board-gt64-via-then-board-gt64 w ↦ inl w.if-board-gt64.true | then-board-gt64-via-else-board-gt64+then-changes-gt64 w ↦ inr (w.if-board-gt64.false, w.if-changes-gt64.true) ])

pub returns-then-wait_fits : goal.returns-then-wait_fits
returns-then-wait_fits c =
    let l : length c.args.changes.now.list ≡ 64 = omega arith in
    fits_each c.args.board.now c.args.changes.now c.if-board-gt64.false c.if-changes-gt64.false _ c.wait_fits.ensures c.if-wait_fits.true _ _ c.as_slice.ensures l c.changes_fit.ensures

pub returns-else-wait_fits : goal.returns-else-wait_fits
returns-else-wait_fits c =
    fits_not c.args.board.now c.args.changes.now c.if-board-gt64.false c.if-changes-gt64.false _ c.wait_fits.ensures c.if-wait_fits.false
