use Rattle.std.proofs.Common.{◌≡◌, ◌∙◌, arith, length, sym}
use Rattle.spoken.specs.Theorems.NothingLost.{applied_whole, board_left}
use Rattle.spoken.proofs.Fitting.{applied_done, applied_refused, fit_slots, laid_taken, taken_slots}
use Rattle.spoken.proofs.applying.apply.Goals as goal

pub returns-then-not-does_fit-clause-told : goal.returns-then-not-does_fit-clause-told
returns-then-not-does_fit-clause-told c = applied_refused c.args.board c.args.changes _ c.does_fit.ensures c.if-not-does_fit.true

pub lay-requires : goal.lay-requires
lay-requires c =
    taken_slots c.args.changes.list c.args.changes.count _ c.as_slice.ensures (fit_slots c.args.board c.args.changes (sym c.does_fit.ensures ∙ c.if-not-does_fit.false))

pub returns-clause-told : goal.returns-clause-told
returns-clause-told c =
    let l : length c.args.changes.list ≡ 64 = omega arith in
    applied_done c.args.board c.args.changes _ _ _ c.does_fit.ensures c.if-not-does_fit.false
    (laid_taken c.args.board c.args.changes (sym c.does_fit.ensures ∙ c.if-not-does_fit.false) l _ _ c.as_slice.ensures c.lay.ensures) c.wait_after.ensures

pub returns-then-not-does_fit-clause-left : goal.returns-then-not-does_fit-clause-left
returns-then-not-does_fit-clause-left c = board_left c.args.board (returns-then-not-does_fit-clause-told c) (applied_whole c.args.board c.args.changes)

pub returns-clause-left : goal.returns-clause-left
returns-clause-left c = board_left c.args.board (returns-clause-told c) (applied_whole c.args.board c.args.changes)
