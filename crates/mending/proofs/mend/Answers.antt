use Rattle.mending.specs.Laws.Whole.{copy_asked, lines_within, mend_done, mend_other, mend_refused, notes_asked}
use native.Mathlib.Omega.{arith}
use Rattle.mending.proofs.mend.Goals as goal

pub returns-then-start-ne0 : goal.returns-then-start-ne0
returns-then-start-ne0 c = mend_refused c.args.recording.now c.opened-start.result c.opened-start.ensures c.if-start-ne0.true c.args.mended.now c.args.notes.now

pub lengths_from-told-requires : goal.lengths_from-told-requires
lengths_from-told-requires c = lines_within c.args.recording.now c.opened-start.result c.opened-start.ensures c.if-start-ne0.false

pub returns-then-not-mended-told : goal.returns-then-not-mended-told
returns-then-not-mended-told c =
    let g = c.well_formed.1.1.0.1 in
    mend_other c.args.recording.now c.opened-start.result c.opened-start.ensures c.if-start-ne0.false c.args.mended.now c.args.notes.now (omega arith) c.lengths_from-told.result c.lengths_from-told.ensures
    c.if-not-mended-told.true

pub copy_all-requires : goal.copy_all-requires
copy_all-requires c =
    let g = c.well_formed.1.1.0.1 in
    copy_asked c.args.recording.now c.opened-start.result c.opened-start.ensures c.if-start-ne0.false c.args.mended.now c.args.notes.now (omega arith) c.lengths_from-told.result c.lengths_from-told.ensures
    c.if-not-mended-told.false

pub put_notes-requires : goal.put_notes-requires
put_notes-requires c =
    let g = c.well_formed.1.1.0.1 in
    notes_asked c.args.recording.now c.opened-start.result c.opened-start.ensures c.if-start-ne0.false c.args.mended.now c.args.notes.now (omega arith) c.lengths_from-told.result c.lengths_from-told.ensures
    c.if-not-mended-told.false _ c.copy_all.ensures

pub returns : goal.returns
returns c =
    let g = c.well_formed.1.1.0.1 in
    mend_done c.args.recording.now c.opened-start.result c.opened-start.ensures c.if-start-ne0.false c.args.mended.now c.args.notes.now (omega arith) c.lengths_from-told.result c.lengths_from-told.ensures
    c.if-not-mended-told.false _ c.copy_all.ensures _ c.put_notes.ensures
