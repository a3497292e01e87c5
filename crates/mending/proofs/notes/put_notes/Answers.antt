use Rattle.mending.specs.Laws.Noting.{note_turn, noting_ends, noting_starts, turn_fits}
use mathlib.Core.Path.{sym, ◌∙◌}
use native.Mathlib.Omega.{arith}
use Rattle.mending.proofs.notes.put_notes.Goals as goal

pub loop-at-init : goal.loop-at-init
loop-at-init c = noting_starts c.args.ports c.args.size c.args.start c.args.text.now c.args.mended.now c.args.notes.now c.requires.0 c.requires.2

pub read_line-read-requires : goal.read_line-read-requires
read_line-read-requires c = (c.loop-at-test.true, c.requires.1)

pub put_note-written-requires : goal.put_note-written-requires
put_note-written-requires c =
    (c.read_line-read.ensures.1, c.loop-at.invariant.behind, turn_fits c.args.ports c.args.size c.args.start c.args.text.now c.args.mended.now c.loop-at.at c.loop-at.to c.loop-at.number c.loop-at.written c.loop-at.notes c.loop-at.invariant c.loop-at-test.true c.read_line-read.result c.read_line-read.ensures.0)

pub after-to-requires : goal.after-to-requires
after-to-requires c = let a = c.read_line-read.ensures.1.ahead in let i = c.loop-at.invariant.behind in (omega arith, omega arith)

pub overflow_add-number : goal.overflow_add-number
overflow_add-number c = let i = c.loop-at.invariant.few in let t = c.loop-at-test.true in let g = c.well_formed.0.1 in omega arith

pub loop-at-smaller : goal.loop-at-smaller
loop-at-smaller c = let b = c.read_line-read.ensures.1 in let a = b.ahead in let w = b.within in omega arith

pub loop-at-preserved : goal.loop-at-preserved
loop-at-preserved c =
    note_turn c.args.ports c.args.size c.args.start c.args.text.now c.args.mended.now c.loop-at.at c.loop-at.to c.loop-at.number c.loop-at.written c.loop-at.notes c.loop-at.invariant c.loop-at-test.true c.read_line-read.result c.read_line-read.ensures.0
    _ c.put_note-written.result c.after-to.result c.put_note-written.ensures c.after-to.ensures

pub shape_of-notes : goal.shape_of-notes
shape_of-notes c = c.loop-at.invariant.long ∙ sym c.requires.2

pub returns : goal.returns
returns c =
    noting_ends c.args.ports c.args.size c.args.start c.args.text.now c.args.mended.now c.loop-at.at c.loop-at.to c.loop-at.number c.loop-at.written c.loop-at.notes c.loop-at.invariant c.loop-at-test.false
