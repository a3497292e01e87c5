use Rattle.recording.specs.Laws.Parting.{found_ends, found_long, found_nothing, found_open}
use Rattle.recording.proofs.line.find.Goals as goal

pub returns-then-text-at : goal.returns-then-text-at
returns-then-text-at c = found_nothing c.args.text.now c.args.at c.if-text-at.true

pub returns-then-end-text : goal.returns-then-end-text
returns-then-end-text c = found_ends c.args.text.now c.args.at c.if-text-at.false c.piece_end-end.result c.piece_end-end.ensures c.if-end-text.true

pub returns-then-text-at-gt-MOST : goal.returns-then-text-at-gt-MOST
returns-then-text-at-gt-MOST c = found_long c.args.text.now c.args.at c.if-text-at.false c.piece_end-end.result c.piece_end-end.ensures c.if-end-text.false c.if-text-at-gt-MOST.true

pub returns : goal.returns
returns c = found_open c.args.text.now c.args.at c.if-text-at.false c.piece_end-end.result c.piece_end-end.ensures c.if-end-text.false c.if-text-at-gt-MOST.false
