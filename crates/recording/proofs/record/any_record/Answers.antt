-- An end that is found lies at the place or behind it and within the text (`ends_within`).
use Rattle.std.proofs.Common.{arith, sym, ◌∙◌}
use Rattle.std.proofs.lemmas.Slice.{between_is}
use Rattle.recording.specs.Laws.Parting.{ends_within, record_ends}
use Rattle.recording.proofs.record.any_record.Goals as goal

pub slice_bounds-line_record-count : goal.slice_bounds-line_record-count
slice_bounds-line_record-count c = let w = ends_within c.args.text.now c.args.at c.in-Ends.end (sym c.find.ensures ∙ c.in-Ends.is) in omega arith

pub slice_bounds-line_record-start : goal.slice_bounds-line_record-start
slice_bounds-line_record-start c = let w = ends_within c.args.text.now c.args.at c.in-Ends.end (sym c.find.ensures ∙ c.in-Ends.is) in omega arith

pub slice_bounds-line_record-end : goal.slice_bounds-line_record-end
slice_bounds-line_record-end c = let w = ends_within c.args.text.now c.args.at c.in-Ends.end (sym c.find.ensures ∙ c.in-Ends.is) in omega arith

pub overflow_add-end : goal.overflow_add-end
overflow_add-end c = let w = ends_within c.args.text.now c.args.at c.in-Ends.end (sym c.find.ensures ∙ c.in-Ends.is) in omega arith

pub returns-in-Ends : goal.returns-in-Ends
returns-in-Ends c =
    record_ends c.args.ports c.args.size c.args.text.now c.args.at c.find.result c.find.ensures c.in-Ends.end c.in-Ends.is _ (rw (between_is c.args.text.now c.args.at c.in-Ends.end) at c.line_record.ensures)
