-- A line that is open has a byte, and one that ends lies in the text.
use Rattle.std.proofs.Common.{arith, length, sym, ◌∙◌}
use Rattle.std.proofs.lemmas.Slice.{between_is}
use Rattle.recording.specs.Laws.Parting.{ends_within, open_some, opening_ends, opening_last}
use Rattle.recording.proofs.opening.opening_at.Goals as goal

pub slice_bounds-line_opening-count : goal.slice_bounds-line_opening-count
slice_bounds-line_opening-count c = let h = open_some c.args.text.now c.args.at (sym c.find.ensures ∙ c.in-Open.is) in omega arith

pub slice_bounds-line_opening-start : goal.slice_bounds-line_opening-start
slice_bounds-line_opening-start c = let h = open_some c.args.text.now c.args.at (sym c.find.ensures ∙ c.in-Open.is) in omega arith

pub slice_bounds-line_opening-count-in-Ends : goal.slice_bounds-line_opening-count-in-Ends
slice_bounds-line_opening-count-in-Ends c = let w = ends_within c.args.text.now c.args.at c.in-Ends.end (sym c.find.ensures ∙ c.in-Ends.is) in omega arith

pub slice_bounds-line_opening-start-in-Ends : goal.slice_bounds-line_opening-start-in-Ends
slice_bounds-line_opening-start-in-Ends c = let w = ends_within c.args.text.now c.args.at c.in-Ends.end (sym c.find.ensures ∙ c.in-Ends.is) in omega arith

pub slice_bounds-line_opening-end-in-Ends : goal.slice_bounds-line_opening-end-in-Ends
slice_bounds-line_opening-end-in-Ends c = let w = ends_within c.args.text.now c.args.at c.in-Ends.end (sym c.find.ensures ∙ c.in-Ends.is) in omega arith

pub overflow_add-end : goal.overflow_add-end
overflow_add-end c = let w = ends_within c.args.text.now c.args.at c.in-Ends.end (sym c.find.ensures ∙ c.in-Ends.is) in omega arith

pub returns-in-Open : goal.returns-in-Open
returns-in-Open c =
    rw (between_is c.args.text.now c.args.at (length c.args.text.now)) at c.line_opening.ensures
    ∙ opening_last c.args.text.now c.args.at c.args.last c.find.result c.find.ensures c.in-Open.is c.if-last.true

pub returns-in-Ends : goal.returns-in-Ends
returns-in-Ends c =
    rw (between_is c.args.text.now c.args.at c.in-Ends.end) at c.line_opening-in-Ends.ensures
    ∙ opening_ends c.args.text.now c.args.at c.args.last c.find.result c.find.ensures c.in-Ends.end c.in-Ends.is
