use Rattle.std.proofs.Common.{sym, length-take-le}
use Rattle.session_lines.proofs.Answering.{end_is, end_within, gathered_ended, gathered_open}
use Rattle.session_lines.proofs.gathering.gather.Goals as goal

pub slice_bounds-extend-end : goal.slice_bounds-extend-end
slice_bounds-extend-end c = sym (length-take-le _ _ (end_within c.args.input.now c.piece_end-end.result c.piece_end-end.ensures))

pub returns-then-end-input : goal.returns-then-end-input
returns-then-end-input c = gathered_ended c.args.kept c.args.input.now c.piece_end-end.result (end_is c.args.input.now c.piece_end-end.result c.piece_end-end.ensures) _ c.extend.ensures c.if-end-input.true

pub returns-else-end-input : goal.returns-else-end-input
returns-else-end-input c = gathered_open c.args.kept c.args.input.now c.piece_end-end.result (end_is c.args.input.now c.piece_end-end.result c.piece_end-end.ensures) _ c.extend.ensures c.if-end-input.false
