-- 4 for a size out of range, then 9 unless the frame ends within the output and every member within the store: the definition's cases in its order.
-- Only a right size makes X P small enough to be worked out, and X no more than the starts that are given (`sizes`, `frame_most`).
use mathlib.Core.Path.{sym, ◌∙◌}
use native.Mathlib.Omega.{arith}
use Rattle.payload.specs.Laws.Fits.{sizes, frame_most}
use Rattle.payload.proofs.answer.from.Goals as goal

pub overflow_mul-x : goal.overflow_mul-x
overflow_mul-x c =
    let s = frame_most c.args.x c.args.p (sizes c.args.x c.args.p (sym c.is_sized.ensures ∙ c.if-is_sized.true)) in
    omega arith

pub starts_fit-members-requires : goal.starts_fit-members-requires
starts_fit-members-requires c =
    let s = sizes c.args.x c.args.p (sym c.is_sized.ensures ∙ c.if-is_sized.true) in
    omega arith

pub returns-then-is_sized : goal.returns-then-is_sized
returns-then-is_sized c =
    rw
    (← c.is_sized.ensures, c.if-is_sized.true, ← c.ends_within-frame.ensures, ← c.starts_fit-members.ensures)
    c.by_lengths.ensures

pub returns-else-is_sized : goal.returns-else-is_sized
returns-else-is_sized c = rw (← c.is_sized.ensures, c.if-is_sized.false)
