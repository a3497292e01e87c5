use mathlib.Core.Path.{sym, ◌∙◌}
use native.Mathlib.Omega.{arith}
use Rattle.payload.specs.Laws.Fits.{sizes, frame_most}
use Rattle.payload.proofs.answer.whole.Goals as goal

pub overflow_mul-n : goal.overflow_mul-n
overflow_mul-n c = let a = c.args in let s = frame_most a.x a.p (sizes a.x a.p (sym c.is_sized.ensures ∙ c.if-is_sized.true)) in omega arith

pub returns-then-is_sized : goal.returns-then-is_sized
returns-then-is_sized c = rw (← c.is_sized.ensures, c.if-is_sized.true) c.by_lengths.ensures

pub returns-else-is_sized : goal.returns-else-is_sized
returns-else-is_sized c = rw (← c.is_sized.ensures, c.if-is_sized.false)
