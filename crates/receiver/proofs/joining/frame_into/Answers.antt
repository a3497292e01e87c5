-- A frame lies as far behind the start of its ring in one port as in another: joined from the store behind that distance, by the rings' starts,
-- it is the definition's frame (`frame_by_lem`). A distance beyond the store joins nothing (`frame_beyond`).
use native.Mathlib.Omega.{arith}
use Rattle.receiver.specs.Laws.Rings.{frame_beyond}
use Rattle.receiver.proofs.Alone.{frame_by_lem}
use Rattle.receiver.proofs.Numbers.{pair_fits, place_fits}
use Rattle.receiver.proofs.joining.frame_into.Goals as goal

pub overflow_mul-x : goal.overflow_mul-x
overflow_mul-x c = let a = c.args in omega (arith, pair_fits a.order.x a.group.payload (omega arith) (omega arith))

pub overflow_mul-k : goal.overflow_mul-k
overflow_mul-k c = let a = c.args in omega (arith, place_fits a.k a.order.x a.group.payload (omega arith) (omega arith) (omega arith))

pub returns-then-shift-store : goal.returns-then-shift-store
returns-then-shift-store c =
    frame_by_lem c.args.group c.args.order c.args.k c.args.store.now c.args.out.now c.place-shift.result c.args.rings.now _ c.place-shift.ensures c.requires c.if-shift-store.true c.join_from.ensures.1

pub returns-else-shift-store : goal.returns-else-shift-store
returns-else-shift-store c =
    frame_beyond c.args.group c.args.order c.args.k c.args.store.now c.args.out.now (omega (arith, c.if-shift-store.false, c.place-shift.ensures))
