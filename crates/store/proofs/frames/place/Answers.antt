-- `place` meets its contract: the definition's products and sums, which fit 64 bits since the ring's place is below 131,071.
use mathlib.Core.Path.{refl}
use Prim.Native.Nat.{◌≤◌}
use native.Mathlib.Omega.{arith}
use Rattle.store.specs.Frames.{place_in}
use Rattle.store.specs.Laws.Places.{ring_le, row_fits, product_fits}
use Rattle.store.proofs.frames.place.Goals as goal

turn-fits : (c : goal.After-struct_known-1) → c.ring-turn.result ≤ 131070
turn-fits c =
    let r = ring_le c.args.group.origin c.args.at c.args.group.window in
    rw c.ring-turn.ensures (omega arith)

pub overflow_mul-result : goal.overflow_mul-result
overflow_mul-result c = let w : c.args.group.window ≤ 65535 = omega arith in omega (arith, row_fits c.args.port c.args.group.window 0 (omega arith) w (omega arith))

pub overflow_add-result : goal.overflow_add-result
overflow_add-result c = omega (arith, row_fits c.args.port c.args.group.window c.ring-turn.result (omega arith) (omega arith) (turn-fits c))

pub overflow_mul-result-2 : goal.overflow_mul-result-2
overflow_mul-result-2 c = omega (arith, product_fits _ c.args.group.payload (row_fits c.args.port c.args.group.window c.ring-turn.result (omega arith) (omega arith) (turn-fits c.before)) (omega arith))

pub returns : goal.returns
unfolding place_in
returns c = rw c.ring-turn.ensures refl
