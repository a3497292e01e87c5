use mathlib.Core.Path.{◌≡◌}
use Prim.Native.Nat.{◌*◌}
use native.Mathlib.Omega.{arith}
use Rattle.payload.specs.Joining.{started_byte}
use Rattle.payload.proofs.Fronts.{front_of}
use Rattle.payload.proofs.over.most_lines.Goals as goal

pub three-requires : goal.three-requires
three-requires c =
    let e = c.if-x-eq3.true in
    let t : c.args.x * c.args.p ≡ 3 * c.args.p = rw e in
    (c.requires.2, c.requires.3, omega (arith, c.requires.4, e), λ r b. c.requires.5 r (omega (arith, b, e)), omega (arith, c.requires.6, t))

pub lines-requires : goal.lines-requires
lines-requires c = let h = c.requires in (h.0, h.1, omega (arith, h.2), h.3, h.4, h.5, h.6)

pub shape_of-out-then-x-eq3 : goal.shape_of-out-then-x-eq3
shape_of-out-then-x-eq3 c = c.three.ensures.len

pub returns-then-x-eq3 : goal.returns-then-x-eq3
returns-then-x-eq3 c =
    front_of c.args.x 3 c.args.n c.args.p c.args.place (started_byte c.args.starts.now c.args.store.now) c.if-x-eq3.true c.three.ensures

pub shape_of-out-else-x-eq3 : goal.shape_of-out-else-x-eq3
shape_of-out-else-x-eq3 c = c.lines.ensures.len

pub returns-else-x-eq3 : goal.returns-else-x-eq3
returns-else-x-eq3 c = c.lines.ensures
