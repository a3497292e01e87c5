-- `join_from` meets its contract in each of its ways: a copy of one member, blocks, plain loops. All fill the frame with the same bytes.
use mathlib.Core.Path.{refl}
use mathlib.Core.Logic.{inl, inr}
use Prim.Native.Nat.{◌<◌}
use native.Mathlib.Omega.{arith}
use Rattle.payload.specs.Joining.{started_byte}
use Rattle.payload.proofs.Copies.{one_times, one_from}
use Rattle.payload.proofs.Evens.{even_fit, from_as, times_as}
use Rattle.payload.proofs.Frames.{blocks_fit, overs_fit}
use Rattle.payload.proofs.work.join_from.Goals as goal

pub run-requires : goal.run-requires
run-requires c =
    let h : 0 < c.args.x = omega arith in
    omega (arith, c.requires.1 0 h, one_times c.args.x c.args.p c.if-x-eq1.true)

pub join_from-requires : goal.join_from-requires
join_from-requires c =
    let e = even_fit c.args.x 2 c.args.p 64 c.if-x-p.true in
    let s = e.0 in
    let t = times_as c.args.x 2 c.args.p s in
    (inl (refl, refl), e.1, omega (arith, s, c.requires.0), λ r b. c.requires.1 r (omega (arith, s, b)), omega (arith, t, c.requires.2))

pub join_from-requires-then-x-p-2 : goal.join_from-requires-then-x-p-2
join_from-requires-then-x-p-2 c =
    let e = even_fit c.args.x 4 c.args.p 32 c.if-x-p-2.true in
    let s = e.0 in
    let t = times_as c.args.x 4 c.args.p s in
    (inr (inl (refl, refl)), e.1, omega (arith, s, c.requires.0), λ r b. c.requires.1 r (omega (arith, s, b)), omega (arith, t, c.requires.2))

pub join_from-requires-then-x-p-3 : goal.join_from-requires-then-x-p-3
join_from-requires-then-x-p-3 c =
    let e = even_fit c.args.x 8 c.args.p 16 c.if-x-p-3.true in
    let s = e.0 in
    let t = times_as c.args.x 8 c.args.p s in
    (inr (inr (refl, refl)), e.1, omega (arith, s, c.requires.0), λ r b. c.requires.1 r (omega (arith, s, b)), omega (arith, t, c.requires.2))

pub join_from-requires-then-x-p-4 : goal.join_from-requires-then-x-p-4
join_from-requires-then-x-p-4 c =
    let e = overs_fit c.args.x c.args.p c.if-x-p-4.true in
    (e.0, omega (arith, e.1), omega (arith, e.2), c.requires.0, c.requires.1, c.requires.2)

pub rows-requires : goal.rows-requires
rows-requires c = (blocks_fit c.args.x c.args.p c.if-x-p-5.true).0

pub join_from-requires-then-x-p-5 : goal.join_from-requires-then-x-p-5
join_from-requires-then-x-p-5 c =
    let s = c.rows.ensures in
    (s.0, s.1, (blocks_fit c.args.x c.args.p c.if-x-p-5.true).1, c.requires.0, c.requires.1, c.requires.2)

pub returns-then-x-eq1 : goal.returns-then-x-eq1
returns-then-x-eq1 c =
    one_from c.args.x c.args.p c.if-x-eq1.true c.args.starts.now c.args.store.now c.args.place c.args.out.now _ c.run.ensures

pub returns-then-x-p : goal.returns-then-x-p
returns-then-x-p c =
    let e = even_fit c.args.x 2 c.args.p 64 c.if-x-p.true in
    from_as c.args.x 2 c.args.p e.0 (started_byte c.args.starts.now c.args.store.now) c.args.place c.args.out.now _ c.join_from.ensures

pub returns-then-x-p-2 : goal.returns-then-x-p-2
returns-then-x-p-2 c =
    let e = even_fit c.args.x 4 c.args.p 32 c.if-x-p-2.true in
    from_as c.args.x 4 c.args.p e.0 (started_byte c.args.starts.now c.args.store.now) c.args.place c.args.out.now _ c.join_from-then-x-p-2.ensures

pub returns-then-x-p-3 : goal.returns-then-x-p-3
returns-then-x-p-3 c =
    let e = even_fit c.args.x 8 c.args.p 16 c.if-x-p-3.true in
    from_as c.args.x 8 c.args.p e.0 (started_byte c.args.starts.now c.args.store.now) c.args.place c.args.out.now _ c.join_from-then-x-p-3.ensures
