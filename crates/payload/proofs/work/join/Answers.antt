-- `join` meets its contract in each of its ways: a copy of one member, blocks, plain loops.
use mathlib.Core.Path.{refl, ◌∙◌}
use mathlib.Core.Logic.{inl, inr}
use native.Mathlib.Omega.{arith}
use Rattle.payload.specs.Joining.{ranked_byte}
use Rattle.payload.proofs.Copies.{one_times, one_joined}
use Rattle.payload.proofs.Evens.{even_fit, joined_as, times_as}
use Rattle.payload.proofs.Frames.{blocks_fit, overs_fit}
use Rattle.payload.proofs.Starts.{starts_in, started_ranked}
use Rattle.payload.proofs.work.join.Goals as goal

pub run-requires : goal.run-requires
run-requires c = omega (arith, one_times c.args.x c.args.p c.if-x-eq1.true)

pub join-requires : goal.join-requires
join-requires c =
    let e = even_fit c.args.x 2 c.args.p 64 c.if-x-p.true in
    let t = times_as c.args.x 2 c.args.p e.0 in
    (inl (refl, refl), e.1, c.requires.2 ∙ t, c.requires.3 ∙ t)

pub join-requires-then-x-p-2 : goal.join-requires-then-x-p-2
join-requires-then-x-p-2 c =
    let e = even_fit c.args.x 4 c.args.p 32 c.if-x-p-2.true in
    let t = times_as c.args.x 4 c.args.p e.0 in
    (inr (inl (refl, refl)), e.1, c.requires.2 ∙ t, c.requires.3 ∙ t)

pub join-requires-then-x-p-3 : goal.join-requires-then-x-p-3
join-requires-then-x-p-3 c =
    let e = even_fit c.args.x 8 c.args.p 16 c.if-x-p-3.true in
    let t = times_as c.args.x 8 c.args.p e.0 in
    (inr (inr (refl, refl)), e.1, c.requires.2 ∙ t, c.requires.3 ∙ t)

pub join-requires-then-x-p-4 : goal.join-requires-then-x-p-4
join-requires-then-x-p-4 c =
    let e = overs_fit c.args.x c.args.p c.if-x-p-4.true in
    (e.0, e.1, omega (arith, e.2), c.requires.2, c.requires.3)

pub rows-requires : goal.rows-requires
rows-requires c = (blocks_fit c.args.x c.args.p c.if-x-p-5.true).0

pub join-requires-then-x-p-5 : goal.join-requires-then-x-p-5
join-requires-then-x-p-5 c =
    let s = c.rows.ensures in
    (s.0, s.1, (blocks_fit c.args.x c.args.p c.if-x-p-5.true).1, c.requires.2, c.requires.3)

pub join_from-requires : goal.join_from-requires
join_from-requires c = (
  omega arith,
  starts_in c.args.x c.args.p 64 c.args.members.now c.all_starts-starts.result c.requires.0 c.all_starts-starts.ensures c.requires.2,
  omega (arith, c.requires.3),
)

pub returns-then-x-eq1 : goal.returns-then-x-eq1
returns-then-x-eq1 c =
    one_joined c.args.x c.args.p c.if-x-eq1.true c.args.members.now c.args.frame.now _ c.requires.3 c.run.ensures

pub returns-then-x-p : goal.returns-then-x-p
returns-then-x-p c =
    let e = even_fit c.args.x 2 c.args.p 64 c.if-x-p.true in
    joined_as c.args.x 2 c.args.p e.0 (ranked_byte c.args.p c.args.members.now) _ c.join.ensures

pub returns-then-x-p-2 : goal.returns-then-x-p-2
returns-then-x-p-2 c =
    let e = even_fit c.args.x 4 c.args.p 32 c.if-x-p-2.true in
    joined_as c.args.x 4 c.args.p e.0 (ranked_byte c.args.p c.args.members.now) _ c.join-then-x-p-2.ensures

pub returns-then-x-p-3 : goal.returns-then-x-p-3
returns-then-x-p-3 c =
    let e = even_fit c.args.x 8 c.args.p 16 c.if-x-p-3.true in
    joined_as c.args.x 8 c.args.p e.0 (ranked_byte c.args.p c.args.members.now) _ c.join-then-x-p-3.ensures

pub returns-else-x-p-5 : goal.returns-else-x-p-5
returns-else-x-p-5 c =
    started_ranked c.args.x c.args.p 64 c.args.members.now c.all_starts-starts.result c.requires.0 c.all_starts-starts.ensures c.args.frame.now _ c.requires.3 c.join_from.ensures
