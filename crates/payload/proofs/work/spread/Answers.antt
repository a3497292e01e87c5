-- `spread` meets its contract in each of its ways: a copy of one member, blocks, plain loops. By blocks the P lines of X bytes are joined (`spread_by_lines`).
use mathlib.Core.Path.{refl, ◌∙◌}
use mathlib.Core.Logic.{inl, inr}
use native.Mathlib.Nat.{mul_comm}
use native.Mathlib.Omega.{arith}
use Rattle.payload.proofs.Copies.{one_times, one_spread}
use Rattle.payload.proofs.Evens.{even_fit, spread_as, times_as}
use Rattle.payload.proofs.Frames.{blocks_fit, overs_fit, spread_by_lines}
use Rattle.payload.proofs.work.spread.Goals as goal

pub run-requires : goal.run-requires
run-requires c = omega (arith, one_times c.args.x c.args.p c.if-x-eq1.true)

pub spread-requires : goal.spread-requires
spread-requires c =
    let e = even_fit c.args.x 2 c.args.p 64 c.if-x-p.true in
    let t = times_as c.args.x 2 c.args.p e.0 in
    (inl (refl, refl), e.1, c.requires.0 ∙ t, c.requires.1 ∙ t)

pub spread-requires-then-x-p-2 : goal.spread-requires-then-x-p-2
spread-requires-then-x-p-2 c =
    let e = even_fit c.args.x 4 c.args.p 32 c.if-x-p-2.true in
    let t = times_as c.args.x 4 c.args.p e.0 in
    (inr (inl (refl, refl)), e.1, c.requires.0 ∙ t, c.requires.1 ∙ t)

pub spread-requires-then-x-p-3 : goal.spread-requires-then-x-p-3
spread-requires-then-x-p-3 c =
    let e = even_fit c.args.x 8 c.args.p 16 c.if-x-p-3.true in
    let t = times_as c.args.x 8 c.args.p e.0 in
    (inr (inr (refl, refl)), e.1, c.requires.0 ∙ t, c.requires.1 ∙ t)

pub spread-requires-then-x-p-4 : goal.spread-requires-then-x-p-4
spread-requires-then-x-p-4 c =
    let e = overs_fit c.args.x c.args.p c.if-x-p-4.true in
    (e.0, omega (arith, e.1), omega (arith, e.2), c.requires.0, c.requires.1)

pub join-requires : goal.join-requires
join-requires c =
    let e = blocks_fit c.args.x c.args.p c.if-x-p-5.true in
    (record { rows = refl; bytes = refl; rows_most = omega arith; bytes_most = omega arith; both = omega arith }, e.1, e.0, c.requires.0 ∙ mul_comm c.args.x c.args.p, c.requires.1 ∙ mul_comm c.args.x c.args.p)

pub returns-then-x-eq1 : goal.returns-then-x-eq1
returns-then-x-eq1 c =
    one_spread c.args.x c.args.p c.if-x-eq1.true c.args.frame.now c.args.members.now _ c.requires.1 c.run.ensures

pub returns-then-x-p : goal.returns-then-x-p
returns-then-x-p c =
    let e = even_fit c.args.x 2 c.args.p 64 c.if-x-p.true in
    spread_as c.args.x 2 c.args.p e.0 c.args.frame.now _ c.spread.ensures

pub returns-then-x-p-2 : goal.returns-then-x-p-2
returns-then-x-p-2 c =
    let e = even_fit c.args.x 4 c.args.p 32 c.if-x-p-2.true in
    spread_as c.args.x 4 c.args.p e.0 c.args.frame.now _ c.spread-then-x-p-2.ensures

pub returns-then-x-p-3 : goal.returns-then-x-p-3
returns-then-x-p-3 c =
    let e = even_fit c.args.x 8 c.args.p 16 c.if-x-p-3.true in
    spread_as c.args.x 8 c.args.p e.0 c.args.frame.now _ c.spread-then-x-p-3.ensures

pub returns-then-x-p-5 : goal.returns-then-x-p-5
returns-then-x-p-5 c =
    spread_by_lines c.args.x c.args.p c.args.frame.now _ c.join.ensures
