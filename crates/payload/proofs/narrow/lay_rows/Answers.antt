-- A block turned is a run for each member; written, each member's bytes are its column of the lines read (`block_turned`).
-- Two, four and eight members go apart with the sizes 64, 32 and 16, the only ones allowed (`even_two`, `even_four`, `even_eight`).
use mathlib.Core.Path.{ap, ◌∙◌}
use Prim.Native.Nat.{ℕ, ◌*◌}
use native.Mathlib.Omega.{arith}
use Rattle.payload.proofs.Blocks.{block_turned}
use Rattle.payload.proofs.Deals.{dealt_all}
use Rattle.payload.proofs.Evens.{even_two, even_four, even_eight, rows_as}
use Rattle.payload.proofs.narrow.lay_rows.Goals as goal

pub write-requires : goal.write-requires
write-requires c =
    let e = c.if-x-eq2.true in
    let f = even_two c.args.x c.args.h c.requires.0 e in
    let g = c.requires.2 ∙ ap (λ (k : ℕ). k * c.args.p) e in
    (omega arith, omega (arith, c.requires.1, f), omega arith, omega (arith, g))

pub write-requires-then-x-eq4 : goal.write-requires-then-x-eq4
write-requires-then-x-eq4 c =
    let e = c.if-x-eq4.true in
    let f = even_four c.args.x c.args.h c.requires.0 e in
    let g = c.requires.2 ∙ ap (λ (k : ℕ). k * c.args.p) e in
    (omega arith, omega (arith, c.requires.1, f), omega arith, omega (arith, g))

pub write-requires-else-x-eq4 : goal.write-requires-else-x-eq4
write-requires-else-x-eq4 c =
    let g = even_eight c.args.x c.args.h c.requires.0 c.if-x-eq2.false c.if-x-eq4.false in
    let e = g.0 in
    let f = g.1 in
    let g = c.requires.2 ∙ ap (λ (k : ℕ). k * c.args.p) e in
    (omega arith, omega (arith, c.requires.1, f), omega arith, omega (arith, g))

pub returns-then-x-eq2 : goal.returns-then-x-eq2
returns-then-x-eq2 c =
    let e = c.if-x-eq2.true in
    let f = even_two c.args.x c.args.h c.requires.0 e in
    rows_as c.args.x c.args.h 2 64 c.args.p c.args.r c.args.q c.args.members.now _ e f
    (block_turned 64 2 c.args.p 0 0 c.args.r c.args.q c.dealt-t.result c.args.members.now _ (dealt_all _ _ c.dealt-t.ensures) c.write.ensures)

pub returns-then-x-eq4 : goal.returns-then-x-eq4
returns-then-x-eq4 c =
    let e = c.if-x-eq4.true in
    let f = even_four c.args.x c.args.h c.requires.0 e in
    rows_as c.args.x c.args.h 4 32 c.args.p c.args.r c.args.q c.args.members.now _ e f
    (block_turned 32 4 c.args.p 0 0 c.args.r c.args.q c.turned-t.result c.args.members.now _ c.turned-t.ensures c.write-then-x-eq4.ensures)

pub returns-else-x-eq4 : goal.returns-else-x-eq4
returns-else-x-eq4 c =
    let g = even_eight c.args.x c.args.h c.requires.0 c.if-x-eq2.false c.if-x-eq4.false in
    let e = g.0 in
    let f = g.1 in
    rows_as c.args.x c.args.h 8 16 c.args.p c.args.r c.args.q c.args.members.now _ e f
    (block_turned 16 8 c.args.p 0 0 c.args.r c.args.q c.turned-t-else-x-eq4.result c.args.members.now _ c.turned-t-else-x-eq4.ensures c.write-else-x-eq4.ensures)
