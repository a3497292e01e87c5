-- A block is read as h rows of w bytes, turned and laid into the frame: those bytes of the frame are then the definition's (`block_is`).
-- One exit for each of the three sizes; every row lies within the members (`ranked_in`) and every line within the frame (`block_in`).
use mathlib.Core.Path.{◌≡◌}
use native.Mathlib.Omega.{arith}
use Rattle.payload.specs.Joining.{ranked_byte}
use Rattle.payload.proofs.Blocks.{block_in, block_is, ranked_in}
use Rattle.payload.proofs.block.block.Goals as goal

pub read_ranked-requires : goal.read_ranked-requires
read_ranked-requires c =
    let s = c.requires.0 in
    let high : c.args.h ≡ 8 = omega arith in
    let wide : c.args.w ≡ 16 = omega arith in
    (omega arith, omega arith, ranked_in c.args.x c.args.p c.args.r c.args.j 8 16 _ (omega arith) (omega arith) c.requires.3)

pub lay_eight-requires : goal.lay_eight-requires
lay_eight-requires c =
    let s = c.requires.0 in
    let high : c.args.h ≡ 8 = omega arith in
    let wide : c.args.w ≡ 16 = omega arith in
    let b = block_in c.args.x c.args.p c.args.r c.args.j 8 16 (omega arith) (omega arith) (omega arith) (omega arith) in
    (omega arith, omega arith)

pub read_ranked-requires-then-w-eq8 : goal.read_ranked-requires-then-w-eq8
read_ranked-requires-then-w-eq8 c =
    let s = c.requires.0 in
    let high : c.args.h ≡ 16 = omega arith in
    let wide : c.args.w ≡ 8 = omega arith in
    (omega arith, omega arith, ranked_in c.args.x c.args.p c.args.r c.args.j 16 8 _ (omega arith) (omega arith) c.requires.3)

pub lay_sixteen-requires : goal.lay_sixteen-requires
lay_sixteen-requires c =
    let s = c.requires.0 in
    let high : c.args.h ≡ 16 = omega arith in
    let wide : c.args.w ≡ 8 = omega arith in
    let b = block_in c.args.x c.args.p c.args.r c.args.j 16 8 (omega arith) (omega arith) (omega arith) (omega arith) in
    (omega arith, omega arith)

pub read_ranked-requires-else-w-eq8 : goal.read_ranked-requires-else-w-eq8
read_ranked-requires-else-w-eq8 c =
    let s = c.requires.0 in
    let high : c.args.h ≡ 16 = omega arith in
    let wide : c.args.w ≡ 16 = omega arith in
    (omega arith, omega arith, ranked_in c.args.x c.args.p c.args.r c.args.j 16 16 _ (omega arith) (omega arith) c.requires.3)

pub lay_wide-requires : goal.lay_wide-requires
lay_wide-requires c =
    let s = c.requires.0 in
    let high : c.args.h ≡ 16 = omega arith in
    let wide : c.args.w ≡ 16 = omega arith in
    let b = block_in c.args.x c.args.p c.args.r c.args.j 16 16 (omega arith) (omega arith) (omega arith) (omega arith) in
    (omega arith, omega arith)

pub returns-then-h-eq8 : goal.returns-then-h-eq8
returns-then-h-eq8 c =
    let s = c.requires.0 in
    let high : c.args.h ≡ 8 = omega arith in
    let wide : c.args.w ≡ 16 = omega arith in
    block_is c.args.x 0 (ranked_byte c.args.p c.args.members.now) c.args.h c.args.w 8 16 c.args.j c.args.r _ _ c.args.frame.now _ high wide c.read_ranked.ensures c.lay_eight.ensures

pub returns-then-w-eq8 : goal.returns-then-w-eq8
returns-then-w-eq8 c =
    let s = c.requires.0 in
    let high : c.args.h ≡ 16 = omega arith in
    let wide : c.args.w ≡ 8 = omega arith in
    block_is c.args.x 0 (ranked_byte c.args.p c.args.members.now) c.args.h c.args.w 16 8 c.args.j c.args.r _ _ c.args.frame.now _ high wide c.read_ranked-then-w-eq8.ensures c.lay_sixteen.ensures

pub returns-else-w-eq8 : goal.returns-else-w-eq8
returns-else-w-eq8 c =
    let s = c.requires.0 in
    let high : c.args.h ≡ 16 = omega arith in
    let wide : c.args.w ≡ 16 = omega arith in
    block_is c.args.x 0 (ranked_byte c.args.p c.args.members.now) c.args.h c.args.w 16 16 c.args.j c.args.r _ _ c.args.frame.now _ high wide c.read_ranked-else-w-eq8.ensures c.lay_wide.ensures
