-- A block is read as h rows of 16 bytes, each from its member's start, turned and laid: those bytes of the frame are the definition's (`block_is`).
-- One exit for each of the two sizes.
use mathlib.Core.Path.{◌≡◌, refl}
use native.Mathlib.Omega.{arith}
use Rattle.payload.specs.Joining.{started_byte}
use Rattle.payload.proofs.Blocks.{block_is}
use Rattle.payload.proofs.block.block_from.Goals as goal

pub read_started-requires : goal.read_started-requires
read_started-requires c =
    let s = c.requires.0 in
    let high : c.args.h ≡ 8 = omega arith in
    (omega arith, omega arith, λ l b. c.requires.3 l (omega (arith, b)))

pub lay_eight-requires : goal.lay_eight-requires
lay_eight-requires c =
    let s = c.requires.0 in
    let high : c.args.h ≡ 8 = omega arith in
    (omega arith, omega arith)

pub read_started-requires-else-h-eq8 : goal.read_started-requires-else-h-eq8
read_started-requires-else-h-eq8 c =
    let s = c.requires.0 in
    let high : c.args.h ≡ 16 = omega arith in
    (omega arith, omega arith, λ l b. c.requires.3 l (omega (arith, b)))

pub lay_wide-requires : goal.lay_wide-requires
lay_wide-requires c =
    let s = c.requires.0 in
    let high : c.args.h ≡ 16 = omega arith in
    (omega arith, omega arith)

pub returns-then-h-eq8 : goal.returns-then-h-eq8
returns-then-h-eq8 c =
    let s = c.requires.0 in
    let high : c.args.h ≡ 8 = omega arith in
    block_is c.args.x c.args.place (started_byte c.args.starts.now c.args.store.now) c.args.h 16 8 16 c.args.j c.args.r _ _ c.args.out.now _ high refl c.read_started.ensures c.lay_eight.ensures

pub returns-else-h-eq8 : goal.returns-else-h-eq8
returns-else-h-eq8 c =
    let s = c.requires.0 in
    let high : c.args.h ≡ 16 = omega arith in
    block_is c.args.x c.args.place (started_byte c.args.starts.now c.args.store.now) c.args.h 16 16 16 c.args.j c.args.r _ _ c.args.out.now _ high refl c.read_started-else-h-eq8.ensures c.lay_wide.ensures
