-- A block turned is w whole lines of the frame, which lie there as one run of 128 bytes (`lines_run`); a line's bytes are the block's columns
-- (`block_turned`).
use mathlib.Core.Path.{sym}
use Prim.Native.Nat.{◌<◌}
use native.Mathlib.Omega.{arith}
use Rattle.payload.proofs.Blocks.{block_turned}
use Rattle.payload.proofs.Evens.{even_size, lines_run}
use Rattle.payload.proofs.narrow.lay.Goals as goal

pub by_bytes-requires : goal.by_bytes-requires
by_bytes-requires c =
    let z = even_size c.args.x c.args.w c.requires.0 in
    (omega arith, omega (arith, z.1))

pub returns : goal.returns
returns c =
    let z = even_size c.args.x c.args.w c.requires.0 in
    let pos : 0 < c.args.x = omega arith in
    block_turned c.args.x c.args.w c.args.x c.args.place c.args.j 0 c.args.q c.lines_of-t.result c.args.out.now _ c.lines_of-t.ensures
    (lines_run c.args.x c.args.place c.args.j c.args.w 128 c.lines_of-t.result c.args.out.now _ pos (sym z.1) c.by_bytes.ensures)
