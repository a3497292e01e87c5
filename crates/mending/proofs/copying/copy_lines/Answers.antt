use Rattle.mending.specs.Laws.Sweeps.{sweep_end}
use mathlib.Core.Path.{◌∙◌}
use Rattle.mending.specs.Laws.Copies.{part_is}
use Rattle.mending.proofs.Promised.{copy_dropped, copy_kept}
use Rattle.mending.specs.Laws.Copies.{copying_ends, copying_starts}
use lib.ListN.{replicate}
use mathlib.Core.Path.{ap}
use borrow.Author.Rules.{rules}
use native.Mathlib.Omega.{arith}
use Rattle.mending.proofs.copying.copy_lines.Goals as goal

pub loop-at-init : goal.loop-at-init
loop-at-init c =
    copying_starts c.args.counted c.args.ports c.args.size c.args.start c.args.text.now c.args.mended.now c.requires.0 c.requires.2 _ _ (ap (replicate 64) c.none_yet-begun.ensures) (ap (replicate 64) c.no_keys-none.ensures)

pub read_line-read-requires : goal.read_line-read-requires
read_line-read-requires c = (c.loop-at-test.true, c.requires.1)

pub offset_bounds-follows-port : goal.offset_bounds-follows-port
offset_bounds-follows-port c = let b = c.read_line-read.ensures.1.port in omega arith

pub bounds-follows-port : goal.bounds-follows-port
bounds-follows-port c = let b = c.read_line-read.ensures.1.port in let i = c.loop-at.invariant.follows_long in omega arith

pub offset_bounds-keys-port : goal.offset_bounds-keys-port
offset_bounds-keys-port c = let b = c.read_line-read.ensures.1.port in omega arith

pub bounds-keys-port : goal.bounds-keys-port
bounds-keys-port c = let b = c.read_line-read.ensures.1.port in let i = c.loop-at.invariant.keys_long in omega arith

pub slice_bounds-lay-count : goal.slice_bounds-lay-count
slice_bounds-lay-count c = let b = c.read_line-read.ensures.1.ahead in omega arith

pub overflow_sub-key : goal.overflow_sub-key
overflow_sub-key c = let b = c.read_line-read.ensures.1.digit c.if-read.true in let d = b.0 in omega arith

pub overflow_add-key : goal.overflow_add-key
overflow_add-key c =
    let b = c.read_line-read.ensures.1 in
    let d = b.digit c.if-read.true in
    let d0 = d.0 in
    let d1 = d.1 in
    let e = b.ends in
    let w = b.within in
    let i = c.loop-at.invariant.behind in
    omega arith

pub offset_bounds-follows-port-then-read : goal.offset_bounds-follows-port-then-read
offset_bounds-follows-port-then-read c = let b = c.read_line-read.ensures.1.port in omega arith

pub bounds-follows-port-then-read : goal.bounds-follows-port-then-read
bounds-follows-port-then-read c = let b = c.read_line-read.ensures.1.port in let i = c.loop-at.invariant.follows_long in omega arith

pub offset_bounds-keys-port-then-read : goal.offset_bounds-keys-port-then-read
offset_bounds-keys-port-then-read c = let b = c.read_line-read.ensures.1.port in omega arith

pub bounds-keys-port-then-read : goal.bounds-keys-port-then-read
bounds-keys-port-then-read c = let b = c.read_line-read.ensures.1.port in let i = c.loop-at.invariant.keys_long in omega arith

pub overflow_sub-to : goal.overflow_sub-to
overflow_sub-to c = let b = c.read_line-read.ensures.1.ahead in omega arith

pub overflow_add-to : goal.overflow_add-to
overflow_add-to c =
    let b = c.read_line-read.ensures.1 in
    let w = b.within in
    let a = b.ahead in
    let i = c.loop-at.invariant.behind in
    omega arith

pub loop-at-smaller-then-read : goal.loop-at-smaller-then-read
loop-at-smaller-then-read c = let b = c.read_line-read.ensures.1 in let a = b.ahead in let w = b.within in omega arith

pub loop-at-preserved-then-read : goal.loop-at-preserved-then-read
loop-at-preserved-then-read c =
    let a = c.read_line-read.ensures.1.ahead in
    let w = c.loop-at.invariant.within in
    copy_kept c.args.counted c.args.ports c.args.size c.args.start c.args.text.now c.args.mended.now c.requires.3 c.loop-at.follows c.loop-at.keys c.loop-at.at c.loop-at.to c.loop-at.mended c.loop-at.invariant c.loop-at-test.true
    c.read_line-read.result c.read_line-read.ensures.0 c.if-read.true c.read_line-read.ensures.1.port c.followed_if-after.result c.followed_if-after.ensures _ c.restore.ensures _
    (part_is c.loop-at.at c.read_line-read.result.next c.args.text.now (omega arith) w) _ c.lay.ensures c.with_key-shifted.result c.with_key-shifted.ensures

pub loop-at-smaller : goal.loop-at-smaller
loop-at-smaller c = let b = c.read_line-read.ensures.1 in let a = b.ahead in let w = b.within in omega arith

pub loop-at-preserved : goal.loop-at-preserved
loop-at-preserved c =
    copy_dropped c.args.counted c.args.ports c.args.size c.args.start c.args.text.now c.args.mended.now c.requires.3 c.loop-at.follows c.loop-at.keys c.loop-at.at c.loop-at.to c.loop-at.mended c.loop-at.invariant c.loop-at-test.true
    c.read_line-read.result c.read_line-read.ensures.0 c.if-read.false

pub shape_of-mended : goal.shape_of-mended
shape_of-mended c = let l = c.loop-at.invariant.long in search rules

pub returns : goal.returns
returns c =
    c.finish.ensures ∙ ap (sweep_end 64) (copying_ends c.args.counted c.args.ports c.args.size c.args.start c.args.text.now c.args.mended.now c.requires.3 c.loop-at.follows c.loop-at.keys c.loop-at.at c.loop-at.to c.loop-at.mended c.loop-at.invariant c.loop-at-test.false)
