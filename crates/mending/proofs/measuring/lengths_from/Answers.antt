use Rattle.mending.specs.Laws.Counting.{whole_lengths}
use Rattle.mending.specs.Laws.Counting.{count_dropped_turn, count_kept_turn, counting_ends, counting_starts}
use lib.ListN.{replicate}
use mathlib.Core.Path.{ap}
use native.Mathlib.Omega.{arith}
use Rattle.mending.proofs.measuring.lengths_from.Goals as goal

pub loop-at-init : goal.loop-at-init
loop-at-init c =
    counting_starts c.args.counted c.args.ports c.args.size c.args.start c.args.text.now c.requires.0 _ _ (ap (replicate 64) c.none_yet-begun.ensures) (ap (replicate 64) c.no_keys-none.ensures)

pub read_line-read-requires : goal.read_line-read-requires
read_line-read-requires c = (c.loop-at-test.true, c.requires.1)

pub offset_bounds-follows-port : goal.offset_bounds-follows-port
offset_bounds-follows-port c = let b = c.read_line-read.ensures.1.port in omega arith

pub bounds-follows-port : goal.bounds-follows-port
bounds-follows-port c = let b = c.read_line-read.ensures.1.port in let i = c.loop-at.invariant.follows_long in omega arith

pub offset_bounds-keys-port : goal.offset_bounds-keys-port
offset_bounds-keys-port c = let b = c.read_line-read.ensures.1.port in omega arith

pub bounds-keys-port : goal.bounds-keys-port
bounds-keys-port c = let b = c.read_line-read.ensures.1.port in let i = c.loop-at.invariant.keys_long in omega arith

pub noted_by-noted-requires : goal.noted_by-noted-requires
noted_by-noted-requires c = c.read_line-read.ensures.1.starts

pub overflow_add-number : goal.overflow_add-number
overflow_add-number c = let i = c.loop-at.invariant.few in let t = c.loop-at-test.true in let g = c.well_formed.0.1 in omega arith

pub offset_bounds-follows-port-then-read : goal.offset_bounds-follows-port-then-read
offset_bounds-follows-port-then-read c = let b = c.read_line-read.ensures.1.port in omega arith

pub bounds-follows-port-then-read : goal.bounds-follows-port-then-read
bounds-follows-port-then-read c = let b = c.read_line-read.ensures.1.port in let i = c.loop-at.invariant.follows_long in omega arith

pub offset_bounds-keys-port-then-read : goal.offset_bounds-keys-port-then-read
offset_bounds-keys-port-then-read c = let b = c.read_line-read.ensures.1.port in omega arith

pub bounds-keys-port-then-read : goal.bounds-keys-port-then-read
bounds-keys-port-then-read c = let b = c.read_line-read.ensures.1.port in let i = c.loop-at.invariant.keys_long in omega arith

pub overflow_sub-mended : goal.overflow_sub-mended
overflow_sub-mended c = let b = c.read_line-read.ensures.1.ahead in omega arith

pub overflow_add-mended : goal.overflow_add-mended
overflow_add-mended c =
    let b = c.read_line-read.ensures.1 in
    let w = b.within in
    let a = b.ahead in
    let i = c.loop-at.invariant.behind in
    omega arith

pub loop-at-smaller-then-read : goal.loop-at-smaller-then-read
loop-at-smaller-then-read c = let b = c.read_line-read.ensures.1 in let a = b.ahead in let w = b.within in omega arith

pub loop-at-preserved-then-read : goal.loop-at-preserved-then-read
loop-at-preserved-then-read c =
    count_kept_turn c.args.counted c.args.ports c.args.size c.args.start c.args.text.now c.loop-at.follows c.loop-at.keys c.loop-at.at c.loop-at.mended c.loop-at.notes c.loop-at.number c.loop-at.invariant c.loop-at-test.true
    c.read_line-read.result c.read_line-read.ensures.0 c.followed_if-after.result c.followed_if-after.ensures c.noted_by-noted.result c.noted_by-noted.ensures c.more-notes.result c.more-notes.ensures
    c.if-read.true c.read_line-read.ensures.1.port c.with_key-shifted.result c.with_key-shifted.ensures

pub loop-at-smaller : goal.loop-at-smaller
loop-at-smaller c = let b = c.read_line-read.ensures.1 in let a = b.ahead in let w = b.within in omega arith

pub loop-at-preserved : goal.loop-at-preserved
loop-at-preserved c =
    count_dropped_turn c.args.counted c.args.ports c.args.size c.args.start c.args.text.now c.loop-at.follows c.loop-at.keys c.loop-at.at c.loop-at.mended c.loop-at.notes c.loop-at.number c.loop-at.invariant c.loop-at-test.true
    c.read_line-read.result c.read_line-read.ensures.0 c.followed_if-after.result c.followed_if-after.ensures c.noted_by-noted.result c.noted_by-noted.ensures c.more-notes.result c.more-notes.ensures c.if-read.false

pub returns : goal.returns
returns c =
    whole_lengths c.args.counted c.args.ports c.args.size c.args.start c.args.text.now c.loop-at.follows c.loop-at.keys c.loop-at.mended c.loop-at.notes
    (counting_ends c.args.counted c.args.ports c.args.size c.args.start c.args.text.now c.loop-at.follows c.loop-at.keys c.loop-at.at c.loop-at.mended c.loop-at.notes c.loop-at.number c.loop-at.invariant c.loop-at-test.false) _
    (λ i. record { mended = c.loop-at.mended; notes = c.with_last-all.ensures i; answer = 0 })
