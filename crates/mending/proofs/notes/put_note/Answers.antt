use Rattle.mending.specs.Laws.Noting.{put_nothing, read_dropped_lem, read_other, read_same}
use borrow.Author.Tests.{not-false, not-true}
use native.Mathlib.Omega.{arith}
use Rattle.mending.proofs.notes.put_note.Goals as goal

pub put_dropped-requires : goal.put_dropped-requires
put_dropped-requires c =
    let b = c.requires.0 in
    let u = b.ends in
    let w = b.within in
    (b.starts, omega arith, rw (read_dropped_lem c.args.number c.args.text.now c.args.at c.args.mended.now c.args.to c.args.read (not-true c.args.read.kept c.if-not-read.true)) at c.requires.2)

pub returns-then-not-read : goal.returns-then-not-read
returns-then-not-read c =
    rw (read_dropped_lem c.args.number c.args.text.now c.args.at c.args.mended.now c.args.to c.args.read (not-true c.args.read.kept c.if-not-read.true)) c.put_dropped.ensures

pub overflow_sub-digit : goal.overflow_sub-digit
overflow_sub-digit c = let d = c.requires.0.digit (not-false c.args.read.kept c.if-not-read.false) in let e = d.0 in omega arith

pub overflow_add-to : goal.overflow_add-to
overflow_add-to c =
    let b = c.requires.0 in
    let d = b.digit (not-false c.args.read.kept c.if-not-read.false) in
    let e = d.0 in
    let f = d.1 in
    let g = b.ends in
    let h = b.within in
    let i = c.requires.1 in
    omega arith

pub returns-then-old-new : goal.returns-then-old-new
returns-then-old-new c =
    rw (read_same c.args.number c.args.text.now c.args.at c.args.mended.now c.args.to c.args.read (not-false c.args.read.kept c.if-not-read.false) c.byte_at-old.result c.byte_at-new.result
    c.byte_at-old.ensures c.byte_at-new.ensures c.if-old-new.true) (put_nothing c.args.notes.now c.args.start)

pub overflow_sub-digit-2 : goal.overflow_sub-digit-2
overflow_sub-digit-2 c = let d = c.requires.0.digit (not-false c.args.read.kept c.if-not-read.false) in let e = d.0 in omega arith

pub put_restored-requires : goal.put_restored-requires
put_restored-requires c =
    rw (read_other c.args.number c.args.text.now c.args.at c.args.mended.now c.args.to c.args.read (not-false c.args.read.kept c.if-not-read.false) c.byte_at.result c.byte_at-old.result c.byte_at-new.result
    c.byte_at.ensures c.byte_at-old.ensures c.byte_at-new.ensures c.if-old-new.false) at c.requires.2

pub returns : goal.returns
returns c =
    rw (read_other c.args.number c.args.text.now c.args.at c.args.mended.now c.args.to c.args.read (not-false c.args.read.kept c.if-not-read.false) c.byte_at.result c.byte_at-old.result c.byte_at-new.result
    c.byte_at.ensures c.byte_at-old.ensures c.byte_at-new.ensures c.if-old-new.false) c.put_restored.ensures
