use Rattle.packet.specs.Theorems.Symbols.{entry_in_lem, row_is}
use Rattle.std.proofs.Common.{refl, arith}
use Rattle.store.specs.Laws.Places.{place_fits}
use Rattle.store.proofs.Packets.{read_more, read_none}
use Rattle.store.proofs.frames.packet_by.Goals as goal

pub loop-k-init : goal.loop-k-init
loop-k-init c = (c.epoch_frames-frames.ensures, read_none _ _ _ _ _ refl)

pub overflow_add-at : goal.overflow_add-at
overflow_add-at c =
    let e = c.place-at.ensures in
    let m = place_fits c.args.group c.args.port c.loop-k.k (omega arith) (omega arith) (omega arith) (omega arith) (omega arith) in
    omega arith

pub bounds-row-entry : goal.bounds-row-entry
bounds-row-entry c =
    let e = c.entry_at-entry.ensures in
    let n = c.loop-k.invariant.0 in
    let long = c.loop-k.invariant.1.long in
    let b = entry_in_lem c.args.kind c.loop-k.k (omega arith) in
    omega arith

pub bounds-row-entry-in-loop-k : goal.bounds-row-entry-in-loop-k
bounds-row-entry-in-loop-k c =
    let e = c.entry_at-entry.ensures in
    let n = c.loop-k.invariant.0 in
    let long = c.loop-k.invariant.1.long in
    let b = entry_in_lem c.args.kind c.loop-k.k (omega arith) in
    omega arith

pub loop-k-preserved : goal.loop-k-preserved
loop-k-preserved c =
    let n = c.loop-k.invariant.0 in (
      c.loop-k.invariant.0,
      read_more c.args.kind c.args.group c.args.port c.loop-k.k _ _ _ _ _ c.args.store.now _ (omega arith) c.loop-k.invariant.1 c.place-at.ensures c.byte_at-h4.ensures
          c.entry_at-entry.ensures refl c.entry_with.ensures,
    )

pub returns : goal.returns
returns c =
    let e = c.loop-k.invariant.0 in
    let o = c.loop-k.invariant.1 in
    row_is _ _ _ o.long (λ j b. o.has j (omega arith))
