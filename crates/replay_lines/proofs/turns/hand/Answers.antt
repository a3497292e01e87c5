-- The parts of rows and store that are handed on are as long as the receiver asks; the payload is what the line says, since it was read into zeros.
use Rattle.std.proofs.Common.{ℕ, sym, refl, length-take-le}
use lib.ListN.{length-replicate}
use Rattle.replay_lines.specs.Turn.{framed_rows, framed_store}
use Rattle.replay_lines.proofs.Deciding.{payload_is}
use Rattle.replay_lines.proofs.turns.hand.Goals as goal

pub read_payload-requires : goal.read_payload-requires
read_payload-requires c = rw (c.requires.1, length-replicate {A = ℕ} c.args.replay.size 0) c.requires.0

pub slice_bounds-frame-end-2 : goal.slice_bounds-frame-end-2
slice_bounds-frame-end-2 c =
    sym (length-take-le c.rows_for-n.result c.args.rows.now (rw c.rows_for-n.ensures c.requires.2))

pub slice_bounds-frame-end-4 : goal.slice_bounds-frame-end-4
slice_bounds-frame-end-4 c =
    sym (length-take-le c.store_of-m.result c.args.store.now (rw c.store_of-m.ensures c.requires.3))

pub returns : goal.returns
unfolding framed_rows framed_store
returns c =
    let count = c.rows_for-n.ensures in
    let bytes = c.store_of-m.ensures in
    let read = c.read_payload.ensures in
    let payload = payload_is c.args.replay.size c.args.place c.args.text.now c.args.payload.now _ c.requires.1 read in
    let taken = c.frame.ensures in
    let rows = rw (count, bytes, payload) at taken.1 in
    let store = rw (count, bytes, payload) at taken.2 in
    (rw (count, rows) refl, rw (bytes, store) refl)
