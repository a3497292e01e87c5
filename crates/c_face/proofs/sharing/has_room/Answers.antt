use mathlib.Core.Path.{sym}
use Rattle.c_face.specs.Laws.Sharing.{no_room, room_left}
use Rattle.c_face.proofs.sharing.has_room.Goals as goal

pub returns-then-bytes-count : goal.returns-then-bytes-count
returns-then-bytes-count c = let args = c.args in sym (no_room args.at args.count args.bytes.now c.if-bytes-count.true)

pub returns : goal.returns
returns c = let args = c.args in room_left args.at args.count args.bytes.now c.if-bytes-count.false
