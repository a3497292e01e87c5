use mathlib.Core.Path.{◌∙◌, sym}
use lib.ListN.{length}
use Rattle.c_face.specs.Laws.Sharing.{put_none, put_there, room_said}
use Rattle.c_face.proofs.sharing.put_bytes.Goals as goal

pub put_bytes-requires : goal.put_bytes-requires
put_bytes-requires c = let args = c.args in room_said args.at (length args.from.now) args.out.now (sym c.has_room.ensures ∙ c.if-has_room.true)

pub returns-then-has_room : goal.returns-then-has_room
returns-then-has_room c = let args = c.args in c.put_bytes.ensures ∙ sym (put_there args.from.now args.at args.out.now (sym c.has_room.ensures ∙ c.if-has_room.true))

pub returns-else-has_room : goal.returns-else-has_room
returns-else-has_room c = let args = c.args in sym (put_none args.from.now args.at args.out.now (sym c.has_room.ensures ∙ c.if-has_room.false))
