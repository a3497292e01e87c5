use mathlib.Core.Path.{◌∙◌, sym}
use Rattle.c_face.specs.Laws.Sharing.{board_none, board_there, room_said}
use Rattle.c_face.proofs.sharing.board_in.Goals as goal

pub board_in-requires : goal.board_in-requires
board_in-requires c = let args = c.args in room_said args.at 128 args.bytes.now (sym c.has_room.ensures ∙ c.if-has_room.true)

pub returns-then-has_room : goal.returns-then-has_room
returns-then-has_room c = let args = c.args in c.board_in.ensures ∙ sym (board_there args.bytes.now args.at args.count args.wait (sym c.has_room.ensures ∙ c.if-has_room.true))

pub returns : goal.returns
returns c = let args = c.args in c.board_in-2.ensures ∙ sym (board_none args.bytes.now args.at args.count args.wait (sym c.has_room.ensures ∙ c.if-has_room.false))
