use Rattle.session_lines.proofs.Answering.{board_count, shown_board, shown_short}
use Rattle.session_lines.proofs.boards.show.Goals as goal

pub returns-then-out-lt-OUTPUT_ROOM : goal.returns-then-out-lt-OUTPUT_ROOM
returns-then-out-lt-OUTPUT_ROOM c =
    shown_short c.args.table c.args.out.now c.if-out-lt-OUTPUT_ROOM.true

pub put_board-requires : goal.put_board-requires
put_board-requires c =
    (rw c.board_of.ensures (board_count c.args.table), c.if-out-lt-OUTPUT_ROOM.false)

pub returns : goal.returns
returns c =
    shown_board c.args.table c.args.out.now c.if-out-lt-OUTPUT_ROOM.false _ _ c.board_of.result c.board_of.ensures c.put_board.ensures
