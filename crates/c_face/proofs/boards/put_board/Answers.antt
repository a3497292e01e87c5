-- `put_board` meets its contract: the count, at most 64, and the wait, then each slot's word and number.
-- Two pieces fill the whole buffer (`board_whole`).
use Rattle.std.proofs.Common.{◌∙◌}
use Rattle.sender.specs.Table.{slot_count}
use Rattle.c_face.specs.Laws.Sharing.{flag_byte}
use Rattle.c_face.proofs.Showing.{board_whole}
use Rattle.c_face.proofs.boards.put_board.Goals as goal

pub returns : goal.returns
unfolding slot_count
returns c =
    board_whole c.args.board _ _ c.args.out.now _ _ c.requires c.size_byte.ensures (c.from.ensures ∙ flag_byte c.args.board.wait) c.put_bytes.ensures (c.put_pairs.ensures _)
