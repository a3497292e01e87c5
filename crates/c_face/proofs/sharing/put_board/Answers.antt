use mathlib.Core.Path.{◌∙◌, sym}
use Rattle.c_face.specs.Laws.Sharing.{sized, unsized}
use Rattle.c_face.proofs.sharing.put_board.Goals as goal

pub returns-then-out-eq-BOARD_BYTES : goal.returns-then-out-eq-BOARD_BYTES
returns-then-out-eq-BOARD_BYTES c = c.put_board.ensures ∙ sym (sized 130 _ c.args.out.now c.if-out-eq-BOARD_BYTES.true)

pub returns-else-out-eq-BOARD_BYTES : goal.returns-else-out-eq-BOARD_BYTES
returns-else-out-eq-BOARD_BYTES c = sym (unsized 130 _ c.args.out.now c.if-out-eq-BOARD_BYTES.false)
