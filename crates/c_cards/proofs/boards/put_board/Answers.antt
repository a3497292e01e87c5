use mathlib.Core.Path.{◌∙◌}
use Rattle.c_face.specs.Laws.Sharing.{sized}
use Rattle.c_cards.proofs.boards.put_board.Goals as goal

pub returns : goal.returns
returns c = c.put_board.ensures ∙ sized 130 _ c.args.out.now c.requires
