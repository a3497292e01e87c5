use mathlib.Core.Path.{◌∙◌}
use Rattle.c_face.specs.Laws.Sharing.{sized}
use Rattle.c_cards.proofs.boards.put_ranks.Goals as goal

pub returns : goal.returns
returns c = c.put_ranks.ensures ∙ sized 68 _ c.args.out.now c.requires
