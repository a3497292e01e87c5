use mathlib.Core.Path.{◌∙◌}
use Rattle.c_face.specs.Laws.Sharing.{sized}
use Rattle.c_cards.proofs.keeping.put_sender.Goals as goal

pub returns : goal.returns
returns c = c.put_sender.ensures ∙ sized 397 _ c.args.state.now c.requires
