use mathlib.Core.Path.{◌∙◌, ap}
use Rattle.c_face.specs.Keeping.{sender_of}
use Rattle.c_face.specs.Laws.Sharing.{themselves}
use Rattle.c_cards.proofs.keeping.sender_of.Goals as goal

pub returns : goal.returns
returns c = c.sender_of.ensures ∙ ap sender_of (themselves 397 c.args.state.now c.requires)
