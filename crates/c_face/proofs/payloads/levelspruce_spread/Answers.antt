use mathlib.Core.Path.{◌∙◌, ap}
use Rattle.payload.specs.Answers.{number_of}
use Rattle.c_face.proofs.payloads.levelspruce_spread.Goals as goal

pub returns : goal.returns
returns c = (c.number.ensures ∙ ap number_of c.spread-answer.ensures.0, c.spread-answer.ensures.1)
