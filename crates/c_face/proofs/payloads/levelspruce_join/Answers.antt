use mathlib.Core.Path.{◌∙◌, ap}
use Rattle.payload.specs.Answers.{number_of}
use Rattle.c_face.proofs.payloads.levelspruce_join.Goals as goal

pub returns : goal.returns
returns c = (c.number.ensures ∙ ap number_of c.join-answer.ensures.0, c.join-answer.ensures.1)
