use Rattle.text.proofs.Reading.{same_pointwise}
use Rattle.text.proofs.fields.is_word.Goals as goal

pub returns : goal.returns
returns c = let e = same_pointwise c.args.field.now c.args.word.now in cc
