use Rattle.text.proofs.Reading.{index_position}
use Rattle.text.proofs.fields.piece_end.Goals as goal

pub returns : goal.returns
returns c = let e = index_position c.args.mark c.field-rest.result.now in cc
