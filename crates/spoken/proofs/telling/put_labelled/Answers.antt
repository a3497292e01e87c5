use Rattle.spoken.specs.SpeakingRuns.{rows_text}
use Rattle.spoken.proofs.InRuns.{said_room, said_then}
use Rattle.spoken.proofs.telling.put_labelled.Goals as goal

pub put_rows-requires : goal.put_rows-requires
put_rows-requires c =
    said_room c.args.label.now (rows_text c.args.first c.args.last c.args.mark) c.args.out.now c.args.at c.requires c.put-next.ensures

pub returns : goal.returns
returns c =
    said_then c.args.label.now (rows_text c.args.first c.args.last c.args.mark) c.requires c.put-next.ensures c.put_rows.ensures
