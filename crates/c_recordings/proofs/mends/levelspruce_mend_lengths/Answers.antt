use Rattle.c_recordings.proofs.LengthsTold.{lengths_done, lengths_refused}
use Rattle.c_recordings.proofs.mends.levelspruce_mend_lengths.Goals as goal

pub returns-then-told-ne0 : goal.returns-then-told-ne0
returns-then-told-ne0 c =
    lengths_refused c.args.recording.now c.mend_lengths-told.result c.mend_lengths-told.ensures c.args.mended_length.now c.args.notes_length.now c.if-told-ne0.true

pub returns : goal.returns
returns c =
    lengths_done c.args.recording.now c.mend_lengths-told.result c.mend_lengths-told.ensures c.args.mended_length.now c.args.notes_length.now c.if-told-ne0.false
