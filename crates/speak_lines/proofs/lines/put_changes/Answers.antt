-- In runs the text is what speaking in runs writes (`changes_runs`), else what speaking each change writes (`changes_each`).
-- The room required leaves no refusal by length.
use Rattle.std.proofs.Common.{refl}
use Rattle.spoken.specs.Theorems.NothingLost.{runs_speech_whole, speech_whole}
use Rattle.speak_lines.proofs.Printing.{changes_each, changes_runs, told_written}
use Rattle.speak_lines.proofs.lines.put_changes.Goals as goal

pub returns-then-runs : goal.returns-then-runs
returns-then-runs c =
    let n = told_written _ _ _ c.speak_runs.ensures.told.0 (runs_speech_whole c.args.out.now c.args.changes) c.unwrap_or.ensures in
    rw n (changes_runs c.args.runs c.args.out.now _ _ c.requires c.if-runs.true c.args.changes (refl, c.speak_runs.ensures.told.1))

pub returns : goal.returns
returns c =
    let n = told_written _ _ _ c.speak.ensures.told.0 (speech_whole c.args.out.now c.args.changes) c.unwrap_or-2.ensures in
    rw n (changes_each c.args.runs c.args.out.now _ _ c.requires c.if-runs.false c.args.changes (refl, c.speak.ensures.told.1))
