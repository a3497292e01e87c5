-- `put_rows` meets its contract: the word alone where IDLE has no number, else the word and the numbers.
use Rattle.text.specs.Output.{ended, word_text}
use Rattle.text.specs.Text.{TAB}
use Rattle.text.specs.Laws.Putting.{is_put}
use Rattle.spoken.specs.SpeakingRuns.{numbers_text}
use Rattle.spoken.proofs.InRuns.{rows_idle, rows_numbered, said_room, said_then}
use Rattle.spoken.proofs.telling.put_rows.Goals as goal

pub returns-then-is_unnumbered : goal.returns-then-is_unnumbered
returns-then-is_unnumbered c =
    let e = rows_idle c.args.first c.args.last c.args.mark c.is_unnumbered.result c.is_unnumbered.ensures c.if-is_unnumbered.true in
    rw e (is_put (rw e at c.requires) c.put.ensures)

pub put_numbers-requires : goal.put_numbers-requires
put_numbers-requires c =
    let e = rows_numbered c.args.first c.args.last c.args.mark c.is_unnumbered.result c.is_unnumbered.ensures c.if-is_unnumbered.false in
    said_room (ended (word_text c.args.first.word) TAB) (numbers_text c.args.first.number c.args.last.number c.args.mark) c.args.out.now c.args.at (rw e at c.requires) c.put_word-next.ensures

pub returns : goal.returns
returns c =
    let e = rows_numbered c.args.first c.args.last c.args.mark c.is_unnumbered.result c.is_unnumbered.ensures c.if-is_unnumbered.false in
    rw e (said_then (ended (word_text c.args.first.word) TAB) (numbers_text c.args.first.number c.args.last.number c.args.mark) (rw e at c.requires) c.put_word-next.ensures c.put_numbers.ensures)
