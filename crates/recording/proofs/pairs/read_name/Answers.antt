use Rattle.recording.proofs.Lines.{none_told}
use Rattle.recording.specs.Pairs.{named}
use Rattle.recording.proofs.pairs.read_name.Goals as goal

pub returns-then-is_word-is_none-3 : goal.returns-then-is_word-is_none-3
unfolding named
returns-then-is_word-is_none-3 c =
    rw (← c.is_word.ensures, none_told c.args.pairs.kind c.is_none.result c.is_none.ensures, c.if-is_word-is_none.false, ← c.is_word-2.ensures, none_told c.args.pairs.hold_off c.is_none-2.result c.is_none-2.ensures, c.if-is_word-is_none-2.false, ← c.is_word-3.ensures, none_told c.args.pairs.restore c.is_none-3.result c.is_none-3.ensures, c.if-is_word-is_none-3.true) c.time_named-then-is_word-is_none-3.ensures

pub returns : goal.returns
unfolding named
returns c =
    rw (← c.is_word.ensures, none_told c.args.pairs.kind c.is_none.result c.is_none.ensures, c.if-is_word-is_none.false, ← c.is_word-2.ensures, none_told c.args.pairs.hold_off c.is_none-2.result c.is_none-2.ensures, c.if-is_word-is_none-2.false, ← c.is_word-3.ensures, none_told c.args.pairs.restore c.is_none-3.result c.is_none-3.ensures, c.if-is_word-is_none-3.false) c.wrong_field.ensures
