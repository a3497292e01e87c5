-- The four parts of the line are put one behind the other, and together are its text (`put_then`); room for all of it is room for each (`shorter`).
use mathlib.Core.List.{◌++◌}
use lib.ListN.{length}
use Rattle.text.specs.Laws.Putting.{is_put, put_then, room, shorter}
use Rattle.text.specs.Output.{decimal_text, ended, word_text}
use Rattle.text.specs.Text.{LINE-END, TAB}
use Rattle.session_lines.specs.Output.{SLOT, slot_text}
use Rattle.session_lines.proofs.output.put_slot.Goals as goal

pub returns : goal.returns
unfolding slot_text
returns c =
    let a = ended SLOT TAB in
    let b = ended (decimal_text c.args.slot) TAB in
    let d = ended (word_text c.args.word) TAB in
    let e = ended (decimal_text c.args.number) LINE-END in
    let n = length c.args.out.now in
    let two = shorter (a ++ b ++ d) e c.args.at n c.requires in
    let one = shorter (a ++ b) d c.args.at n two in
    let p = is_put (shorter a b c.args.at n one) c.put-second.ensures in
    let q = put_then p (is_put (room p b one) c.put_number-third.ensures) in
    let r = put_then q (is_put (room q d two) c.put_word-fourth.ensures) in
    put_then r (is_put (room r e c.requires) c.put_number.ensures)
