-- The word and then the bit as a number are together the text; room for both is room for each.
use Rattle.std.proofs.Common.{◌≡◌, ◌∙◌, if◌then◌else◌, length}
use Rattle.text.specs.Laws.Putting.{is_put, put_then, room, shorter}
use Rattle.text.specs.Output.{decimal_text, ended}
use Rattle.text.specs.Text.{LINE-END, TAB}
use Rattle.session_lines.specs.Output.{WAIT, wait_text}
use Rattle.session_lines.proofs.Flags.{flag_number}
use Rattle.session_lines.proofs.output.put_wait.Goals as goal

pub returns : goal.returns
unfolding wait_text
returns c =
    let e : c.from.result ≡ (if c.args.wait then 1 else 0) = c.from.ensures ∙ flag_number c.args.wait in
    let b = ended (decimal_text c.from.result) LINE-END in
    let h = rw (← e) at c.requires in
    let p = is_put (shorter (ended WAIT TAB) b c.args.at (length c.args.out.now) h) c.put-next.ensures in
    rw (← e) (put_then p (is_put (room p b h) c.put_number.ensures))
