use Rattle.text.specs.Ascii.{ascii}
use Rattle.text.specs.Output.{decimal_text, ended}
use Rattle.text.specs.Text.{LINE-END, TAB}
use Rattle.ground.specs.Flags.{one_if}
use Rattle.spoken.specs.SpeakingRuns.{still_waits}
use Rattle.std.proofs.Common.{◌≡◌, ◌∙◌}
use Rattle.spoken.proofs.Flags.{flag_number}
use Rattle.spoken.proofs.Saying.{both_put}
use Rattle.spoken.proofs.telling.put_still.Goals as goal

pub returns : goal.returns
unfolding still_waits
returns c =
    let e : c.from.result ≡ one_if c.args.wait = c.from.ensures ∙ flag_number c.args.wait in
    both_put (ended (ascii "wait") TAB) (ended (decimal_text (one_if c.args.wait)) LINE-END) c.requires c.put-next.ensures (rw e at c.put_number.ensures)
