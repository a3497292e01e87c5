use mathlib.Core.Path.{refl}
use Rattle.receiver.specs.Frame.{steady_rows}
use Rattle.receiver.proofs.Arriving.{packets_after_step}
use Rattle.receiver.proofs.arrival.go_on.Goals as goal

pub returns : goal.returns
unfolding steady_rows
returns c =
    rw (c.put_symbol.ensures, c.put_next.ensures, c.next_tag.ensures) (rw (packets_after_step _ _ _) refl)
