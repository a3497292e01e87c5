use Rattle.std.proofs.Common.{◌∙◌, refl}
use Rattle.receiver.specs.Anew.{anew_fits}
use Rattle.receiver.proofs.Reading.{anew_done}
use Rattle.receiver.proofs.flagging.anew.Goals as goal

pub returns : goal.returns
unfolding anew_fits
returns c =
    anew_done _ _ _ _ c.get-group.ensures c.ports_in-ports.ensures _ (c.is_lent.ensures ∙ rw c.store_for-whole.ensures refl) _ (c.if-not-is_lent.false) c.flag_ports.ensures
