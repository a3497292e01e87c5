use borrow.Author.Tests.{ne_eqb}
use mathlib.Core.Path.{◌∙◌}
use Rattle.packet.specs.Theorems.Symbols.{h4_row}
use Rattle.store.specs.Frames.{h4_at, packet_in, place_in}
use Rattle.store.proofs.frames.packet_in.Goals as goal

pub returns-then-group-eq-VC12 : goal.returns-then-group-eq-VC12
unfolding packet_in h4_at place_in
returns-then-group-eq-VC12 c = rw c.if-group-eq-VC12.true c.packet_by.ensures

pub returns : goal.returns
unfolding packet_in
returns c = c.packet_by-2.ensures ∙ h4_row _ _ (ne_eqb _ 1 c.if-group-eq-VC12.false)
