-- A frame that is neither 1 nor 9 does what the definition decides, whichever way it goes: three exits are the call of `decided` itself.
-- The short way is right since a steady frame in mid-epoch changes the next tag, one symbol and the store alone, and answers 0 (`arrive_steady`).
use mathlib.Core.Path.{sym, ◌∙◌}
use borrow.Author.Tests.{ne_eqb}
use Rattle.receiver.proofs.Arriving.{arrive_steady}
use Rattle.receiver.proofs.arrival.arrive.Goals as goal

pub returns-then-is_mid_epoch : goal.returns-then-is_mid_epoch
returns-then-is_mid_epoch c =
    arrive_steady _ _ _ _ _ _ _ c.requires _ _ _ _ (ne_eqb _ 1 c.if-group-eq-VC12.false) c.get-step.ensures (sym c.is_steady.ensures ∙ c.if-is_steady.true) c.distance_in-at.ensures (sym c.is_mid_epoch.ensures ∙ c.if-is_mid_epoch.true) c.go_on.ensures c.keep.ensures
