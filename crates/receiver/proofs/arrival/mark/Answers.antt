-- Where nothing is written, the definition leaves the marks as they are (`mark_none`).
use Rattle.std.proofs.Common.{rules, ◌≡◌, refl, false, ◌&&◌}
use Rattle.packet.specs.Kinds.{ends_epoch}
use Rattle.step.specs.Arrival.{is_kept, kept_at}
use Rattle.receiver.proofs.Arriving.{mark_none}
use Rattle.receiver.proofs.arrival.mark.Goals as goal

pub returns-else-is_some_and : goal.returns-else-is_some_and
returns-else-is_some_and c =
    let h : (is_kept c.args.taken && ends_epoch c.args.kind (kept_at c.args.taken)) ≡ false = search rules in
    mark_none _ _ _ _ _ refl (rw c.if-taken.false h)
