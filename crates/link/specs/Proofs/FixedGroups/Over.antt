-- What request 2026-12 lets be so of a fixed group is an instance of what is let be so over any sending side.
use Rattle.std.specs.Prelude.{◌≡◌, ℕ, ◌<◌}
use Rattle.std.proofs.Common.{sym, ap, subst, arith}
use Rattle.link.specs.FixedGroup.{AssumedFixed}
use Rattle.link.specs.Link.{AssumedOver, Link}
use Rattle.link.specs.Proofs.FixedGroups.Sure.{fixed_lawful}
use Rattle.link.specs.Proofs.Histories.Reaching.{all_reached}
use Rattle.link.specs.Sending.{Lawful, Reached, Sending}

module _ (k : Link) (a : AssumedFixed k) where
  lawful : Lawful k.sending k.payload k.client
  lawful = subst (λ (s : Sending). Lawful s k.payload k.client) (sym a.sends) (fixed_lawful a.group a.numbered k.payload k.client)

  slots_are : k.sending.slots ≡ a.group.x
  slots_are = ap (λ (s : Sending). s.slots) a.sends

  reaches : (slot : ℕ) → slot < a.group.x → Reached k.ports k.pairing slot
  reaches slot b = subst (λ (n : ℕ). Reached n k.pairing slot) (sym a.all) (all_reached a.group.x k.pairing a.paired slot b)

  pub fixed_over : AssumedOver k
  fixed_over =
      record {
        lawful = lawful;
        lines = a.lines;
        paired = rw (a.all, slots_are) a.paired;
        earliest = 0;
        not_before = λ p b. omega arith;
        covered = λ i from slot b d. reaches slot (rw slots_are at b);
      }
