-- What the minutes let be so of our sender's histories is an instance of what is let be so over any sending side.
use Rattle.std.specs.Prelude.{◌≡◌, ℕ, ◌*◌, ◌<◌}
use Rattle.std.proofs.Math.Path.{sym, ap}
use Rattle.std.proofs.Common.{subst, ◌∙◌, arith}
use Rattle.ground.specs.Truth.{and_right}
use Rattle.phases.specs.Sizes.{sized, start_sized}
use Rattle.packet.specs.Kinds.{payload_right}
use Rattle.receiver.specs.Laws.Sizes.{start_sizes_of}
use Rattle.link.specs.Assumed.{Assumed}
use Rattle.link.specs.History.{Handed, sending_of}
use Rattle.link.specs.Link.{AssumedOver, Link, kind_of}
use Rattle.link.specs.Sending.{Lawful, Reached, Sending, epoch_at}
use Rattle.link.specs.Proofs.Histories.Lawful.{history_lawful}
use Rattle.link.specs.Proofs.Histories.Reaching.{all_reached}

module _ (k : Link) (a : Assumed k) where
  abbrev own_side : Sending
  own_side = sending_of a.history k.payload k.client a.unranked

  handed : Handed a.history k.payload k.client
  unfolding start_sized
  handed =
      let s = start_sizes_of (kind_of k) k.ports k.payload k.window a.lines.sizes in
      record {
        least = s.some_bytes;
        most = s.few_bytes;
        payload_right_lem = sym (ap (λ (s : Sending). payload_right s.kind k.payload) a.sends) ∙ and_right (sized (kind_of k) k.ports k.payload k.window) (payload_right (kind_of k) k.payload) a.lines.sizes;
        whole = λ x. a.lines.client x ∙ ap (λ (s : Sending). s.x (epoch_at s.kind x) * k.payload) a.sends;
      }

  lawful : Lawful k.sending k.payload k.client
  lawful =
      subst (λ (s : Sending). Lawful s k.payload k.client) (sym a.sends)
      (history_lawful a.history a.allowed k.payload k.client handed a.unranked a.unranked_long)

  slots_are : k.sending.slots ≡ a.history.slots
  slots_are = ap (λ (s : Sending). s.slots) a.sends

  reaches : (slot : ℕ) → slot < a.history.slots → Reached k.ports k.pairing slot
  reaches slot b = subst (λ (n : ℕ). Reached n k.pairing slot) (sym a.all) (all_reached a.history.slots k.pairing a.paired slot b)

  pub ours : AssumedOver k
  ours =
      record {
        lawful = lawful;
        lines = a.lines;
        paired = rw (a.all, slots_are) a.paired;
        earliest = 0;
        not_before = λ p b. omega arith;
        covered = λ i from slot b d. reaches slot (rw slots_are at b);
      }
