-- The road of a link meets all that the transport asks for.
use Rattle.std.specs.Prelude.{◌≡◌, refl, true, false, List, ◌∷◌, ◌++◌, ℕ, ◌+◌, ◌-◌, ◌/◌, ◌%◌, ◌≤◌, ◌<◌, get_or}
use Rattle.std.proofs.Common.{◌∙◌, ap, ⊎_elim}
use Rattle.packet.specs.Changes.{kept_part}
use Rattle.packet.specs.Kinds.{first_tag, frames, place_of, starts_epoch, tag_of}
use Rattle.packet.specs.Theorems.Tags.{first_starts}
use Rattle.packet.specs.declared.ruling.Ruling.{Ruling}
use Rattle.packet.specs.Laws.Epochs.{place_lt, position_is}
use Rattle.packet.specs.Symbols.{packet_row}
use Rattle.step.specs.OwnCount.{odd_packet}
use Rattle.step.specs.Sent.{KeptAs, SentWith}
use Rattle.step.specs.Theorems.Packets.{good_even}
use Rattle.link.specs.Proofs.Laws.Counts.{kept_counts, tag_place}
use Rattle.link.specs.Link.{Arrived, AssumedOver, Damaged, Link, road_of, sent_to}
use Rattle.link.specs.Moments.{Unready}
use Rattle.link.specs.Proofs.Contents.{number_of, packet_of}
use Rattle.link.specs.Proofs.Fair.{Fair}
use Rattle.link.specs.Proofs.Judged.Seen.{number_of_lem, packet_of_lem}
use Rattle.link.specs.Sending.{Sending, epoch_number, epoch_start}

-- what lines never change comes as sent
placed_as : (kind changes : ℕ) (sent came : List ℕ) → Arrived kind changes sent came → (k : ℕ) → k < frames kind → kept_part kind k (get_or came k 0) ≡ kept_part kind k (get_or sent k 0)
placed_as kind changes sent came a k l = ⊎_elim (λ (e : came ≡ sent). rw e refl) (λ (d : Damaged kind changes sent came). d.placed k l) a

module _ (k : Link) (a : AssumedOver k) where
  abbrev s : Sending
  s = k.sending

  -- the frame as it was sent
  sent_then : (p x : ℕ) → p < k.ports
      → SentWith s.kind (first_tag s.kind s.first + (epoch_start s.kind (x / frames s.kind) + x % frames s.kind)) (get_or (sent_to k (x / frames s.kind) p) (x % frames s.kind) 0)
  sent_then p x b = a.lawful.counts (x / frames s.kind) (k.pairing p) (x % frames s.kind) (a.paired.below p b) (place_lt s.kind x)

  came_placed : (p x : ℕ) → p < k.ports
      → kept_part s.kind (x % frames s.kind) (get_or (k.came (x / frames s.kind) p) (x % frames s.kind) 0)
      ≡ kept_part s.kind (x % frames s.kind) (get_or (sent_to k (x / frames s.kind) p) (x % frames s.kind) 0)
  came_placed p x b =
      placed_as s.kind s.changes (sent_to k (x / frames s.kind) p) (k.came (x / frames s.kind) p) (a.lines.arrived (x / frames s.kind) p b) (x % frames s.kind) (place_lt s.kind x)

  placed : (p x : ℕ) → p < k.ports → KeptAs s.kind (first_tag s.kind s.first + x) (get_or (k.came (x / frames s.kind) p) (x % frames s.kind) 0)
  placed p x b =
      let i : ℕ = x / frames s.kind in
      let place : place_of s.kind (tag_of s.kind (first_tag s.kind s.first + (epoch_start s.kind i + x % frames s.kind))) ≡ x % frames s.kind =
      tag_place s.kind s.first i (x % frames s.kind) (place_lt s.kind x) in
      let there : KeptAs s.kind (first_tag s.kind s.first + (epoch_start s.kind i + x % frames s.kind)) (get_or (k.came i p) (x % frames s.kind) 0) =
      record { byte = get_or (sent_to k i p) (x % frames s.kind) 0; sent = sent_then p x b; same = rw place (came_placed p x b) } in
      rw (position_is s.kind x) at there

  counted : (t p : ℕ) (done rest : List ℕ) → p < k.ports → k.order t ≡ done ++ (p ∷ rest) → k.delay p + k.first p ≤ t → Unready (road_of k) t done
      → SentWith s.kind (first_tag s.kind s.first + (t - k.delay p)) (get_or (k.came ((t - k.delay p) / frames s.kind) p) ((t - k.delay p) % frames s.kind) 0)
  counted t p done rest b is_order late un =
      let x : ℕ = t - k.delay p in
      let i : ℕ = x / frames s.kind in
      let c =
      kept_counts s.kind s.first i (x % frames s.kind) (sent_to k i p) (k.came i p) (place_lt s.kind x) (came_placed p x b) (a.lines.spared t p done rest b is_order late un) (sent_then p x b) in
      rw (position_is s.kind x) at c

  even : (i p : ℕ) → p < k.ports → odd_packet s.kind (number_of (road_of k) i) (packet_of (road_of k) i p) ≡ false
  even i p b =
      ap (λ (n : ℕ). odd_packet s.kind n (packet_of (road_of k) i p)) (number_of_lem k i)
      ∙ ap (λ (ns : List ℕ). odd_packet s.kind (epoch_number s.kind s.first i) ns) (packet_of_lem k i p)
      ∙ ⊎_elim
      (λ (e : k.came i p ≡ sent_to k i p).
      ap (λ (l : List ℕ). odd_packet s.kind (epoch_number s.kind s.first i) (packet_row s.kind l)) e
      ∙ good_even s.kind (epoch_number s.kind s.first i) (packet_row s.kind (sent_to k i p)) (ap (λ (r : Ruling). r.good) (a.lawful.reads i (k.pairing p) (a.paired.below p b))))
      (λ (d : Damaged s.kind s.changes (sent_to k i p) (k.came i p)). a.lawful.even i (k.pairing p) (k.came i p) (a.paired.below p b) d.least d.most)
      (a.lines.arrived i p b)

  starts : starts_epoch s.kind (first_tag s.kind s.first) ≡ true
  starts = first_starts s.kind s.first a.lawful.first

  pub fair : Fair (road_of k)
  unfolding road_of
  fair =
      record {
        sizes = a.lines.sizes;
        placed = λ p x b late. placed p x b;
        counted = counted;
        even = even;
        long = λ p x b. a.lawful.long x (k.pairing p) (a.paired.below p b);
        spread = a.lines.spread;
        once = a.lines.once;
        only = a.lines.only;
        room = a.lines.room;
        eight = a.lines.eight;
        starts = starts;
      }
