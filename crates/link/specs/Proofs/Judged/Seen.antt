-- What is seen of a port in the epoch after epoch i: of a packet that came as sent what is to be read of it, and of a damaged one that it is refused.
use Rattle.std.specs.Prelude.{◌≡◌, refl, true, not}
use Rattle.std.proofs.Common.{◌∙◌, ap}
use Rattle.std.proofs.Math.Path.{ap₂}
use mathlib.Core.List.{List}
use Prim.Native.Nat.{ℕ, ◌+◌, ◌*◌, ◌/◌, ◌%◌, ◌<◌}
use native.Mathlib.Omega.{arith}
use Rattle.std.proofs.Math.ListN.{get_or}
use Rattle.judge.specs.declared.seen.Seen.{Seen}
use Rattle.judge.specs.Seen.{refused_seen, seen_at}
use Rattle.packet.specs.Kinds.{frames}
use Rattle.packet.specs.Laws.Epochs.{epoch_in, place_in}
use Rattle.packet.specs.Symbols.{packet_row}
use Rattle.packet.specs.Theorems.Symbols.{row_ext}
use Rattle.packet.specs.Theorems.Tags.{frames_some}
use Rattle.packet.specs.declared.ruling.Ruling.{Ruling}
use Rattle.step.specs.OwnCount.{own_ruling}
use Rattle.receiver.specs.Laws.Seen.{seen_each}
use Rattle.receiver.specs.Laws.Sizes.{start_sizes_of}
use Rattle.link.specs.Proofs.Contents.{all_seen_after, number_of, packet_of, seen_after}
use Rattle.link.specs.Proofs.Laws.Counts.{tag_epoch}
use Rattle.link.specs.Link.{AssumedOver, Damaged, Link, kind_of, road_of, sent_to}
use Rattle.link.specs.Sending.{epoch_number, epoch_start, seen_sent}

-- what a port is by its ruling packet, where it came whole and so did the frames
abbrev seen_by : Ruling → Seen
seen_by q = record { whole = true; good = q.good; word = q.word; number = q.number; gid = q.gid; here = true }

module _ (k : Link) where
  -- the receiver's number of an epoch is the sending side's
  pub number_of_lem : (i : ℕ) → number_of (road_of k) i ≡ epoch_number (kind_of k) k.sending.first i
  unfolding number_of road_of
  number_of_lem i =
      let z : epoch_start (kind_of k) i + 0 ≡ epoch_start (kind_of k) i = omega arith in
      rw z at (tag_epoch (kind_of k) k.sending.first i 0 (frames_some (kind_of k)))

  -- the packet that came, as its frames bring it
  pub packet_of_lem : (i p : ℕ) → packet_of (road_of k) i p ≡ packet_row (kind_of k) (k.came i p)
  unfolding packet_of road_of
  packet_of_lem i p =
      let kind : ℕ = kind_of k in
      row_ext kind (λ j. get_or (k.came ((i * frames kind + j) / frames kind) p) ((i * frames kind + j) % frames kind) 0) (λ j. get_or (k.came i p) j 0)
      (λ j b. rw (epoch_in kind i j b, place_in kind i j b) refl)

  -- the reading of what came
  abbrev read_in : ℕ → List ℕ → Ruling
  read_in i bytes = own_ruling (kind_of k) (epoch_number (kind_of k) k.sending.first i) (packet_row (kind_of k) bytes)

  seen_is : (i p : ℕ) → seen_after (road_of k) i p ≡ seen_by (read_in i (k.came i p))
  unfolding seen_after road_of
  seen_is i p = ap₂ (λ (e : ℕ) (ns : List ℕ). seen_by (own_ruling (kind_of k) e ns)) (number_of_lem i) (packet_of_lem i p)

module _ (k : Link) (a : AssumedOver k) (i p : ℕ) (b : p < k.ports) where
  seen_at_lem : seen_at (all_seen_after (road_of k) i) p ≡ seen_after (road_of k) i p
  unfolding all_seen_after road_of
  seen_at_lem = seen_each k.ports (seen_after (road_of k) i) p (start_sizes_of (kind_of k) k.ports k.payload k.window a.lines.sizes).few_ports b

  pub seen_sent_lem : k.came i p ≡ sent_to k i p → seen_at (all_seen_after (road_of k) i) p ≡ seen_sent k.sending i (k.pairing p)
  seen_sent_lem e = seen_at_lem ∙ seen_is k i p ∙ ap (λ (l : List ℕ). seen_by (read_in k i l)) e ∙ ap seen_by (a.lawful.reads i (k.pairing p) (a.paired.below p b))

  pub seen_damaged : Damaged (kind_of k) k.sending.changes (sent_to k i p) (k.came i p) → refused_seen (seen_at (all_seen_after (road_of k) i) p) ≡ true
  seen_damaged d = ap refused_seen (seen_at_lem ∙ seen_is k i p) ∙ ap not (a.lawful.refused i (k.pairing p) (k.came i p) (a.paired.below p b) d.least d.most)
