-- What is let be so of one group of a card is an instance of what is let be so over any sending side.
use Rattle.std.specs.Prelude.{◌≡◌, refl, ◌≢◌, true, ℕ, ◌*◌, ◌≤◌, ◌<◌, ltb}
use Rattle.std.proofs.Common.{◌∙◌, subst, ⊎_elim, arith, le-ltb, lt-ltb, ne_eqb}
use Rattle.std.proofs.Math.Path.{sym, ap}
use Rattle.phases.specs.Sizes.{sized, start_sized}
use Rattle.packet.specs.Kinds.{payload_right}
use Rattle.ground.specs.Table.{tabulate}
use Rattle.ground.specs.Truth.{and_right, and-true, le_or_lt}
use Rattle.packet.specs.Words.{IDLE}
use Rattle.receiver.specs.Laws.Sizes.{start_sizes_of}
use Rattle.sender.specs.Commands.{fresh_of, start_of}
use Rattle.sender.specs.declared.epochs.Sender.{Sender}
use Rattle.sender.specs.declared.table.Table.{Table}
use Rattle.sender.specs.Epochs.{packet_fields, start_epoch_of}
use Rattle.sender.specs.Laws.Sizes.{size_large, size_small}
use Rattle.sender.specs.Ranks.{row_at}
use Rattle.sender.specs.Table.{slot_count}
use Rattle.cards.specs.Parts.{owns, sender_of}
use Rattle.cards.specs.Theorems.Owned.{count_of, counts, outgoing_owned}
use Rattle.link.specs.Demand3.{Demand3}
use Rattle.link.specs.History.{Allowed, Handed, History, sender_at, sending_of, word_sent}
use Rattle.link.specs.Link.{AssumedOver, Link, kind_of}
use Rattle.link.specs.Sending.{Covered, Lawful, Pairing, Sending, epoch_at, epoch_start}
use Rattle.link.specs.Theorems.{demand3_over, histories_lawful}
use Rattle.groups.specs.Assumed.{AssumedEach}
use Rattle.groups.specs.Cards.{CardHistory, card_at}
use Rattle.groups.specs.Projected.{history_of}
use Rattle.groups.specs.Proofs.Senders.{at_start_lem, sender_is}

-- how many slots each group's table has

fresh_table : (kind slots : ℕ) → 1 ≤ slots → slots ≤ 64 → (start_of kind slots).table ≡ fresh_of kind slots
unfolding start_of
fresh_table kind slots some most = rw (ne_eqb slots 0 (λ (z : slots ≡ 0). omega arith), le-ltb 64 slots most) refl

count_is : (kind slots : ℕ) → 1 ≤ slots → slots ≤ 64 → count_of kind slots ≡ slots
unfolding fresh_of
count_is kind slots some most = ap (λ (t : Table). t.count) (fresh_table kind slots some most)

size_is : (slots : ℕ) → slots ≤ 64 → slot_count slots ≡ slots
size_is slots most = ⊎_elim (λ (l : 64 ≤ slots). size_large slots l ∙ (omega arith)) (λ (l : slots < 64). size_small slots l) (le_or_lt 64 slots)

module _ (h : CardHistory) (g : ℕ) (k : Link) (a : AssumedEach h g k) where
  abbrev pub own : History
  own = history_of h g a.starts

  abbrev pub own_side : Sending
  own_side = sending_of own k.payload k.client a.unranked

  pub allowed : Allowed own
  allowed =
      record {
        lcas = a.lcas;
        some = a.some;
        most = a.most;
        first = a.first;
        gid = a.starts.gid_bit;
        mst = a.starts.mst_byte;
        ack = a.starts.ack_bit;
      }

  pub handed : Handed own k.payload k.client
  unfolding start_sized
  handed =
      let s = start_sizes_of (kind_of k) k.ports k.payload k.window a.lines.sizes in
      record {
        least = s.some_bytes;
        most = s.few_bytes;
        payload_right_lem = sym (ap (λ (s : Sending). payload_right s.kind k.payload) a.sends) ∙ and_right (sized (kind_of k) k.ports k.payload k.window) (payload_right (kind_of k) k.payload) a.lines.sizes;
        whole = λ x. a.lines.client x ∙ ap (λ (s : Sending). s.x (epoch_at s.kind x) * k.payload) a.sends;
      }

  -- the size of the group's table after any calls
  pub size_at_all : (n : ℕ) → slot_count (sender_of (card_at h n) g).table.count ≡ h.slots
  unfolding card_at
  size_at_all n =
      ap slot_count (counts h.kind h.slots (h.first 0) (h.first 1) (tabulate n h.made) g a.group ∙ count_is h.kind h.slots a.some a.most)
      ∙ size_is h.slots a.most

  -- the sender in its i-th epoch, by the card at its start
  started : (i : ℕ) → sender_at own i ≡ (start_epoch_of (sender_of (card_at h (a.starts.at i)) g) (a.starts.gid i) (a.starts.mst i) (a.starts.ack i)).sender
  started i = sym (sender_is h g a.group a.starts i) ∙ at_start_lem h g a.group a.starts i

  -- a slot that is not IDLE in an epoch was the group's at its start
  owned_then : (i slot : ℕ) → slot < h.slots → word_sent own i slot ≢ IDLE → owns (card_at h (a.starts.at i)) g slot ≡ true
  unfolding card_at packet_fields
  owned_then i slot b d =
      outgoing_owned h.kind h.slots (h.first 0) (h.first 1) (tabulate (a.starts.at i) h.made) g (a.starts.gid i) (a.starts.mst i) (a.starts.ack i) slot a.group
      (and-true (ltb (a.starts.gid i) 2) (ltb (a.starts.ack i) 2) (lt-ltb (a.starts.gid i) 2 (a.starts.gid_bit i)) (lt-ltb (a.starts.ack i) 2 (a.starts.ack_bit i)))
      (rw (size_at_all (a.starts.at i)) b)
      (λ e. d (ap (λ (s : Sender). (row_at s.outgoing.rows slot).word.0) (started i) ∙ e))

  covered : (i : ℕ) → a.earliest < epoch_start h.kind i → Covered own_side i k.ports k.pairing
  covered i from slot b d =
      a.each slot b (sym (a.stay (a.starts.at i) slot (a.started_later i from) b) ∙ owned_then i slot b d)

  over_any : AssumedOver k
  over_any =
      record {
        lawful = subst (λ (s : Sending). Lawful s k.payload k.client) (sym a.sends) (histories_lawful own allowed k.payload k.client handed a.unranked a.unranked_long);
        lines = a.lines;
        paired = subst (λ (s : Sending). Pairing k.ports s.slots k.pairing) (sym a.sends) a.paired;
        earliest = a.earliest;
        not_before = a.not_before;
        covered = subst (λ (s : Sending). (i : ℕ) → a.earliest < epoch_start s.kind i → Covered s i k.ports k.pairing) (sym a.sends) covered;
      }

  pub each : Demand3 k
  each = demand3_over k over_any
