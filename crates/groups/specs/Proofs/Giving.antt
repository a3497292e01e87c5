-- What the card gives a group for its own slots is what the group's history sends.
use Rattle.std.specs.Prelude.{◌≡◌, ◌≢◌, Bool, true, cond, List, ℕ, suc, ◌*◌, ◌≤◌, ◌<◌, eqb, ltb, length, replicate}
use Rattle.std.proofs.Math.Path.{refl, sym, ap}
use Rattle.std.proofs.Common.{◌∙◌, arith, lt-ltb, ne_eqb}
use Rattle.std.proofs.Math.Bool.{not}
use Rattle.std.proofs.lemmas.List.{length-replicate}
use Rattle.ground.specs.Truth.{and-true}
use Rattle.packet.specs.Kinds.{frames, payload_right}
use Rattle.payload.specs.Answers.{Sizes}
use Rattle.payload.specs.Laws.Fits.{one_done, spread_one_done}
use Rattle.payload.specs.Order.{member_frame}
use Rattle.payload.specs.Spreading.{one_answer, spread_one}
use Rattle.sender.specs.Epochs.{on_table, rank_in, sender_run, x_of}
use Rattle.sender.specs.SenderRuns.{Fixed}
use Rattle.sender.specs.Theorems.Epochs.{fixed}
use Rattle.sender.specs.declared.epochs.Sender.{Sender}
use Rattle.sender.specs.Answers.Answer.{Done}
use Rattle.sender.specs.Epochs as E
use Rattle.sender.specs.Outcomes.{spread_told}
use Rattle.sender.specs.Ranks.{no_rank}
use Rattle.sender.specs.Table.{slot_count}
use Rattle.cards.specs.Answers.{from_sender}
use Rattle.cards.specs.Answers.{Answer as A}
use Rattle.cards.specs.declared.card.Card.{Card}
use Rattle.cards.specs.Parts.{is_slot, owns, sender_of}
use Rattle.cards.specs.Readings as R
use Rattle.link.specs.History.{History, has_rank, packet_sent, payload_sent, sender_at, x_at}
use Rattle.link.specs.Link.{Link}
use Rattle.link.specs.Proofs.Histories.Packets.{packet_answered, packet_any}
use Rattle.link.specs.Proofs.Histories.Ruling.{x_le}
use Rattle.link.specs.Proofs.Histories.Senders.{sender_in, size_at}
use Rattle.link.specs.Sending.{Sending, epoch_at}
use Rattle.groups.specs.Assumed.{AssumedEach}
use Rattle.groups.specs.Cards.{CardHistory, card_at}
use Rattle.groups.specs.Given.{Gives}
use Rattle.groups.specs.Projected.{between}
use Rattle.groups.specs.Proofs.Each.{allowed, handed, own, size_at_all}
use Rattle.groups.specs.Proofs.Senders.{sender_from, sender_is}

-- of a slot that is the group's own, a card gives what its sender gives
module _ (c : Card) (g slot : ℕ) (there : is_slot c g slot ≡ true) (mine : owns c g slot ≡ true) where
  packet_told : (h4 : List ℕ) → R.packet_answer c g slot h4 ≡ from_sender (E.packet_answer (sender_of c g) slot h4)
  unfolding R.packet_answer
  packet_told h4 = rw (there, mine) refl

  packet_by : (h4 : List ℕ) → R.packet_bytes c g slot h4 ≡ E.packet_bytes (sender_of c g) slot h4
  unfolding R.packet_bytes
  packet_by h4 = rw (there, mine) refl

  payload_told : (P frame member : ℕ) → R.payload_answer c g slot P frame member ≡ from_sender (E.payload_answer (sender_of c g) slot P frame member)
  unfolding R.payload_answer
  payload_told P frame member = rw (there, mine) refl

  payload_by : (P : ℕ) (frame member : List ℕ) → R.payload_bytes c g slot P frame member ≡ E.payload_bytes (sender_of c g) slot P frame member
  unfolding R.payload_bytes
  payload_by P frame member = rw (there, mine) refl

-- a sender in an epoch, of a slot that it has
module _ (s : Sender) (slot P : ℕ) (below : slot < slot_count s.table.count) (own : payload_right s.table.kind P ≡ true) (begun : s.begun ≡ true) where
  spread_is : (frame member : List ℕ) → E.payload_bytes s slot P frame member ≡ spread_one (x_of s) P (rank_in s slot) frame member
  unfolding E.payload_bytes
  spread_is frame member = rw (lt-ltb slot (slot_count s.table.count) below, own, begun) refl

  spread_told_lem : (frame member : ℕ) → E.payload_answer s slot P frame member ≡ spread_told (one_answer (x_of s) P frame member)
  unfolding E.payload_answer
  spread_told_lem frame member = rw (lt-ltb slot (slot_count s.table.count) below, own, begun) refl

module _ (h : CardHistory) (g : ℕ) (k : Link) (a : AssumedEach h g k) (n i p : ℕ) (from : a.calls_then ≤ n) (later : a.starts.at i < n) (in-it : n ≤ a.starts.at (suc i)) (b : p < k.ports) where
  abbrev history : History
  history = own h g k a

  abbrev slot : ℕ
  slot = k.pairing p

  abbrev s : Sender
  s = sender_at history i

  abbrev c : Card
  c = card_at h n

  below : slot < h.slots
  below = a.paired.below p b

  there : is_slot c g slot ≡ true
  unfolding is_slot
  there = and-true (ltb g 2) _ (lt-ltb g 2 a.group) (rw (size_at_all h g k a n) (lt-ltb slot h.slots below))

  mine : owns c g slot ≡ true
  mine = a.stay n slot from below ∙ a.own p b

  -- since the epoch's start commands and reports alone have come to the sender
  now_is : sender_of c g ≡ sender_run s (on_table (between h g (suc (a.starts.at i)) n))
  now_is =
      sender_from h g a.group (suc (a.starts.at i)) n later (λ j f l. a.starts.none_between i j f (omega arith))
      ∙ ap (λ (r : Sender). sender_run r (on_table (between h g (suc (a.starts.at i)) n))) (sender_is h g a.group a.starts i)

  same : Fixed s (sender_of c g)
  same = rw now_is (fixed s (between h g (suc (a.starts.at i)) n))

  begun : s.begun ≡ true
  begun = (sender_in history (allowed h g k a) i).begun

  slot_in_lem : slot < slot_count s.table.count
  slot_in_lem = rw (size_at history (allowed h g k a) i) below

  payload_right_lem : payload_right s.table.kind k.payload ≡ true
  payload_right_lem = rw (sender_in history (allowed h g k a) i).kind (handed h g k a).payload_right_lem

  answered : (h4 : List ℕ) → length h4 ≡ frames h.kind → E.packet_answer s slot h4 ≡ Done
  answered h4 l = packet_answered history (allowed h g k a) i slot below h4 l

  written_is : (h4 : List ℕ) → length h4 ≡ frames h.kind → E.packet_bytes s slot h4 ≡ packet_sent history i slot
  written_is h4 l = packet_any history (allowed h g k a) i slot below h4 l

  packet_gives : (h4 : List ℕ) → length h4 ≡ frames h.kind → R.packet_bytes c g slot h4 ≡ k.sending.packet i slot
  packet_gives h4 l =
      packet_by c g slot there mine h4 ∙ same.bytes slot h4 ∙ written_is h4 l ∙ sym (ap (λ (r : Sending). r.packet i slot) a.sends)

  module _ (x : ℕ) (member : List ℕ) (in_epoch : epoch_at h.kind x ≡ i) (long : length member ≡ k.payload) where
    sizes_at : Sizes (x_of s) k.payload
    sizes_at =
        let l = x_le history (allowed h g k a) i in
        let m = a.most in
        record { ranks = omega arith; least = (handed h g k a).least; most = (handed h g k a).most }

    whole : length (k.client x) ≡ x_of s * k.payload
    whole = (handed h g k a).whole x ∙ ap (λ (e : ℕ). x_at history e * k.payload) in_epoch

    spread : (lent : List ℕ) → length lent ≡ k.payload → E.payload_bytes s slot k.payload (k.client x) lent ≡ member_frame (x_of s) k.payload (k.client x) (rank_in s slot)
    spread lent l =
        spread_is s slot k.payload slot_in_lem payload_right_lem begun (k.client x) lent
        ∙ spread_one_done (x_of s) k.payload (rank_in s slot) (k.client x) lent sizes_at whole l

    payload_is : E.payload_bytes s slot k.payload (k.client x) member ≡ payload_sent history k.payload k.client x slot
    unfolding payload_sent
    payload_is =
        spread member long
        ∙ sym (spread (replicate k.payload 0) (length-replicate k.payload 0))
        ∙ ap (λ (e : ℕ). E.payload_bytes (sender_at history e) slot k.payload (k.client x) (replicate k.payload 0)) (sym in_epoch)

    ranked : rank_in (sender_of c g) slot ≢ no_rank → has_rank history x slot ≡ true
    unfolding has_rank
    ranked r =
        ap (λ (e : ℕ). not (eqb (rank_in (sender_at history e) slot) no_rank)) in_epoch
        ∙ ap not (ne_eqb (rank_in s slot) no_rank (λ e. r (same.ranks slot ∙ e)))

    payload_gives : rank_in (sender_of c g) slot ≢ no_rank → R.payload_bytes c g slot k.payload (k.client x) member ≡ k.sending.payload x slot
    payload_gives r =
        payload_by c g slot there mine k.payload (k.client x) member
        ∙ same.carried slot k.payload (k.client x) member
        ∙ payload_is
        ∙ sym (ap (λ (t : Bool). cond t (payload_sent history k.payload k.client x slot) (a.unranked x slot)) (ranked r))
        ∙ sym (ap (λ (q : Sending). q.payload x slot) a.sends)

    payload_answered : R.payload_answer c g slot k.payload (length (k.client x)) (length member) ≡ A.Done
    payload_answered =
        payload_told c g slot there mine k.payload (length (k.client x)) (length member)
        ∙ ap from_sender (same.told slot k.payload (length (k.client x)) (length member)
        ∙ spread_told_lem s slot k.payload slot_in_lem payload_right_lem begun (length (k.client x)) (length member)
        ∙ ap spread_told (one_done (x_of s) k.payload (length (k.client x)) (length member) (record { size = sizes_at; frame_is = whole; member_is = long })))

  pub gives : Gives h g k n i slot
  gives =
      record {
        packet_done = λ h4 l. packet_told c g slot there mine h4 ∙ ap from_sender (same.answer slot h4 ∙ answered h4 l);
        packet = packet_gives;
        payload_done = λ x member e l. payload_answered x member e l;
        payload = λ x member e l r. payload_gives x member e l r;
      }
