-- What n ports see of an epoch of a history whose packets all came as sent: it is judged sure, and the order that it gives is the sender's in the next epoch.
use Rattle.std.specs.Prelude.{◌≡◌, refl, Bool, true, false, cond, ◌&&◌, List, ℕ, suc, ◌+◌, ◌<◌, eqb}
use Rattle.std.proofs.Common.{◌∙◌, eq-eqb, eqb-true}
use Rattle.std.proofs.Math.Path.{sym, ap, ap₂}
use Rattle.std.proofs.Math.Bool.{or-false}
use Rattle.std.proofs.Math.Dec.{ltb}
use Rattle.ground.specs.Counting.Laws.Numbers.{count_ext}
use Rattle.ground.specs.Counting.Laws.Ranks.{rank}
use Rattle.ground.specs.Counting.Words.{count}
use Rattle.judge.specs.declared.seen.Seen.{Seen}
use Rattle.judge.specs.Laws.Numbers.{all_active}
use Rattle.judge.specs.Marked.{Tidy}
use Rattle.judge.specs.Numbers.{AllApart, Highest, active_at, eos_at, number_at, numbered_at, numbers_in}
use Rattle.judge.specs.Order.{active_in, port_of, rank_of}
use Rattle.judge.specs.Seen.{active_seen, eos_seen, numbered_seen, seen_at}
use Rattle.judge.specs.Theorems.Ranks.{Ranked, port_ranked}
use Rattle.judge.specs.Theorems.Sure.{lcas_judged, tidy_sure}
use Rattle.packet.specs.Kinds.{frames}
use Rattle.packet.specs.Words.{EOS, FIXED}
use Rattle.packet.specs.Laws.Epochs.{epoch_in}
use Rattle.payload.specs.Order.{member_frame}
use Rattle.sender.specs.Epochs.{rank_in}
use Rattle.sender.specs.Ranks.{no_rank}
use Rattle.link.specs.History.{Allowed, Handed, History, number_sent, sender_at, sending_of, word_sent, x_at}
use Rattle.link.specs.Sending.{Client, Covered, Pairing, Rules, Sending, epoch_at, epoch_start, seen_sent}
use Rattle.link.specs.Proofs.Histories.Numbering.{Numbered, numbered, numbered_word, unfixed}
use Rattle.link.specs.Proofs.Histories.Packets.{packet_gid}
use Rattle.link.specs.Proofs.Histories.Payloads.{carried_ranked}
use Rattle.link.specs.Proofs.Histories.Ports.{numbered_ports, rank_ports, x_ports}
use Rattle.link.specs.Proofs.Histories.Ruling.{active_word, rank_next, x_next}

module _ (h : History) (a : Allowed h) (P : ℕ) (client : Client) (c : Handed h P client) (unranked : ℕ → ℕ → List ℕ) (i n : ℕ) (slot_of : ℕ → ℕ) (ports : List Seen) (o : Pairing n h.slots slot_of)
    (covered : Covered (sending_of h P client unranked) i n slot_of) (is_seen : (p : ℕ) → p < n → seen_at ports p ≡ seen_sent (sending_of h P client unranked) i (slot_of p)) where
  abbrev s : Sending
  s = sending_of h P client unranked

  -- the word and the number that reach a port
  abbrev words : ℕ → ℕ
  words p = word_sent h i (slot_of p)

  abbrev numbers : ℕ → ℕ
  numbers p = number_sent h i (slot_of p)

  right : Numbered n words numbers
  right = numbered_ports n h.slots slot_of o (word_sent h i) (number_sent h i) covered (numbered h a i)

  lcas_word_lem : (p : ℕ) → p < n → eqb (words p) FIXED ≡ false
  lcas_word_lem p b = unfixed h a i (slot_of p) (o.below p b)

  active_at_lem : (p : ℕ) → p < n → active_at ports p ≡ active_word (words p)
  active_at_lem p b = ap active_seen (is_seen p b) ∙ rw (lcas_word_lem p b) (or-false (active_word (words p)))

  numbered_at_lem : (p : ℕ) → p < n → numbered_at ports p ≡ numbered_word (words p)
  numbered_at_lem p b = ap numbered_seen (is_seen p b) ∙ rw (lcas_word_lem p b, or-false (active_word (words p))) refl

  eos_at_lem : (p : ℕ) → p < n → eos_at ports p ≡ eqb (words p) EOS
  eos_at_lem p b = ap eos_seen (is_seen p b)

  number_at_lem : (p : ℕ) → p < n → number_at ports p ≡ numbers p
  number_at_lem p b = ap (λ (q : Seen). q.number) (is_seen p b)

  gid_at : (p : ℕ) → p < n → (seen_at ports p).gid ≡ h.gid i
  gid_at p b = ap (λ (q : Seen). q.gid) (is_seen p b) ∙ packet_gid h a i (slot_of p)

  many : numbers_in ports n ≡ count n (λ p. numbered_word (words p))
  many = count_ext n (numbered_at ports) (λ p. numbered_word (words p)) numbered_at_lem

  tidy : Tidy ports n
  tidy =
      record {
        whole = λ p b. ap (λ (q : Seen). q.whole) (is_seen p b);
        good = λ p b. ap (λ (q : Seen). q.good) (is_seen p b);
        here = λ p b t. ap (λ (q : Seen). q.here) (is_seen p b);
        gid = λ p q bp bq up uq. gid_at p bp ∙ sym (gid_at q bq);
        apart = apart;
        dense = λ p b t. rw (number_at_lem p b, many) (right.low p b (sym (numbered_at_lem p b) ∙ t));
        last = last;
        alone = λ p b e q bq t.
            rw (number_at_lem p b, number_at_lem q bq) (right.eos p b (eqb-true (words p) EOS (sym (eos_at_lem p b) ∙ e)) q bq (sym (active_at_lem q bq) ∙ t));
      }
    where
      apart : AllApart ports n
      apart p q bp bq tp tq e =
          right.once p q bp bq (sym (numbered_at_lem p bp) ∙ tp) (sym (numbered_at_lem q bq) ∙ tq) (sym (number_at_lem p bp) ∙ e ∙ number_at_lem q bq)

      last : (p : ℕ) → p < n → active_at ports p ≡ true → Highest ports n p → eos_at ports p ≡ true
      last p b t l =
          eos_at_lem p b
          ∙ eq-eqb (words p) EOS
          (right.highest_eos p b (sym (active_at_lem p b) ∙ t) (λ q bq tq. rw (← number_at_lem p b, ← number_at_lem q bq) (l q bq (active_at_lem q bq ∙ tq))))

  -- X and each port's rank are the sender's in the next epoch
  members : active_in ports n ≡ x_at h (suc i)
  unfolding active_in
  members =
      count_ext n (active_at ports) (λ p. active_word (words p)) active_at_lem
      ∙ x_ports n h.slots slot_of o (word_sent h i) (number_sent h i) covered
      ∙ sym (x_next h a i)

  rank_at_lem : (p : ℕ) → p < n → rank_of ports n (number_at ports p) ≡ rank n (λ q. active_word (words q)) numbers p
  unfolding rank_of
  rank_at_lem p b =
      ap (rank_of ports n) (number_at_lem p b)
      ∙ count_ext n (λ q. active_at ports q && ltb (number_at ports q) (numbers p)) (λ q. active_word (words q) && ltb (numbers q) (numbers p))
      (λ q bq. ap₂ (λ (t : Bool) (m : ℕ). t && ltb m (numbers p)) (active_at_lem q bq) (number_at_lem q bq))

  rank_is : (r p : ℕ) → Ranked ports n r p → rank_in (sender_at h (suc i)) (slot_of p) ≡ r
  rank_is r p w =
      rank_next h a i (slot_of p)
      ∙ sym (rank_ports n h.slots slot_of o (word_sent h i) (number_sent h i) covered p)
      ∙ ap (λ (t : Bool). cond t (rank n (λ q. active_word (words q)) numbers p) no_rank) (sym (active_at_lem p w.below) ∙ w.active)
      ∙ sym (rank_at_lem p w.below)
      ∙ w.rank

  by_rank : (r : ℕ) → r < x_at h (suc i) → Ranked ports n r (port_of ports n r)
  by_rank r b = port_ranked ports n (all_active ports n tidy.apart) r (rw members b)

  carried_by_lem : (r j : ℕ) → r < x_at h (suc i) → j < frames h.kind
      → s.payload (epoch_start h.kind (suc i) + j) (slot_of (port_of ports n r)) ≡ member_frame (x_at h (suc i)) P (client (epoch_start h.kind (suc i) + j)) r
  carried_by_lem r j l b =
      let x : ℕ = epoch_start h.kind (suc i) + j in
      let e : epoch_at h.kind x ≡ suc i = epoch_in h.kind (suc i) j b in
      let w = by_rank r l in
      rw e at
      (carried_ranked h a P client c x unranked (slot_of (port_of ports n r)) (o.below (port_of ports n r) w.below) r (rw e l) (rw e (rank_is r (port_of ports n r) w)))

  pub sure : Rules s P client i n slot_of ports
  sure = record { mark = lcas_judged h.kind ports n a.lcas ∙ tidy_sure ports n tidy; members = members; carried = carried_by_lem }
