-- Isolation: 'For any calls, what one group is answered and what its board shows depend on its own calls and on which slots the other holds, and on nothing else. A claim is the one answer through which the other's holdings show.' (02, 2026-06)
-- On any cards, also on those that no call returned.
use Rattle.std.specs.Prelude.{◌≡◌, ◌≢◌, Bool, true, false, cond, ◌&&◌, List, [], ◌∷◌, ℕ, ◌<◌, eqb, ltb, length}
use Rattle.std.proofs.Math.Path.{refl, ap}
use Rattle.std.proofs.Common.{◌∙◌, sym, eqb-true, lt-ltb}
use Rattle.std.proofs.lemmas.Bool.{eqb-false}
use Rattle.ground.specs.Flags.{one_if}
use Rattle.ground.specs.Table.{tabulate, tabulate_ext}
use Rattle.sender.specs.Epochs as E
use Rattle.cards.specs.Views.{Asked, Made, Same, View, asked_by, bit_of, bits_of, card_after, replies_to, reply_to, run, view_of}
use Rattle.cards.specs.Answers.{Answer, from_sender}
use Rattle.cards.specs.Answers.{Answer as A}
use Rattle.cards.specs.declared.card.Card.{Card}
use Rattle.cards.specs.Alone.{Seen, outcome_seen, own_answer, own_bytes, own_in, replies_seen, reply_seen, slot_in, view_after, view_seen}
use Rattle.cards.specs.Calls.{Call, outcome_of}
use Rattle.cards.specs.Calls.Call.{Claim, Release, AddSlot, RemoveSlot, Report, Lapse, StartEpoch}
use Rattle.cards.specs.Laws.EachCall.{choice, kept_claim, kept_command, kept_group_call, kept_release, see, see_claim, see_command, see_group_call, see_release}
use Rattle.cards.specs.Laws.Seeing.{own_is, slot_is, slot_low}
use Rattle.cards.specs.Owners.{is_marked, owned_bytes}
use Rattle.cards.specs.Parts.{is_slot, owns, sender_of, shown_sender}
use Rattle.cards.specs.Readings.{board_shown, outgoing_shown, owned_shown, packet_answer, packet_bytes, payload_answer, payload_bytes, ranks_shown}
use Rattle.cards.specs.Views.Asked.{Do, Packet, Payload, Board, Outgoing, Ranks, Owned}
use Rattle.cards.specs.Views.Reply.{Answered}

-- (a) Every call of the other group, and of no group, keeps the view.
pub others_keep : (c : Card) (g h : ℕ) (k : Asked) → g < 2 → h ≢ g → view_of g (card_after c h k) ≡ view_of g c
others_keep c g h (Do (Claim i)) hg n = kept_claim c g h hg n i
others_keep c g h (Do (Release i)) hg n = kept_release c g h hg n i
others_keep c g h (Do (AddSlot i)) hg n = kept_command c g h hg n i _
others_keep c g h (Do (RemoveSlot i)) hg n = kept_command c g h hg n i _
others_keep c g h (Do (Report e mst ack)) hg n = kept_group_call c g h hg n _
others_keep c g h (Do Lapse) hg n = kept_group_call c g h hg n _
others_keep c g h (Do (StartEpoch gid mst ack)) hg n = kept_group_call c g h hg n _
others_keep c g h (Packet i h4) hg n = refl
others_keep c g h (Payload i p frame member) hg n = refl
others_keep c g h Board hg n = refl
others_keep c g h Outgoing hg n = refl
others_keep c g h Ranks hg n = refl
others_keep c g h Owned hg n = refl

module _ (c : Card) (g : ℕ) (hg : g < 2) where
  abbrev v : View
  v = view_of g c

  call_seen_lem : (k : Call) → see g (outcome_of c g k) ≡ outcome_seen v k (bit_of c g (Do k))
  call_seen_lem (Claim i) = see_claim c g hg i
  call_seen_lem (Release i) = see_release c g hg i
  call_seen_lem (AddSlot i) = see_command c g hg i _
  call_seen_lem (RemoveSlot i) = see_command c g hg i _
  call_seen_lem (Report e mst ack) = see_group_call c g hg _
  call_seen_lem Lapse = see_group_call c g hg _
  call_seen_lem (StartEpoch gid mst ack) = see_group_call c g hg _

  answer_seen : (i : ℕ) (a : Answer) → cond (is_slot c g i) (cond (owns c g i) a A.Owned) A.NoSlot ≡ own_answer v i a
  answer_seen i a =
      choice (is_slot c g i) (slot_in v i) _ _ _ _ (slot_is c g i hg)
      (λ s. ap (λ (b : Bool). cond b a A.Owned) (own_is c g i (slot_low c g i s))) refl

  bytes_seen : (i : ℕ) (new old : List ℕ) → cond (is_slot c g i && owns c g i) new old ≡ own_bytes v i new old
  bytes_seen i new old =
      apart (is_slot c g i) (owns c g i)
      ∙ choice (is_slot c g i) (slot_in v i) _ _ _ _ (slot_is c g i hg)
      (λ s. ap (λ (b : Bool). cond b new old) (own_is c g i (slot_low c g i s))) refl
    where
      apart : (a b : Bool) → cond (a && b) new old ≡ cond a (cond b new old) old
      apart true b = refl
      apart false b = refl

  shown_seen : shown_sender c g ≡ v.sender
  unfolding shown_sender view_of
  shown_seen = rw (lt-ltb g 2 hg)

  packet_seen : (i : ℕ) (h4 : List ℕ) → reply_to c g (Packet i h4) ≡ reply_seen v (Packet i h4) false
  unfolding packet_answer packet_bytes view_of
  packet_seen i h4 = rw (answer_seen i (from_sender (E.packet_answer (sender_of c g) i h4)), bytes_seen i (E.packet_bytes (sender_of c g) i h4) h4) refl

  payload_seen : (i p : ℕ) (frame member : List ℕ) → reply_to c g (Payload i p frame member) ≡ reply_seen v (Payload i p frame member) false
  unfolding payload_answer payload_bytes view_of
  payload_seen i p frame member =
      rw (answer_seen i (from_sender (E.payload_answer (sender_of c g) i p (length frame) (length member))), bytes_seen i (E.payload_bytes (sender_of c g) i p frame member) member) refl

  board_seen : reply_to c g Board ≡ reply_seen v Board false
  unfolding board_shown
  board_seen = rw (lt-ltb g 2 hg, shown_seen) refl

  outgoing_seen : reply_to c g Outgoing ≡ reply_seen v Outgoing false
  unfolding outgoing_shown
  outgoing_seen = rw (lt-ltb g 2 hg, shown_seen) refl

  ranks_seen : reply_to c g Ranks ≡ reply_seen v Ranks false
  unfolding ranks_shown
  ranks_seen = rw (lt-ltb g 2 hg, shown_seen) refl

  owned_bytes_seen : owned_bytes c.owners g ≡ tabulate 64 (λ i. one_if (own_in v i))
  unfolding owned_bytes owns
  owned_bytes_seen =
      tabulate_ext 64 (λ i. one_if (ltb g 2 && is_marked c.owners g i)) (λ i. one_if (own_in v i))
      (λ i b. ap (λ (t : Bool). one_if (t && owns c g i)) (lt-ltb g 2 hg) ∙ ap one_if (own_is c g i b))

  owned_seen : reply_to c g Owned ≡ reply_seen v Owned false
  unfolding owned_shown
  owned_seen = rw (lt-ltb g 2 hg, owned_bytes_seen) refl

  -- (b) What a call of g gives back, and the view that it leaves, are a function of the view, the call and, in the case of a claim alone, one bit.
  pub own_reply : (k : Asked) → reply_to c g k ≡ reply_seen v k (bit_of c g k)
  own_reply (Do k) = ap (λ (s : Seen). Answered s.answer) (call_seen_lem k)
  own_reply (Packet i h4) = packet_seen i h4
  own_reply (Payload i p frame member) = payload_seen i p frame member
  own_reply Board = board_seen
  own_reply Outgoing = outgoing_seen
  own_reply Ranks = ranks_seen
  own_reply Owned = owned_seen

  pub own_view : (k : Asked) → view_of g (card_after c g k) ≡ view_after v k (bit_of c g k)
  own_view (Do k) = ap (λ (s : Seen). s.view) (call_seen_lem k)
  own_view (Packet i h4) = refl
  own_view (Payload i p frame member) = refl
  own_view Board = refl
  own_view Outgoing = refl
  own_view Ranks = refl
  own_view Owned = refl

-- what g is given back by a list of calls, and the view that they leave, are those of its own calls alone with their bits
record AsAlone (g : ℕ) (c : Card) (ms : List Made) : Type 0 where
  replies : replies_to g c ms ≡ replies_seen (view_of g c) (asked_by g ms) (bits_of g c ms)
  view : view_of g (run c ms) ≡ view_seen (view_of g c) (asked_by g ms) (bits_of g c ms)

as_alone : (g : ℕ) → g < 2 → (c : Card) (ms : List Made) → AsAlone g c ms
as_alone g hg c [] = record { replies = refl; view = refl }
as_alone g hg c (m ∷ ms) = go (as_alone g hg (card_after c m.group m.asked) ms) (eqb m.group g) refl
  where
    go : AsAlone g (card_after c m.group m.asked) ms → (b : Bool) → eqb m.group g ≡ b → AsAlone g c (m ∷ ms)
    go rest true e =
        let same : m.group ≡ g = eqb-true m.group g e in
        let next : view_of g (card_after c m.group m.asked) ≡ view_after (view_of g c) m.asked (bit_of c g m.asked) =
        ap (λ (h : ℕ). view_of g (card_after c h m.asked)) same ∙ own_view c g hg m.asked in
        record {
          replies = rw (e, rest.replies, next, own_reply c g hg m.asked) refl;
          view = rw (e, rest.view, next) refl;
        }
    go rest false e =
        let kept : view_of g (card_after c m.group m.asked) ≡ view_of g c = others_keep c g m.group m.asked hg (eqb-false m.group g e) in
        record { replies = rw (e, rest.replies, kept) refl; view = rw (e, rest.view, kept) refl }

pub apart : (g : ℕ) → g < 2 → (c d : Card) (ms ns : List Made) → view_of g c ≡ view_of g d → asked_by g ms ≡ asked_by g ns → bits_of g c ms ≡ bits_of g d ns → Same g c d ms ns
apart g hg c d ms ns ev ea eb =
    let l = as_alone g hg c ms in
    let r = as_alone g hg d ns in
    record {
      replies = l.replies ∙ rw (ev, ea, eb) refl ∙ sym r.replies;
      view = l.view ∙ rw (ev, ea, eb) refl ∙ sym r.view;
    }
