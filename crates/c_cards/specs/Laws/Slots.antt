-- A slot's packet by the slot's owner and its group's sender alone, which is what the card's definition says of them.
use Rattle.std.specs.Prelude.{◌≡◌, refl, Bool, true, false, cond, ◌&&◌, List, ℕ, ◌<◌, eqb, ltb, length}
use Rattle.std.proofs.Common.{sym, arith, eq-eqb, lt-ltb}
use Rattle.cards.specs.Answers.{answer_number, from_sender}
use Rattle.cards.specs.Answers.Answer.{NoSlot, Owned}
use Rattle.cards.specs.Laws.GroupSender.{sender_number_lem}
use Rattle.cards.specs.Owners.{mark_of, owner_in}
use Rattle.cards.specs.Parts as P
use Rattle.cards.specs.Readings.{packet_answer, packet_bytes}
use Rattle.sender.specs.declared.epochs.Sender.{Sender}
use Rattle.sender.specs.Epochs as E
use Rattle.sender.specs.Table.{slot_count}
use Rattle.sender.specs.Table.{answer_number as sender_number}
use Rattle.c_cards.specs.Cards.{card_of, owners_in, packet_answer_on, packet_bytes_on, part_in}
use Rattle.c_face.specs.Keeping.{sender_of}
use Rattle.c_cards.specs.Theorems.CardRuns.{part_of}

-- 1, then 14
abbrev pub slot_refusal : ℕ → ℕ → ℕ → ℕ → ℕ
slot_refusal owner g count slot = cond (ltb slot (slot_count count)) (cond (eqb owner (mark_of g)) 0 14) 1

abbrev pub slot_packet_answer : ℕ → ℕ → Sender → ℕ → List ℕ → ℕ
slot_packet_answer owner g s slot h4 =
    cond (ltb slot (slot_count s.table.count)) (cond (eqb owner (mark_of g)) (sender_number (E.packet_answer s slot h4)) 14) 1

abbrev pub slot_packet_bytes : ℕ → ℕ → Sender → ℕ → List ℕ → List ℕ
slot_packet_bytes owner g s slot h4 = cond (ltb slot (slot_count s.table.count)) (cond (eqb owner (mark_of g)) (E.packet_bytes s slot h4) h4) h4

module _ (owner g : ℕ) (s : Sender) (slot : ℕ) (h4 : List ℕ) (r : ℕ) (e : r ≡ slot_refusal owner g s.table.count slot) where
  pub slot_refused : (r ≡ 0 → ⊥) → (r ≡ slot_packet_answer owner g s slot h4) × (h4 ≡ slot_packet_bytes owner g s slot h4)
  slot_refused d = go (ltb slot (slot_count s.table.count)) (eqb owner (mark_of g)) e
    where
      go : (b t : Bool) → r ≡ cond b (cond t 0 14) 1
          → (r ≡ cond b (cond t (sender_number (E.packet_answer s slot h4)) 14) 1) × (h4 ≡ cond b (cond t (E.packet_bytes s slot h4) h4) h4)
      go true true w = absurd (d w)
      go true false w = (w, refl)
      go false t w = (w, refl)

  pub slot_taken : r ≡ 0 → (n : ℕ) (out : List ℕ) → n ≡ sender_number (E.packet_answer s slot h4) → out ≡ E.packet_bytes s slot h4
      → (n ≡ slot_packet_answer owner g s slot h4) × (out ≡ slot_packet_bytes owner g s slot h4)
  slot_taken z n out en eo = go (ltb slot (slot_count s.table.count)) (eqb owner (mark_of g)) e
    where
      go : (b t : Bool) → r ≡ cond b (cond t 0 14) 1
          → (n ≡ cond b (cond t (sender_number (E.packet_answer s slot h4)) 14) 1) × (out ≡ cond b (cond t (E.packet_bytes s slot h4) h4) h4)
      go true true w = (en, eo)
      go true false w = absurd (omega arith)
      go false t w = absurd (omega arith)

-- such a packet is the card's
pub slot_packet : (state : List ℕ) (g slot : ℕ) (h4 : List ℕ) → length state ≡ 858 → g < 2
    → (slot_packet_answer (owner_in (owners_in state) slot) g (sender_of (part_in g state)) slot h4 ≡ packet_answer_on state g slot h4)
    × (slot_packet_bytes (owner_in (owners_in state) slot) g (sender_of (part_in g state)) slot h4 ≡ packet_bytes_on state g slot h4)
unfolding packet_answer_on packet_bytes_on packet_answer packet_bytes P.is_slot P.owns card_of
slot_packet state g slot h4 sized group =
    rw (eq-eqb (length state) 858 sized, lt-ltb g 2 group, part_of g state)
    (go (sender_of (part_in g state)) (ltb slot (slot_count (sender_of (part_in g state)).table.count)) (eqb (owner_in (owners_in state) slot) (mark_of g)))
  where
    go : (s : Sender) (b t : Bool)
        → (cond b (cond t (sender_number (E.packet_answer s slot h4)) 14) 1 ≡ answer_number (cond b (cond t (from_sender (E.packet_answer s slot h4)) Owned) NoSlot))
        × (cond b (cond t (E.packet_bytes s slot h4) h4) h4 ≡ cond (b && t) (E.packet_bytes s slot h4) h4)
    go s true true = (sym (sender_number_lem (E.packet_answer s slot h4)), refl)
    go s true false = (refl, refl)
    go s false t = (refl, refl)
