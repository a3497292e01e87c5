-- A call of a group reads the owner row and the group's own sender alone: on two cards alike in these it is answered alike, and leaves them alike.
use Rattle.std.specs.Prelude.{◌≡◌, Bool, true, false, cond, ◌&&◌, ℕ}
use Rattle.std.proofs.Math.Path.{refl, ap}
use Rattle.std.proofs.Common.{◌∙◌, sym}
use mathlib.Core.List.{List}
use Rattle.std.proofs.Math.Dec.{ltb}
use Rattle.sender.specs.declared.epochs.Sender.{Sender}
use Rattle.sender.specs.Epochs.{SenderCall, sender_outcome_of}
use Rattle.sender.specs.Table.{is_member, slot_count, slot_at}
use Rattle.cards.specs.Answers.{Answer, CardOutcome, from_sender}
use Rattle.cards.specs.Answers.Answer.{NoSlot, Owned, Used}
use Rattle.cards.specs.declared.card.Card.{Card}
use Rattle.cards.specs.Calls.{Call, outcome_of}
use Rattle.cards.specs.Calls.Call.{Claim, Release, AddSlot, RemoveSlot, Report, Lapse, StartEpoch}
use Rattle.cards.specs.Commands.{claim_of, command_of, group_call_of, of_own, release_of, sent_of}
use Rattle.cards.specs.Laws.Seeing.{owners_outcome, sender_marked, sender_outcome}
use Rattle.cards.specs.Owners.{has_owner, is_marked, mark_of, with_owner}
use Rattle.cards.specs.Parts.{group_outcome, is_slot, is_used, marked, owns, refused, sender_of, shown_sender}
use Rattle.cards.specs.Readings.{payload_answer, payload_bytes}

pub record Alike (g : ℕ) (c d : Card) : Type 0 where
  pub owners : c.owners ≡ d.owners
  pub sender : sender_of c g ≡ sender_of d g

pub record AlikeAfter (g : ℕ) (r q : CardOutcome) : Type 0 where
  pub answer : r.answer ≡ q.answer
  pub card : Alike g r.card q.card

alike_cond : {g : ℕ} {b e : Bool} {x y z w : CardOutcome} → b ≡ e → AlikeAfter g x z → AlikeAfter g y w → AlikeAfter g (cond b x y) (cond e z w)
alike_cond {g} {b} {e} {x} {y} {z} {w} same hx hy = rw (← same) (go b)
  where
    go : (t : Bool) → AlikeAfter g (cond t x y) (cond t z w)
    go true = hx
    go false = hy

module _ (g : ℕ) (c d : Card) (a : Alike g c d) where
  same_slot : (i : ℕ) → is_slot c g i ≡ is_slot d g i
  unfolding is_slot
  same_slot i = ap (λ (s : Sender). ltb g 2 && ltb i (slot_count s.table.count)) a.sender

  same_own : (i : ℕ) → owns c g i ≡ owns d g i
  unfolding owns
  same_own i = ap (λ (row : List ℕ). is_marked row g i) a.owners

  same_used : (i : ℕ) → is_used c g i ≡ is_used d g i
  unfolding is_used
  same_used i = ap (λ (s : Sender). is_member (slot_at s.table.slots i).state) a.sender

  alike_refused : (x : Answer) → AlikeAfter g (refused c x) (refused d x)
  alike_refused x = record { answer = refl; card = a }

  owners_marked : (i m : ℕ) → (marked c i m).card.owners ≡ (marked d i m).card.owners
  unfolding marked
  owners_marked i m = ap (λ (row : List ℕ). with_owner row i m) a.owners

  answer_marked : (i m : ℕ) → (marked c i m).answer ≡ (marked d i m).answer
  unfolding marked
  answer_marked i m = refl

  alike_marked : (i m : ℕ) → AlikeAfter g (marked c i m) (marked d i m)
  alike_marked i m =
      record {
        answer = answer_marked i m;
        card = record { owners = owners_marked i m; sender = sender_marked c g i m ∙ a.sender ∙ sym (sender_marked d g i m) };
      }

  answer_sent : (k : SenderCall) → (sent_of c g k).answer ≡ (sent_of d g k).answer
  unfolding group_outcome
  answer_sent k = ap (λ (s : Sender). from_sender (sender_outcome_of s k).answer) a.sender

  alike_sent : (k : SenderCall) → AlikeAfter g (sent_of c g k) (sent_of d g k)
  alike_sent k =
      let r = sender_outcome_of (sender_of c g) k in
      let q = sender_outcome_of (sender_of d g) k in
      record {
        answer = answer_sent k;
        card =
            record {
              owners = owners_outcome c g r ∙ a.owners ∙ sym (owners_outcome d g q);
              sender = sender_outcome c g r ∙ ap (λ (s : Sender). (sender_outcome_of s k).sender) a.sender ∙ sym (sender_outcome d g q);
            };
      }

  alike_own : (i : ℕ) {r q : CardOutcome} → AlikeAfter g r q → AlikeAfter g (of_own c g i r) (of_own d g i q)
  alike_own i h = alike_cond (same_slot i) (alike_cond (same_own i) h (alike_refused Owned)) (alike_refused NoSlot)

  alike_command : (i : ℕ) (k : SenderCall) → AlikeAfter g (command_of c g i k) (command_of d g i k)
  unfolding command_of
  alike_command i k = alike_own i (alike_sent k)

  alike_group_call : (k : SenderCall) → AlikeAfter g (group_call_of c g k) (group_call_of d g k)
  unfolding group_call_of
  alike_group_call k = alike_cond {b = ltb g 2} {e = ltb g 2} refl (alike_sent k) (alike_refused NoSlot)

  pub alike_call : (k : Call) → AlikeAfter g (outcome_of c g k) (outcome_of d g k)
  unfolding claim_of release_of
  alike_call (Claim i) =
      alike_cond (same_slot i) (alike_cond (ap (λ (row : List ℕ). has_owner row i) a.owners) (alike_refused Owned) (alike_marked i (mark_of g))) (alike_refused NoSlot)
  alike_call (Release i) = alike_own i (alike_cond (same_used i) (alike_refused Used) (alike_marked i 0))
  alike_call (AddSlot i) = alike_command i _
  alike_call (RemoveSlot i) = alike_command i _
  alike_call (Report e mst ack) = alike_group_call _
  alike_call Lapse = alike_group_call _
  alike_call (StartEpoch gid mst ack) = alike_group_call _

  -- what is read is alike too
  pub alike_payload : (i p n m : ℕ) (frame member : List ℕ)
      → (payload_answer c g i p n m ≡ payload_answer d g i p n m) × (payload_bytes c g i p frame member ≡ payload_bytes d g i p frame member)
  unfolding payload_answer payload_bytes
  alike_payload i p n m frame member = rw (same_slot i, same_own i, a.sender) (refl, refl)

  pub alike_shown : shown_sender c g ≡ shown_sender d g
  unfolding shown_sender
  alike_shown = rw a.sender
