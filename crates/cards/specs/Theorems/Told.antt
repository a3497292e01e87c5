-- The code tells of a card's call by a Result, and loses nothing of its outcome: a refusal has the number of its answer, and a refused call leaves the card that it was given. A refused start leaves a card of two empty groups, and a refused reading shows what an empty group does.
use Rattle.std.specs.Result.{result_unwrap_or}
use Rattle.std.specs.Prelude.{◌≡◌, Result, refl, Bool, true, false, cond, ◌||◌, ◌==◌, ◌≢◌, ℕ, replicate}
use Rattle.std.proofs.Common.{ap, ◌∙◌, ltb, sym}
use Rattle.ground.specs.Refusals.{number_told}
use Rattle.sender.specs.Answers as S
use Rattle.sender.specs.Board.{board_of}
use Rattle.sender.specs.Epochs.{SenderCall, begin_of, fresh_sender, ranks_of, sender_outcome_of}
use Rattle.sender.specs.Commands as T
use Rattle.sender.specs.Theorems.Told.{sender_stands}
use Rattle.sender.specs.declared.epochs.Sender.{Sender}
use Rattle.cards.specs.declared.card.Card.{Card}
use Rattle.cards.specs.declared.refusals.Refusal.{Refusal}
use Rattle.cards.specs.Answers.{Answer, CardOutcome, answer_back, answer_number, from_sender, given, group_answer, outcome_back, refusal_number, told}
use Rattle.cards.specs.Answers.Answer.{Done, NoSlot, NotAllowed, WaitOpen, OutOfRange, Field, Length, Owned, Used}
use Rattle.cards.specs.Calls.{Call, outcome_of}
use Rattle.cards.specs.Commands.{sent_of, start_of}
use Rattle.cards.specs.Laws.Ways.{by_ways}
use Rattle.cards.specs.Owners.{owned_bytes}
use Rattle.cards.specs.Parts.{empty_sender, group_outcome, marked, sender_of, shown_sender, with_sender}
use Rattle.cards.specs.Readings.{board_shown, outgoing_shown, ranks_shown, owned_shown}

-- the number of what is told is the answer's
pub told_number : {T : Type 0} (a : Answer) (x : T) → number_told refusal_number (given a x) ≡ answer_number a
told_number Done x = refl
told_number NoSlot x = refl
told_number NotAllowed x = refl
told_number WaitOpen x = refl
told_number OutOfRange x = refl
told_number Field x = refl
told_number Length x = refl
told_number Owned x = refl
told_number Used x = refl

-- what is told is Err exactly where the answer is not Done
pub told_answer : {T : Type 0} (a : Answer) (x : T) → answer_back (given a x) ≡ a
told_answer Done x = refl
told_answer NoSlot x = refl
told_answer NotAllowed x = refl
told_answer WaitOpen x = refl
told_answer OutOfRange x = refl
told_answer Field x = refl
told_answer Length x = refl
told_answer Owned x = refl
told_answer Used x = refl

-- and then whoever keeps x keeps it
pub told_kept : {T : Type 0} (a : Answer) (x y : T) → (a ≢ Done → y ≡ x) → result_unwrap_or (given a y) x ≡ y
told_kept Done x y h = refl
told_kept NoSlot x y h = sym (h (λ e. cc))
told_kept NotAllowed x y h = sym (h (λ e. cc))
told_kept WaitOpen x y h = sym (h (λ e. cc))
told_kept OutOfRange x y h = sym (h (λ e. cc))
told_kept Field x y h = sym (h (λ e. cc))
told_kept Length x y h = sym (h (λ e. cc))
told_kept Owned x y h = sym (h (λ e. cc))
told_kept Used x y h = sym (h (λ e. cc))

from_done : (a : S.Answer) → from_sender a ≢ Done → a ≢ S.Answer.Done
from_done a n e = n (ap from_sender e)

put_back : (c : Card) (g : ℕ) → with_sender c g (sender_of c g) ≡ c
unfolding with_sender sender_of
put_back c g = go (g == 0)
  where
    go : (b : Bool)
        → cond {A = Card} b (record { owners = c.owners; first = cond b c.first c.second; second = c.second }) (record { owners = c.owners; first = c.first; second = cond b c.first c.second }) ≡ c
    go true = refl
    go false = refl

sent_stands : (c : Card) (g : ℕ) (k : SenderCall) → (sent_of c g k).answer ≢ Done → (sent_of c g k).card ≡ c
unfolding group_outcome
sent_stands c g k n =
    ap (λ (s : Sender). with_sender c g s) (sender_stands (sender_of c g) k (from_done (sender_outcome_of (sender_of c g) k).answer n)) ∙ put_back c g

-- a refused call leaves its card
pub refused_stands : (c : Card) (g : ℕ) (k : Call) → (outcome_of c g k).answer ≢ Done → (outcome_of c g k).card ≡ c
unfolding marked
refused_stands c g k =
    by_ways (λ (r : CardOutcome). r.answer ≢ Done → r.card ≡ c) c g (λ a n. refl) (λ i m l n. absurd (n refl)) (λ s l n. sent_stands c g s n) k

pub card_kept : (c : Card) (g : ℕ) (k : Call) → result_unwrap_or (told (outcome_of c g k)) c ≡ (outcome_of c g k).card
card_kept c g k = told_kept (outcome_of c g k).answer c (outcome_of c g k).card (refused_stands c g k)

-- so that whoever takes the card given where the call is refused has what it leaves
pub card_left : (c : Card) (g : ℕ) (k : Call) {r : Result Card Refusal} → r ≡ told (outcome_of c g k) → result_unwrap_or r c ≡ (outcome_of c g k).card
card_left c g k e = ap (λ (r : Result Card Refusal). result_unwrap_or r c) e ∙ card_kept c g k

-- and the card given and what is told give the outcome
pub nothing_lost : (c : Card) (g : ℕ) (k : Call) → outcome_back c (told (outcome_of c g k)) ≡ outcome_of c g k
nothing_lost c g k =
    let r : CardOutcome = outcome_of c g k in
    rw (told_kept r.answer c r.card (refused_stands c g k), told_answer r.answer r.card) refl

-- a refused start leaves two empty groups
pub start_lost : (kind count e₀ e₁ : ℕ) → outcome_back (start_of kind 0 e₀ e₁).card (told (start_of kind count e₀ e₁)) ≡ start_of kind count e₀ e₁
unfolding start_of begin_of T.start_of
start_lost kind count e₀ e₁ = go (count == 0 || ltb 64 count)
  where
    begun : Bool → CardOutcome
    begun b =
        let r = cond b (T.answered (T.fresh_of kind 0) S.Answer.OutOfRange) (T.answered (T.fresh_of kind count) S.Answer.Done) in
        record { card = record { owners = replicate 64 0; first = fresh_sender r.table e₀; second = fresh_sender r.table e₁ }; answer = from_sender r.answer }

    go : (b : Bool) → outcome_back (begun true).card (told (begun b)) ≡ begun b
    go true = refl
    go false = refl

other_group : (g : ℕ) → group_answer g ≢ Done → ltb g 2 ≡ false
other_group g = go (ltb g 2)
  where
    go : (b : Bool) → cond b Done NoSlot ≢ Done → b ≡ false
    go true n = absurd (n refl)
    go false n = refl

-- what a refused reading shows is what an empty group has
pub board_lost : (c : Card) (g : ℕ) → (board_shown c g).answer ≢ Done → (board_shown c g).board ≡ board_of empty_sender.table
unfolding board_shown shown_sender
board_lost c g n = rw (other_group g n)

pub outgoing_lost : (c : Card) (g : ℕ) → (outgoing_shown c g).answer ≢ Done → (outgoing_shown c g).board ≡ empty_sender.outgoing
unfolding outgoing_shown shown_sender
outgoing_lost c g n = rw (other_group g n)

pub ranks_lost : (c : Card) (g : ℕ) → (ranks_shown c g).answer ≢ Done → (ranks_shown c g).ranks ≡ ranks_of empty_sender
unfolding ranks_shown shown_sender
ranks_lost c g n = rw (other_group g n)

pub owned_lost : (c : Card) (g : ℕ) → (owned_shown c g).answer ≢ Done → (owned_shown c g).owned ≡ replicate 64 0
unfolding owned_shown owned_bytes
owned_lost c g n = rw (other_group g n)
