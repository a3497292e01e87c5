-- A group's sender on the card: its answer has one number for the card and for the sender, and a sender put back where it was leaves the card.
use Rattle.std.specs.Prelude.{◌≡◌, refl, Bool, true, false, cond, ℕ, eqb}
use Rattle.sender.specs.Answers as S
use Rattle.sender.specs.Table.{answer_number as sender_number}
use Rattle.cards.specs.declared.card.Card.{Card}
use Rattle.cards.specs.Answers.{answer_number, from_sender}
use Rattle.cards.specs.Parts.{sender_of, with_sender}

pub sender_number_lem : (a : S.Answer) → answer_number (from_sender a) ≡ sender_number a
sender_number_lem S.Answer.Done = refl
sender_number_lem S.Answer.NoSlot = refl
sender_number_lem S.Answer.NotAllowed = refl
sender_number_lem S.Answer.WaitOpen = refl
sender_number_lem S.Answer.OutOfRange = refl
sender_number_lem S.Answer.Field = refl
sender_number_lem S.Answer.Length = refl

pub put_back : (c : Card) (g : ℕ) → with_sender c g (sender_of c g) ≡ c
unfolding with_sender sender_of
put_back c g = go (eqb g 0)
  where
    go : (b : Bool)
        → (let s = cond b c.first c.second in
        cond {A = Card} b (record { owners = c.owners; first = s; second = c.second }) (record { owners = c.owners; first = c.first; second = s })) ≡ c
    go true = refl
    go false = refl
