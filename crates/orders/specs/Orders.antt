-- A whole work order at once (02, 2026-07): 'Take a list of commands, each a small record of kind, group and slot, and answer each in a lent list of numbers.'
use Rattle.std.specs.Result.{result_unwrap_or}
use Rattle.std.specs.Prelude.{List, ℕ, Result, length, set, take, if◌then◌else◌, ◌==◌}
use Rattle.ground.specs.Plain.{◌<?◌}
use Rattle.cards.specs.Answers.{Answer, Answer as A, CardOutcome, answer_back, answer_number, given}
use Rattle.cards.specs.declared.refusals.Refusal.{Refusal}
use Rattle.cards.specs.declared.card.Card.{Card}
use Rattle.cards.specs.Calls.{Call, outcome_of}
use Rattle.cards.specs.Calls.Call.{AddSlot, Claim, Release, RemoveSlot}
use Rattle.orders.specs.declared.commands.Command.{Command}
use Rattle.orders.specs.declared.commands.Kind as K
use Rattle.orders.specs.Folding.{Folded, folded}

-- what an order gives: the card afterwards, with its answer
pub record Ordered : Type 0 where
  pub card : Card
  pub answer : Answer

abbrev pub ordered_told : Ordered → Result Card Refusal
ordered_told r = given r.answer r.card

-- the card given and what is told give the whole
abbrev pub ordered_back : Ordered → Card → Ordered
ordered_back r card = record { card = result_unwrap_or (ordered_told r) card; answer = answer_back (ordered_told r) }

-- a command as one of the card's own calls
abbrev pub call_by : K.Kind → ℕ → Call
call_by K.Kind.Add i = AddSlot i
call_by K.Kind.Remove i = RemoveSlot i
call_by K.Kind.Claim i = Claim i
call_by K.Kind.Release i = Release i

unfoldable pub outcome_by : Card → Command → CardOutcome
outcome_by card c = outcome_of card c.group (call_by c.kind c.slot)

abbrev pub number_by : Card → Command → ℕ
number_by card c = answer_number (outcome_by card c).answer

-- the number of command i in its place
abbrev pub stored_by : (card : Card) (c : Command) (i : ℕ) (ys : List ℕ) → List ℕ
stored_by card c i ys = set ys i (number_by card c)

abbrev pub card_by : Card → Command → Card
card_by card c = (outcome_by card c).card

-- 'State and answers equal those of calling one by one in that order, refusals included. A list of no commands changes nothing.'
abbrev pub orders_of : Card → List Command → Folded Card
orders_of card cs = folded card_by number_by card cs

-- 'answers list of a different length than the commands is 9, and nothing is done'
abbrev pub ordered_of : (card : Card) (cs : List Command) (k : ℕ) → Ordered
ordered_of card cs k = if length cs == k then (record { card = (orders_of card cs).state; answer = A.Done }) else (record { card = card; answer = A.Length })

abbrev pub answers_of : (card : Card) (cs : List Command) (ys : List ℕ) → List ℕ
answers_of card cs ys = if length cs == length ys then (orders_of card cs).numbers else ys

-- the first n of an array of 64; where n is more than there are, 9
abbrev pub first_ordered : (card : Card) (cs : List Command) (n k : ℕ) → Ordered
first_ordered card cs n k = if 64 <? n then (record { card = card; answer = A.Length }) else ordered_of card (take n cs) k

abbrev pub first_answers : (card : Card) (cs : List Command) (n : ℕ) (ys : List ℕ) → List ℕ
first_answers card cs n ys = if 64 <? n then ys else answers_of card (take n cs) ys
