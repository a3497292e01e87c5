-- Calls from a start, for examples: what they answer, and what a group's table then shows.
use Rattle.std.specs.Prelude.{List, ℕ}
use Rattle.sender.specs.Shown.{shown}
use Rattle.cards.specs.declared.card.Card.{Card}
use Rattle.cards.specs.Answers.{answer_number}
use Rattle.cards.specs.Calls.{Call, outcome_of}
use Rattle.cards.specs.Commands.{start_of}
use Rattle.cards.specs.Parts.{sender_of}
use Rattle.cards.specs.Views.{Made, run}
use Rattle.cards.specs.Views.Asked.{Do}

abbrev pub by : ℕ → Call → Made
by g k = record { group = g; asked = Do k }

-- the card after calls from a start of so many slots
abbrev pub after : ℕ → List Made → Card
after count ms = run (start_of 0 count 0 0).card ms

-- the number that a call after them is answered
abbrev pub told : (count : ℕ) (ms : List Made) (group : ℕ) (k : Call) → ℕ
told count ms g k = answer_number (outcome_of (after count ms) g k).answer

-- the word and number of each slot of a group, then its wait
abbrev pub board : ℕ → Card → List ℕ
board g c = shown (sender_of c g).table
