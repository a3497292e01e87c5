-- The commands of an order as single calls of the card, and what one group has of an order: what the theorems speak of.
use Rattle.std.specs.Prelude.{◌≡◌, List, [], ◌∷◌, ℕ, get_or, length, take, if◌then◌else◌, ◌==◌}
use Rattle.ground.specs.Table.{tabulate}
use Rattle.cards.specs.Views.{Made, run, view_of}
use Rattle.cards.specs.declared.card.Card.{Card}
use Rattle.cards.specs.Answers.{answer_number}
use Rattle.cards.specs.Calls.{outcome_of}
use Rattle.cards.specs.Views.Asked.{Do}
use Rattle.orders.specs.Orders.{call_by, orders_of}
use Rattle.orders.specs.declared.commands.Command.{Command}
use Rattle.orders.specs.declared.commands.Kind.TheVariants.{Add}

-- the call that its caller would make alone
abbrev pub single_of : Command → Made
single_of c = record { group = c.group; asked = Do (call_by c.kind c.slot) }

abbrev pub singles_of : List Command → List Made
singles_of [] = []
singles_of (c ∷ cs) = single_of c ∷ singles_of cs

-- what stands in place of a command that is not there
abbrev pub no_command : Command
no_command = record { kind = Add; group = 0; slot = 0 }

-- the number that a single call is answered
abbrev pub single_number : Card → Command → ℕ
single_number card c = answer_number (outcome_of card c.group (call_by c.kind c.slot)).answer

-- what the single calls are answered, each on the card that those before it left
abbrev pub single_numbers : Card → List Command → List ℕ
single_numbers card cs = tabulate (length cs) (λ i. single_number (run card (singles_of (take i cs))) (get_or cs i no_command))

-- of a list of commands: those of group g, and the answers to them, in their order
abbrev pub commands_of : ℕ → List Command → List Command
commands_of g [] = []
commands_of g (c ∷ cs) = if c.group == g then c ∷ commands_of g cs else commands_of g cs

abbrev pub answers_to : (group : ℕ) (cs : List Command) (ns : List ℕ) → List ℕ
answers_to g [] ns = []
answers_to g (c ∷ cs) [] = []
answers_to g (c ∷ cs) (n ∷ ns) = if c.group == g then n ∷ answers_to g cs ns else answers_to g cs ns

-- two orders on two cards give a group the same: the answers to its commands, and the view left
pub record Same (g : ℕ) (card other : Card) (cs ds : List Command) : Type 0 where
  pub answers : answers_to g cs (orders_of card cs).numbers ≡ answers_to g ds (orders_of other ds).numbers
  pub view : view_of g (orders_of card cs).state ≡ view_of g (orders_of other ds).state
