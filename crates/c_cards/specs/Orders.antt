-- A whole work order (02, 2026-07) for C, in terms of the card's own C calls. A command is three numbers: kind, group and slot.
use Rattle.std.specs.Prelude.{true, List, [], ◌∷◌, ℕ, drop, get_or, length, if◌then◌else◌, ◌==◌}
use Rattle.ground.specs.Plain.{◌<?◌}
use Rattle.ground.specs.Types.{Bytes}
use Rattle.orders.specs.declared.commands.Command.{Command}
use Rattle.orders.specs.declared.commands.Kind as K
use Rattle.orders.specs.Folding.{Folded, folded}
use Rattle.orders.specs.Orders.{call_by}
use Rattle.c_cards.specs.Cards.{call_answer_on, call_state_on, is_card}

-- the kinds by their numbers, 0 to 3
abbrev pub kind_of : ℕ → K.Kind
kind_of n = if n == 0 then K.Kind.Add else if n == 1 then K.Kind.Remove else if n == 2 then K.Kind.Claim else K.Kind.Release

-- 8 for a number that is no kind, as every other C call answers a number that it cannot take; else as the single call
unfoldable pub kind_answer_on : (kind group slot : ℕ) (state : Bytes) → ℕ
kind_answer_on kind g slot state = if 3 <? kind then 8 else call_answer_on true g (call_by (kind_of kind) slot) state

unfoldable pub kind_state_on : (kind group slot : ℕ) (state : Bytes) → Bytes
kind_state_on kind g slot state = if 3 <? kind then state else call_state_on true g (call_by (kind_of kind) slot) state

abbrev pub command_answer_on : Bytes → List ℕ → ℕ
command_answer_on state command = kind_answer_on (get_or command 0 0) (get_or command 1 0) (get_or command 2 0) state

abbrev pub command_state_on : Bytes → List ℕ → Bytes
command_state_on state command = kind_state_on (get_or command 0 0) (get_or command 1 0) (get_or command 2 0) state

-- each command on the bytes that those before it left
abbrev pub orders_on : Bytes → List (List ℕ) → Folded (List ℕ)
orders_on state commands = folded command_state_on command_answer_on state commands

-- 9 for a state of another length; 'answers list of a different length than the commands is 9, and nothing is done'
unfoldable pub order_answer_on : (state : Bytes) (commands : List (List ℕ)) (answers : List ℕ) → ℕ
order_answer_on state commands answers = if is_card state then (if length commands == length answers then 0 else 9) else 9

unfoldable pub order_state_on : (state : Bytes) (commands : List (List ℕ)) (answers : List ℕ) → Bytes
order_state_on state commands answers = if is_card state then (if length commands == length answers then (orders_on state commands).state else state) else state

unfoldable pub order_answers_on : (state : Bytes) (commands : List (List ℕ)) (answers : List ℕ) → List ℕ
order_answers_on state commands answers = if is_card state then (if length commands == length answers then (orders_on state commands).numbers else answers) else answers

-- The order as one of crates/orders.

abbrev pub command_in : List ℕ → Command
command_in c = record { kind = kind_of (get_or c 0 0); group = get_or c 1 0; slot = get_or c 2 0 }

-- the rows that are commands
abbrev pub known : (commands : List (List ℕ)) → List Command
known [] = []
known (c ∷ cs) = if 3 <? get_or c 0 0 then known cs else command_in c ∷ known cs

-- their numbers, with 8 in the place of each other row
abbrev pub with_eights : (commands : List (List ℕ)) (numbers : List ℕ) → List ℕ
with_eights [] ns = []
with_eights (c ∷ cs) ns = if 3 <? get_or c 0 0 then 8 ∷ with_eights cs ns else get_or ns 0 0 ∷ with_eights cs (drop 1 ns)
