-- The C calls on a card, each with the bytes lent to it, and what a group gets back from a list of them (02, 2026-06). levelspruce_card_start and levelspruce_card_start_as are not among
-- them: they are nobody's call, and begin the card anew for both groups.
use Rattle.std.specs.Prelude.{◌≡◌, Bool, true, false, List, [], ◌∷◌, ◌++◌, ℕ, ◌-◌, get_or, length, if◌then◌else◌, ◌==◌}
use Rattle.ground.specs.Plain.{◌<?◌}
use Rattle.ground.specs.Table.{tabulate}
use Rattle.cards.specs.Calls.{Call}
use Rattle.cards.specs.Calls.Call.{Claim, Release, AddSlot, RemoveSlot, Report, Lapse, StartEpoch}
use Rattle.cards.specs.Owners.{is_marked}
use Rattle.orders.specs.Orders.{call_by}
use Rattle.c_cards.specs.Cards.{board_bytes_on, call_answer_on, call_state_on, outgoing_bytes_on, owned_bytes_on, owners_in, packet_answer_on, packet_bytes_on, part_in, payload_answer_on, payload_bytes_on, ranks_bytes_on, shown_answer_on}
use Rattle.c_cards.specs.Going.{changes_answer_on, changes_bytes_on, changes_told_on}
use Rattle.c_cards.specs.Orders.{kind_of, order_answer_on, order_answers_on, order_state_on}
use Rattle.c_face.specs.Senders.{are_bytes}

-- what a C call asks of its numbers
abbrev pub fitting : (call : Call) → Bool
fitting (Claim slot) = true
fitting (Release slot) = true
fitting (AddSlot slot) = true
fitting (RemoveSlot slot) = true
fitting (Report epoch mst ack) = are_bytes epoch mst ack
fitting Lapse = true
fitting (StartEpoch gid mst ack) = are_bytes gid mst ack

-- a group's call: one that changes the card, or one that reads
pub data CardCall : Type 0 where
  Do : (call : Call) → CardCall
  Packet : (slot : ℕ) (h4 : List ℕ) → CardCall
  Payload : (slot p : ℕ) (frame member : List ℕ) → CardCall
  Board : (board : List ℕ) → CardCall
  Going : (board : List ℕ) → CardCall
  Ranks : (ranks : List ℕ) → CardCall
  Owned : (owned : List ℕ) → CardCall
  Changes : (told changes : List ℕ) → CardCall
  -- a row of a work order that is no command
  NoKind : CardCall

-- what comes back: its number, and the buffers that it may write, as it leaves them
pub record Back : Type 0 where
  pub number : ℕ
  pub lent : List (List ℕ)

abbrev pub answered : (number : ℕ) → Back
answered n = record { number = n; lent = [] }

abbrev pub back_of : (state : List ℕ) (group : ℕ) (call : CardCall) → Back
back_of state g (Do call) = answered (call_answer_on (fitting call) g call state)
back_of state g (Packet slot h4) = record { number = packet_answer_on state g slot h4; lent = packet_bytes_on state g slot h4 ∷ [] }
back_of state g (Payload slot p frame member) = record { number = payload_answer_on state g slot p frame member; lent = payload_bytes_on state g slot p frame member ∷ [] }
back_of state g (Board board) = record { number = shown_answer_on 130 state g board; lent = board_bytes_on state g board ∷ [] }
back_of state g (Going board) = record { number = shown_answer_on 130 state g board; lent = outgoing_bytes_on state g board ∷ [] }
back_of state g (Ranks ranks) = record { number = shown_answer_on 68 state g ranks; lent = ranks_bytes_on state g ranks ∷ [] }
back_of state g (Owned owned) = record { number = shown_answer_on 64 state g owned; lent = owned_bytes_on state g owned ∷ [] }
back_of state g (Changes told changes) =
    record { number = changes_answer_on state g told changes; lent = changes_told_on state g told changes ∷ changes_bytes_on state g told changes ∷ [] }
back_of state g NoKind = answered 8

-- the state that it leaves; a reading leaves it as it is
abbrev pub left_by : (state : List ℕ) (group : ℕ) (call : CardCall) → List ℕ
left_by state g (Do call) = call_state_on (fitting call) g call state
left_by state g (Packet slot h4) = state
left_by state g (Payload slot p frame member) = state
left_by state g (Board board) = state
left_by state g (Going board) = state
left_by state g (Ranks ranks) = state
left_by state g (Owned owned) = state
left_by state g (Changes told changes) = state
left_by state g NoKind = state

-- the slots that a group owns
unfoldable pub slots_of : (group : ℕ) (state : List ℕ) → List Bool
slots_of g state = tabulate 64 (λ i. is_marked (owners_in state) g i)

-- 'A claim is the one answer through which the other's holdings show': by this bit, that the other owns the slot asked for
abbrev pub claim_bit : (state : List ℕ) (group : ℕ) (call : Call) → Bool
claim_bit state g (Claim slot) = is_marked (owners_in state) (1 - g) slot
claim_bit state g (Release slot) = false
claim_bit state g (AddSlot slot) = false
claim_bit state g (RemoveSlot slot) = false
claim_bit state g (Report epoch mst ack) = false
claim_bit state g Lapse = false
claim_bit state g (StartEpoch gid mst ack) = false

abbrev pub bit_of : (state : List ℕ) (group : ℕ) (call : CardCall) → Bool
bit_of state g (Do call) = claim_bit state g call
bit_of state g (Packet slot h4) = false
bit_of state g (Payload slot p frame member) = false
bit_of state g (Board board) = false
bit_of state g (Going board) = false
bit_of state g (Ranks ranks) = false
bit_of state g (Owned owned) = false
bit_of state g (Changes told changes) = false
bit_of state g NoKind = false

-- A host's calls: a group's call, or a work order with its commands and the answers lent to it, which may hold commands of both groups.

pub record Single : Type 0 where
  pub group : ℕ
  pub call : CardCall

pub data Made : Type 0 where
  One : (single : Single) → Made
  Order : (commands : List (List ℕ)) (answers : List ℕ) → Made

abbrev pub left_after : (state : List ℕ) (made : List Made) → List ℕ
left_after state [] = state
left_after state (One m ∷ ms) = left_after (left_by state m.group m.call) ms
left_after state (Order commands answers ∷ ms) = left_after (order_state_on state commands answers) ms

-- of an order that is done, the answers in the places of the group's own rows
abbrev pub own_answers : (group : ℕ) (commands : List (List ℕ)) (answers : List ℕ) → List Back
own_answers g [] ys = []
own_answers g (c ∷ cs) [] = []
own_answers g (c ∷ cs) (y ∷ ys) = if get_or c 1 0 == g then answered y ∷ own_answers g cs ys else own_answers g cs ys

-- all that a group gets back, in the order of the calls
abbrev pub back_to : (group : ℕ) (state : List ℕ) (made : List Made) → List Back
back_to g state [] = []
back_to g state (One m ∷ ms) =
    let rest = back_to g (left_by state m.group m.call) ms in if m.group == g then back_of state g m.call ∷ rest else rest
back_to g state (Order commands answers ∷ ms) =
    (if order_answer_on state commands answers == 0 then own_answers g commands (order_answers_on state commands answers) else []) ++ back_to g (order_state_on state commands answers) ms

-- The calls as single ones: an order is those of its rows one by one, and none where its lengths differ.

abbrev pub row_call : (row : List ℕ) → CardCall
row_call row = if 3 <? get_or row 0 0 then NoKind else Do (call_by (kind_of (get_or row 0 0)) (get_or row 2 0))

abbrev pub rows_made : (rows : List (List ℕ)) → List Single
rows_made [] = []
rows_made (row ∷ rows) = record { group = get_or row 1 0; call = row_call row } ∷ rows_made rows

abbrev pub singles : (made : List Made) → List Single
singles [] = []
singles (One m ∷ ms) = m ∷ singles ms
singles (Order commands answers ∷ ms) = (if length commands == length answers then rows_made commands else []) ++ singles ms

-- those of one group, and its bits, each on the bytes that the calls before left
abbrev pub calls_of : (group : ℕ) (made : List Single) → List CardCall
calls_of g [] = []
calls_of g (m ∷ ms) = if m.group == g then m.call ∷ calls_of g ms else calls_of g ms

abbrev pub bits_of : (group : ℕ) (state : List ℕ) (made : List Single) → List Bool
bits_of g state [] = []
bits_of g state (m ∷ ms) =
    let rest = bits_of g (left_by state m.group m.call) ms in if m.group == g then bit_of state g m.call ∷ rest else rest

-- a group gets the same back from two lists of calls, and has the same in the end
pub record Same (g : ℕ) (s t : List ℕ) (ms ns : List Made) : Type 0 where
  pub back : back_to g s ms ≡ back_to g t ns
  pub part : part_in g (left_after s ms) ≡ part_in g (left_after t ns)
  pub slots : slots_of g (left_after s ms) ≡ slots_of g (left_after t ns)
