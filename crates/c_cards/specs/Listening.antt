-- Someone who listens to a C host (02, 2026-10; item 1 of the minutes). Among its other calls the host tells her, at any times, what levelspruce_sender_changes or levelspruce_card_changes writes, and she applies it by
-- levelspruce_board_apply to the board that she holds.
use Rattle.std.specs.Prelude.{◌≡◌, Bool, true, false, ◌&&◌, List, [], ◌∷◌, ℕ, length, if◌then◌else◌, ◌==◌}
use Rattle.cards.specs.Calls.{Call}
use Rattle.cards.specs.Calls.Call.{Claim, Release, AddSlot, RemoveSlot, Report, Lapse, StartEpoch}
use Rattle.sender.specs.Board.{board_of}
use Rattle.sender.specs.declared.table.Table.{Table}
use Rattle.sender.specs.Epochs.{SenderCall}
use Rattle.sender.specs.Numbering.{Demand2}
use Rattle.c_cards.specs.CardCalls.{CardCall, Made, back_of, left_by}
use Rattle.c_cards.specs.CardCalls.CardCall.{Do, Packet, Payload, Board, Going, Ranks, Owned, Changes, NoKind}
use Rattle.c_cards.specs.CardCalls.Made.{One, Order}
use Rattle.c_cards.specs.Cards.{part_in}
use Rattle.c_cards.specs.Changes.{applied_answer_c, applied_bytes_c}
use Rattle.c_cards.specs.Going.{changes_answer_c, changes_answer_on, changes_bytes_c, changes_bytes_on, changes_told_c, changes_told_on}
use Rattle.c_face.specs.Boards.{board_bytes_of}
use Rattle.c_face.specs.Keeping.{sender_of}
use Rattle.c_cards.specs.Orders.{order_state_on}
use Rattle.c_face.specs.Runs.{numbers_fit}
use Rattle.c_face.specs.Senders.{call_answer_c, call_state_c}

-- what a host calls, and how it tells
pub record Host (C : Type 0) : Type 0 where
  -- the state that a call leaves, and whether it starts an epoch: such a call that is answered 0
  pub left : (state : List ℕ) (call : C) → List ℕ
  pub starts : (state : List ℕ) (call : C) → Bool
  -- the table in a state
  pub table : (state : List ℕ) → Table
  -- the telling: its answer, the changes, and the board told
  pub answer : (state told changes : List ℕ) → ℕ
  pub changes : (state told changes : List ℕ) → List ℕ
  pub told : (state told changes : List ℕ) → List ℕ

-- the host of a sender
abbrev pub is_start : (call : SenderCall) → Bool
is_start (SenderCall.OnTable call) = false
is_start (SenderCall.StartEpoch gid mst ack) = true

abbrev pub sender_host : Host SenderCall
sender_host =
    record {
      left = λ state call. call_state_c (numbers_fit call) call state;
      starts = λ state call. is_start call && call_answer_c (numbers_fit call) call state == 0;
      table = λ state. (sender_of state).table;
      answer = changes_answer_c;
      changes = changes_bytes_c;
      told = changes_told_c;
    }

-- the host of a card, which tells of one group
abbrev pub call_starts : (call : Call) → Bool
call_starts (Claim slot) = false
call_starts (Release slot) = false
call_starts (AddSlot slot) = false
call_starts (RemoveSlot slot) = false
call_starts (Report epoch mst ack) = false
call_starts Lapse = false
call_starts (StartEpoch gid mst ack) = true

abbrev pub is_start_on : (call : CardCall) → Bool
is_start_on (Do call) = call_starts call
is_start_on (Packet slot h4) = false
is_start_on (Payload slot p frame member) = false
is_start_on (Board board) = false
is_start_on (Going board) = false
is_start_on (Ranks ranks) = false
is_start_on (Owned owned) = false
is_start_on (Changes told changes) = false
is_start_on NoKind = false

abbrev pub left_on : (state : List ℕ) (made : Made) → List ℕ
left_on state (One m) = left_by state m.group m.call
left_on state (Order commands answers) = order_state_on state commands answers

abbrev pub starts_on : (group : ℕ) (state : List ℕ) (made : Made) → Bool
starts_on g state (One m) = m.group == g && is_start_on m.call && (back_of state g m.call).number == 0
starts_on g state (Order commands answers) = false

abbrev pub card_host : (group : ℕ) → Host Made
card_host g =
    record {
      left = left_on;
      starts = starts_on g;
      table = λ state. (sender_of (part_in g state)).table;
      answer = λ state. changes_answer_on state g;
      changes = λ state. changes_bytes_on state g;
      told = λ state. changes_told_on state g;
    }

-- a call of the host, or a telling with bytes lent for the changes
pub data Said (C : Type 0) : Type 0 where
  Make : (call : C) → Said C
  Tell : (changes : List ℕ) → Said C

-- the state, the board told last, and the board that she holds
pub record Heard : Type 0 where
  pub state : List ℕ
  pub told : List ℕ
  pub held : List ℕ

module _ {C : Type 0} (host : Host C) where
  abbrev pub heard_of : (before : Heard) (said : Said C) → Heard
  heard_of h (Make call) = record { state = host.left h.state call; told = h.told; held = h.held }
  heard_of h (Tell changes) =
      record {
        state = h.state;
        told = host.told h.state h.told changes;
        held = applied_bytes_c h.held (host.changes h.state h.told changes);
      }

  abbrev pub heard_after : (before : Heard) (said : List (Said C)) → Heard
  heard_after h [] = h
  heard_after h (m ∷ ms) = heard_after (heard_of h m) ms

  -- at each telling its own answer, then that of applying
  abbrev pub answers_to : (before : Heard) (said : List (Said C)) → List ℕ
  answers_to h [] = []
  answers_to h (Make call ∷ ms) = answers_to (heard_of h (Make call)) ms
  answers_to h (Tell changes ∷ ms) =
      host.answer h.state h.told changes
      ∷ applied_answer_c h.held (host.changes h.state h.told changes)
      ∷ answers_to (heard_of h (Tell changes)) ms

  -- 'A board is taken only at an epoch's start': the table at the last start of an epoch before the last telling
  abbrev pub told_table : (state : List ℕ) (last told : Table) (said : List (Said C)) → Table
  told_table state last told [] = told
  told_table state last told (Make call ∷ ms) = told_table (host.left state call) (if host.starts state call then host.table state else last) told ms
  told_table state last told (Tell changes ∷ ms) = told_table state last last ms

-- the bytes lent for changes have room for them
abbrev pub Roomy : {C : Type 0} → List (Said C) → Type 0
Roomy [] = Unit {0}
Roomy (Make call ∷ ms) = Roomy ms
Roomy (Tell changes ∷ ms) = (length changes ≡ 322) × Roomy ms

abbrev pub AllZero : List ℕ → Type 0
AllZero [] = Unit {0}
AllZero (n ∷ ns) = (n ≡ 0) × AllZero ns

-- she holds what was told last, the board of this table, and every list that she was told was answered 0 and fitted
pub record Holds (h : Heard) (t : Table) (answers : List ℕ) : Type 0 where
  pub told : h.told ≡ board_bytes_of (board_of t)
  pub held : h.held ≡ board_bytes_of (board_of t)
  pub demand2 : Demand2 t
  pub done : AllZero answers
