-- Wrong readings of 02, each as a definition with a run on which it breaks what 02 says.
use Rattle.std.specs.Prelude.{◌≡◌, refl, Bool, not, ◌&&◌, List, [], ◌∷◌, ◌++◌, ℕ, zero, suc, replicate, set, if◌then◌else◌, ◌==◌}
use Rattle.packet.specs.Words.{ADD, DNU, EOS, IDLE, NORM}
use Rattle.sender.specs.Board.{board_of, word}
use Rattle.sender.specs.declared.board.Board.{Board}
use Rattle.sender.specs.declared.board.Row.{Row}
use Rattle.sender.specs.declared.epochs.Sender.{Sender}
use Rattle.sender.specs.declared.table.State.{State}
use Rattle.sender.specs.declared.table.State.TheVariants.{Idle, Add, Active, Dnu}
use Rattle.sender.specs.declared.table.Table.{Table}
use Rattle.sender.specs.Calls.{Call}
use Rattle.sender.specs.Calls.Call.{AddSlot, Lapse, RemoveSlot, Report}
use Rattle.sender.specs.Epochs.{SenderCall, begin_of, sender_outcome_of, sender_run}
use Rattle.sender.specs.Epochs.SenderCall.{OnTable, StartEpoch}
use Rattle.sender.specs.Ranks.{row_at}
use Rattle.sender.specs.Shown.{after, numbers}
use Rattle.sender.specs.Table.{slot_at}
use Rattle.spoken.specs.Answers.{Applied}
use Rattle.spoken.specs.Answers.Answer.{Done, Unfit}
use Rattle.spoken.specs.declared.lists.Change.{Change}
use Rattle.spoken.specs.declared.lists.Changes.{Changes}
use Rattle.spoken.specs.declared.lists.WaitChange.{WaitChange}
use Rattle.spoken.specs.declared.lists.WaitChange.TheVariants.{Same, Opened, Closed}
use Rattle.spoken.specs.Applying.{change_in, fits_by, rises_at}
use Rattle.spoken.specs.Changes.{answer_number, changed, changes_in, no_change}
use Rattle.spoken.specs.Shown.{applied_numbers, compared_numbers, spoken_numbers}
use Rattle.spoken.specs.Taking.{taken_of}
use Rattle.spoken.specs.Opened.{spoken_open}

-- the slots below n at which a test holds
abbrev slots_where : ℕ → (ℕ → Bool) → List ℕ
slots_where zero f = []
slots_where (suc n) f = slots_where n f ++ (if f n then n ∷ [] else [])

-- a member added and made active, its wait lapsed
abbrev active : ℕ → List Call
active slot = AddSlot slot ∷ Report 0 0x00 0 ∷ Lapse ∷ []

-- P10: NORM 0, EOS 1, and after FAIL for 1
abbrev p10_before : Table
p10_before = after 2 (active 0 ++ active 1)

abbrev p10_after : Table
p10_after = after 2 (active 0 ++ (active 1 ++ (Report 0 0x40 0 ∷ [])))

-- The table's states compared, and not the words. Then NORM to EOS is not spoken, since both are active.
abbrev state_code : State → ℕ
state_code Idle = 0
state_code Add = 1
state_code Active = 2
state_code Dnu = 3

wrong_states : Table → Table → ℕ → Bool
wrong_states old new i =
    let a = slot_at old.slots i in
    let b = slot_at new.slots i in
    not (state_code a.state == state_code b.state && a.number == b.number)

states_break :
    (slots_where 2 (wrong_states p10_before p10_after) ≡ 1 ∷ [])
    × (slots_where 2 (changed (board_of p10_before).rows (board_of p10_after).rows) ≡ 0 ∷ 1 ∷ [])
unfolding spoken_open wrong_states
states_break = (refl, refl)

-- Numbers alone. Then a member that is set aside is not spoken, since DNU keeps its number.
wrong_numbers : List Row → List Row → ℕ → Bool
wrong_numbers old new i = not ((row_at old i).number == (row_at new i).number)

numbers_break :
    (slots_where 2 (wrong_numbers (board_of p10_before).rows (board_of p10_after).rows) ≡ [])
    × (slots_where 2 (changed (board_of p10_before).rows (board_of p10_after).rows) ≡ 0 ∷ 1 ∷ [])
unfolding spoken_open wrong_numbers
numbers_break = (refl, refl)

-- Boards of the table now, and not of what goes out. Then a slot that is added and removed within one epoch is spoken forth and back, and the wait with it.
wrong_taken : Sender → Board
wrong_taken s = board_of s.table

-- what is told with each call, where boards are taken so
abbrev told : (taken : Sender → Board) (s : Sender) (cs : List SenderCall) → List (List ℕ)
told taken s [] = []
told taken s (c ∷ cs) = compared_numbers (taken s) (taken (sender_outcome_of s c).sender) ∷ told taken (sender_outcome_of s c).sender cs

abbrev within_epoch : List SenderCall
within_epoch = StartEpoch 0 0xFF 0 ∷ OnTable (AddSlot 0) ∷ OnTable (RemoveSlot 0) ∷ OnTable Lapse ∷ []

taken_breaks :
    (told wrong_taken (begin_of 0 1 0).sender within_epoch
    ≡ (0 ∷ 0 ∷ []) ∷ (0 ∷ 0 ∷ IDLE ∷ 255 ∷ ADD ∷ 0 ∷ 0 ∷ []) ∷ (0 ∷ 0 ∷ ADD ∷ 0 ∷ IDLE ∷ 255 ∷ 1 ∷ []) ∷ (0 ∷ 2 ∷ []) ∷ [])
    × (told taken_of (begin_of 0 1 0).sender within_epoch ≡ (0 ∷ 0 ∷ []) ∷ (0 ∷ 0 ∷ []) ∷ (0 ∷ 0 ∷ []) ∷ (0 ∷ 0 ∷ []) ∷ [])
unfolding spoken_open wrong_taken
taken_breaks = (refl, refl)

-- The old board of the table now, the new one going out. Then what is asked for and has not gone out is spoken backwards.
wrong_sides : Sender → List ℕ
wrong_sides s = compared_numbers (board_of s.table) (taken_of s)

sides_break : wrong_sides (sender_run (begin_of 0 1 0).sender (StartEpoch 0 0xFF 0 ∷ OnTable (AddSlot 0) ∷ [])) ≡ 0 ∷ 0 ∷ ADD ∷ 0 ∷ IDLE ∷ 255 ∷ 0 ∷ []
unfolding spoken_open wrong_sides
sides_break = refl

-- Each change judged and laid on at once. Then one that does not fit is answered 2 with those before it laid on: half a board.
abbrev wrong_one : (r : Applied) (c : Change) (rises : Bool) → Applied
wrong_one r c rises =
    let b = r.board in
    if answer_number r.answer == 0 && fits_by c (row_at b.rows c.slot) b.count rises
    then (record { board = record { rows = set b.rows c.slot c.new; count = b.count; wait = b.wait }; answer = Done })
    else (record { board = b; answer = Unfit })

wrong_apply : Board → List Change → ℕ → Applied
wrong_apply b list zero = record { board = b; answer = Done }
wrong_apply b list (suc n) = wrong_one (wrong_apply b list n) (change_in list n) (rises_at list n)

abbrev row : ℕ → ℕ → Row
row w n = record { word = word w; number = n }

-- of P10's changes the first, and the second with NORM 1 for EOS 1
abbrev half : Changes
half =
    record {
      list = record { slot = 0; old = row NORM 0; new = row EOS 0 } ∷ record { slot = 1; old = row NORM 1; new = row DNU 1 } ∷ replicate 62 no_change;
      count = 2;
      wait = Same;
    }

apply_breaks :
    (let r = wrong_apply (board_of p10_before) half.list 2 in answer_number r.answer ∷ numbers r.board ≡ 2 ∷ EOS ∷ 0 ∷ EOS ∷ 1 ∷ 0 ∷ [])
    × (applied_numbers (board_of p10_before) half ≡ 2 ∷ NORM ∷ 0 ∷ EOS ∷ 1 ∷ 0 ∷ [])
unfolding spoken_open wrong_apply
apply_breaks = (refl, refl)

-- The wait spoken always. Then equal boards are not silent, and what is told does not fit.
wrong_wait : Bool → Bool → WaitChange
wrong_wait old new = if new then Opened else Closed

abbrev wrong_same : Board → Changes
wrong_same b = changes_in b.rows b.rows b.count (wrong_wait b.wait b.wait)

wait_breaks :
    (spoken_numbers (wrong_same (board_of p10_before)) ≡ 2 ∷ [])
    × (applied_numbers (board_of p10_before) (wrong_same (board_of p10_before)) ≡ 2 ∷ NORM ∷ 0 ∷ EOS ∷ 1 ∷ 0 ∷ [])
    × (compared_numbers (board_of p10_before) (board_of p10_before) ≡ 0 ∷ 0 ∷ [])
unfolding spoken_open wrong_wait
wait_breaks = (refl, refl, refl)
