-- 'States: IDLE (number 255), ADD, active, DNU.' (01, 'The sender's table')
use Rattle.std.specs.Prelude.{Bool, true, false, ◌&&◌, List, ℕ, zero, suc, get_or, if◌then◌else◌, ◌==◌, Option, Some, None}
use Rattle.ground.specs.Sizes.{size_of}
use Rattle.ground.specs.Counting.Words.{count}
use Rattle.sender.specs.Answers.{Answer}
use Rattle.sender.specs.Answers.Answer.{Done, NoSlot, NotAllowed, WaitOpen, OutOfRange, Field, Length}
use Rattle.sender.specs.declared.table.Slot.{Slot}
use Rattle.sender.specs.declared.table.State.{State}
use Rattle.sender.specs.declared.table.State.TheVariants.{Idle, Add, Active, Dnu}

-- 01's number for each answer
abbrev pub answer_number : Answer → ℕ
answer_number Done = 0
answer_number NoSlot = 1
answer_number NotAllowed = 2
answer_number WaitOpen = 3
answer_number OutOfRange = 4
answer_number Field = 8
answer_number Length = 9

-- a member is a slot that is not IDLE
abbrev pub is_member : State → Bool
is_member Idle = false
is_member Add = true
is_member Active = true
is_member Dnu = true

abbrev pub is_add : State → Bool
is_add Idle = false
is_add Add = true
is_add Active = false
is_add Dnu = false

abbrev pub is_active : State → Bool
is_active Idle = false
is_active Add = false
is_active Active = true
is_active Dnu = false

-- how many slots there are; a count above 64, which no call returns, is taken as 64
unfoldable pub slot_count : ℕ → ℕ
slot_count c = size_of c

abbrev pub slot_at : List Slot → ℕ → Slot
slot_at slots i = get_or slots i (record { state = Idle; number = 0 })

-- how many of the first n slots are members
unfoldable pub members_of : List Slot → ℕ → ℕ
members_of slots n = count n (λ i. is_member (slot_at slots i).state)

abbrev pub holds : Slot → ℕ → Bool
holds s q = is_member s.state && s.number == q

abbrev pub earlier : Option ℕ → Option ℕ → Option ℕ
earlier (Some i) f = Some i
earlier None f = f

-- 'the slot that holds that number is found, if there is one'. IDLE slots are passed over; where several hold it, the first.
unfoldable pub holder_of : (slots : List Slot) (count number : ℕ) → Option ℕ
holder_of slots zero q = None
holder_of slots (suc n) q = earlier (holder_of slots n q) (if holds (slot_at slots n) q then Some n else None)
