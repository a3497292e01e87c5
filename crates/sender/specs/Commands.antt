-- Start, add, remove and lapse (01, 'The sender's table').
use Rattle.std.specs.Prelude.{Bool, true, false, not, ◌&&◌, ◌||◌, List, ℕ, ◌-◌, replicate, set, if◌then◌else◌, ◌==◌, Result, Ok, Err}
use Rattle.ground.specs.Plain.{◌<?◌}
use Rattle.ground.specs.Counting.Each.{each}
use Rattle.packet.specs.Kinds.{idle_number}
use Rattle.sender.specs.Answers.{Answer, Outcome}
use Rattle.sender.specs.Answers.Answer.{Done, NoSlot, NotAllowed, WaitOpen, OutOfRange}
use Rattle.sender.specs.declared.refusals.Refusal.{Refusal}
use Rattle.sender.specs.declared.refusals.Refusal.TheVariants as R
use Rattle.sender.specs.declared.table.Slot.{Slot}
use Rattle.sender.specs.declared.table.State.TheVariants.{Idle, Add}
use Rattle.sender.specs.declared.table.Table.{Table}
use Rattle.sender.specs.Table.{is_member, members_of, slot_count, slot_at}

abbrev pub answered : Table → Answer → Outcome
answered t a = record { table = t; answer = a }

-- the table with other slots and another wait
abbrev pub with_slots : (t : Table) (slots : List Slot) (wait : Bool) → Table
with_slots t slots wait = record { slots = slots; count = t.count; wait = wait; remembered = t.remembered; kind = t.kind }

-- 'IDLE (number 255)'
unfoldable pub idle_slot : ℕ → Slot
idle_slot kind = record { state = Idle; number = idle_number kind }

-- all slots IDLE, no wait open, the remembered bit '0 at first'
unfoldable pub fresh_of : ℕ → ℕ → Table
fresh_of kind count = record { slots = replicate 64 (idle_slot kind); count = count; wait = false; remembered = 0; kind = kind }

-- 4: 'group count .. out of range', 'an empty group'
unfoldable pub start_of : ℕ → ℕ → Outcome
start_of kind count = if count == 0 || 64 <? count then answered (fresh_of kind 0) OutOfRange else answered (fresh_of kind count) Done

-- 'For commands: 1, 3, 2.' What a command allowed makes of the table is given.
abbrev pub in_order : (t : Table) (slot : ℕ) (allowed : Bool) (next : Table) → Outcome
in_order t i allowed next =
    if i <? slot_count t.count
    then (if t.wait then answered t WaitOpen else if allowed then answered next Done else answered t NotAllowed)
    else answered t NoSlot

-- the slot of a command, where its first two refusals do not hold
abbrev pub slot_asked : Table → ℕ → Result ℕ Refusal
slot_asked t i = if i <? slot_count t.count then (if t.wait then Err R.WaitOpen else Ok i) else Err R.NoSlot

-- 'state ADD, next free number. No wait opens.'
unfoldable pub added_to : Table → ℕ → Table
added_to t i = with_slots t (set t.slots i (record { state = Add; number = members_of t.slots (slot_count t.count) })) t.wait

-- 'Add, from IDLE'
unfoldable pub add_of : Table → ℕ → Outcome
add_of t i = in_order t i (not (is_member (slot_at t.slots i).state)) (added_to t i)

-- 'Higher numbers fall by one': those of members alone, an IDLE slot's 255 stays
unfoldable pub fallen : ℕ → Slot → Slot
fallen q s = record { state = s.state; number = if is_member s.state && q <? s.number then s.number - 1 else s.number }

unfoldable pub fallen_in : (slots : List Slot) (count number : ℕ) → List Slot
fallen_in slots n q = each n (λ j. fallen q (slot_at slots j)) slots

-- 'IDLE with 255. Higher numbers fall by one. A wait opens.'
unfoldable pub removed_from : Table → ℕ → Table
removed_from t i = with_slots t (set (fallen_in t.slots (slot_count t.count) (slot_at t.slots i).number) i (idle_slot t.kind)) true

-- 'Remove, from ADD, active or DNU'
unfoldable pub remove_of : Table → ℕ → Outcome
remove_of t i = in_order t i (is_member (slot_at t.slots i).state) (removed_from t i)

-- 'Lapse: closes an open wait'; 2: 'lapse with no wait open'
unfoldable pub lapse_of : Table → Outcome
lapse_of t = if t.wait then answered (with_slots t t.slots false) Done else answered t NotAllowed
