-- The refusals of the sender's table: starting 4; for commands 1, 3, 2; lapse 2; a report has none.
use Rattle.std.specs.Prelude.{◌≡◌, refl, Bool, true, false, not, ◌||◌, List, [], ◌∷◌, ℕ, if◌then◌else◌, ◌==◌}
use Rattle.ground.specs.Plain.{◌<?◌}
use Rattle.conformance.specs.Refusals.Entries.{Call, Copes, If, Refusal, Unless, copes, done, stateful}
use Rattle.sender.specs.declared.table.State.{State}
use Rattle.sender.specs.declared.table.State.TheVariants.{Idle, Add, Active, Dnu}
use Rattle.sender.specs.declared.table.Table.{Table}
use Rattle.sender.specs.Calls.{Call as TableCall, outcome_of}
use Rattle.sender.specs.Calls.Call.{AddSlot, Lapse, RemoveSlot, Report}
use Rattle.sender.specs.Commands.{add_of, added_to, fresh_of, in_order, lapse_of, remove_of, removed_from, start_of}
use Rattle.sender.specs.Reports.{report_of}
use Rattle.sender.specs.Table.{answer_number, is_member, slot_count, slot_at}

-- 4: 'group count .. out of range', 'an empty group'; there is no state before a start, so what `empty` gives stands for it
abbrev pub start : ℕ × ℕ → Call
start (kind, count) =
    stateful (If 4 (count == 0 || 64 <? count) ∷ [])
    (answer_number (start_of kind count).answer) [] [] (start_of kind 0).table (start_of kind count).table (fresh_of kind 0)

pub start_copes : (x : ℕ × ℕ) → Copes (start x)
unfolding start_of
start_copes (kind, count) = copes _ (λ o. rw o (refl, refl, refl), λ o. rw o)

abbrev pub idle : State → Bool
idle Idle = true
idle Add = false
idle Active = false
idle Dnu = false

idle_is : (s : State) → not (is_member s) ≡ idle s
idle_is Idle = refl
idle_is Add = refl
idle_is Active = refl
idle_is Dnu = refl

pub member_is : (s : State) → is_member s ≡ not (idle s)
member_is Idle = refl
member_is Add = refl
member_is Active = refl
member_is Dnu = refl

abbrev pub state_at : Table → ℕ → State
state_at t i = (slot_at t.slots i).state

-- a call on the table: its refusals, and what it answers and leaves
abbrev call_row : (table : Table) (call : TableCall) (rs : List Refusal) → Call
call_row table call rs = stateful rs (answer_number (outcome_of table call).answer) [] [] table (outcome_of table call).table table

-- 'For commands: 1, 3, 2.' A count above 64, which no call returns, is taken as 64.
abbrev pub command_refusals : (t : Table) (slot : ℕ) (allowed : Bool) → List Refusal
command_refusals t i allowed = Unless 1 (i <? (if t.count <? 64 then t.count else 64)) ∷ If 3 t.wait ∷ Unless 2 allowed ∷ []

commands : (t next : Table) (i : ℕ) (allowed : Bool)
    → Copes (stateful (command_refusals t i allowed) (answer_number (in_order t i allowed next).answer) [] [] t (in_order t i allowed next).table t)
unfolding slot_count
commands t next i allowed =
    copes _
    (λ b. (λ w. rw (b, w) (refl, refl, refl), λ w. (λ a. rw (b, w, a), λ a. rw (b, w, a) (refl, refl, refl))), λ b. rw b (refl, refl, refl))

-- 'Add, from IDLE'
abbrev pub add : Table × ℕ → Call
add (table, slot) = call_row table (AddSlot slot) (command_refusals table slot (idle (state_at table slot)))

pub add_copes : (x : Table × ℕ) → Copes (add x)
unfolding add_of
add_copes (table, slot) = rw (idle_is (state_at table slot)) (commands table (added_to table slot) slot (idle (state_at table slot)))

-- 'Remove, from ADD, active or DNU'
abbrev pub remove : Table × ℕ → Call
remove (table, slot) = call_row table (RemoveSlot slot) (command_refusals table slot (not (idle (state_at table slot))))

pub remove_copes : (x : Table × ℕ) → Copes (remove x)
unfolding remove_of
remove_copes (table, slot) = rw (member_is (state_at table slot)) (commands table (removed_from table slot) slot (not (idle (state_at table slot))))

-- 2: 'lapse with no wait open'
abbrev pub lapse : Table → Call
lapse table = call_row table Lapse (Unless 2 table.wait ∷ [])

pub lapse_copes : (x : Table) → Copes (lapse x)
unfolding lapse_of
lapse_copes table = copes _ (λ w. rw w, λ w. rw w (refl, refl, refl))

-- a report is always done
abbrev pub report : Table × ℕ × ℕ × ℕ → Call
report (table, epoch, mst, rs_ack) = call_row table (Report epoch mst rs_ack) []

pub report_copes : (x : Table × ℕ × ℕ × ℕ) → Copes (report x)
unfolding report_of
report_copes (table, epoch, mst, rs_ack) = done _ refl
