-- Which slots a sender's call makes members: the one added alone.
use Rattle.std.specs.Prelude.{◌≡◌, refl, ◌⊎◌, ◌≢◌, Bool, true, false, cond, not, List, ℕ, zero, suc, ◌+◌, ◌%◌, ◌≤◌, ◌<◌, eqb, ltb, length, set, Option, Some, None}
use Rattle.std.proofs.Common.{◌∙◌, sym, ap, ⊎_elim, inl, inr, length-set, get_or-set_same, get_or-set_other}
use Rattle.std.proofs.lemmas.Bool.{false≢true}
use Rattle.std.proofs.Math.ListN.{get_or-eq_default}
use Rattle.ground.specs.Counting.Each.{each, length_each, get_or_each, get_or_rest}
use Rattle.ground.specs.Truth.{eq_or_ne, le_or_lt}
use Rattle.packet.specs.Kinds.{mst_fails, mst_first, mst_numbers}
use Rattle.sender.specs.Answers.Answer.{Done, NoSlot, NotAllowed, WaitOpen}
use Rattle.sender.specs.declared.table.Slot.{Slot}
use Rattle.sender.specs.declared.table.State.{State}
use Rattle.sender.specs.declared.table.State.TheVariants.{Idle, Add, Active, Dnu}
use Rattle.sender.specs.declared.table.Table.{Table}
use Rattle.sender.specs.Calls.{outcome_of}
use Rattle.sender.specs.Calls.Call.{AddSlot, RemoveSlot, Report, Lapse}
use Rattle.sender.specs.Commands.{add_of, added_to, answered, fallen, fallen_in, idle_slot, in_order, lapse_of, remove_of, removed_from, with_slots}
use Rattle.sender.specs.Reports.{acted_on, becomes, mst_applied, number_after, number_applied, renumbered, report_of, slot_after, spoken_to, turn_of, waited}
use Rattle.sender.specs.Table.{holder_of, is_add, is_member, slot_count, slot_at}

abbrev pub member_at : List Slot → ℕ → Bool
member_at slots j = is_member (slot_at slots j).state

past : (slots : List Slot) (j : ℕ) → length slots ≤ j → member_at slots j ≡ false
past slots j h = ap (λ (s : Slot). is_member s.state) (get_or-eq_default slots (record { state = Idle; number = 0 }) h)

set_member : (slots : List Slot) (i j : ℕ) (new : Slot) → member_at (set slots i new) j ≡ true → (member_at slots j ≡ true) ⊎ ((j ≡ i) × (is_member new.state ≡ true))
set_member slots i j new m =
    ⊎_elim
    (λ (e : j ≡ i).
    ⊎_elim
    (λ (p : length slots ≤ i). absurd (false≢true (sym (past (set slots i new) i (rw (length-set slots i new) p)) ∙ rw e at m)))
    (λ (l : i < length slots). inr (e, sym (ap (λ (s : Slot). is_member s.state) (get_or-set_same slots i new _ l)) ∙ rw e at m))
    (le_or_lt (length slots) i))
    (λ (n : j ≢ i). inl (sym (ap (λ (s : Slot). is_member s.state) (get_or-set_other slots i j new _ n)) ∙ m))
    (eq_or_ne j i)

each_member : (n : ℕ) (f : ℕ → Slot) (slots : List Slot) (j : ℕ) → ((k : ℕ) → is_member (f k).state ≡ true → member_at slots k ≡ true) → member_at (each n f slots) j ≡ true → member_at slots j ≡ true
each_member n f slots j h m =
    ⊎_elim (λ (p : n ≤ j). sym (ap (λ (s : Slot). is_member s.state) (get_or_rest n f slots j _ p)) ∙ m)
    (λ (l : j < n).
    ⊎_elim (λ (p : length slots ≤ j). absurd (false≢true (sym (past (each n f slots) j (rw (length_each n f slots) p)) ∙ m)))
    (λ (b : j < length slots). h j (sym (ap (λ (s : Slot). is_member s.state) (get_or_each n f slots j _ l b)) ∙ m))
    (le_or_lt (length slots) j))
    (le_or_lt n j)

becomes_member : (f : Bool) (s : State) → is_member (becomes f s) ≡ is_member s
becomes_member f Idle = refl
becomes_member true Add = refl
becomes_member false Add = refl
becomes_member true Active = refl
becomes_member false Active = refl
becomes_member true Dnu = refl
becomes_member false Dnu = refl

spoken_member : (f : Bool) (found : Option ℕ) (heard : List Slot) (j : ℕ) → member_at (spoken_to f found heard) j ≡ true → member_at heard j ≡ true
spoken_member f None heard j m = m
spoken_member f (Some i) heard j m =
    ⊎_elim (λ (o : member_at heard j ≡ true). o)
    (λ (o : (j ≡ i) × (is_member (becomes f (slot_at heard i).state) ≡ true)). ap (λ (k : ℕ). member_at heard k) o.0 ∙ sym (becomes_member f (slot_at heard i).state) ∙ o.1)
    (set_member heard i j _ m)

applied_member : (slots : List Slot) (n first mst k j : ℕ) → member_at (mst_applied slots n first mst k) j ≡ true → member_at slots j ≡ true
unfolding mst_applied number_applied
applied_member slots n first mst zero j m = m
applied_member slots n first mst (suc k) j m =
    applied_member slots n first mst k j (spoken_member (mst_fails mst (first + k)) (holder_of slots n (first + k)) (mst_applied slots n first mst k) j m)

after_state : (was is : List Slot) (n i : ℕ) → (slot_after was is n i).state ≡ (slot_at is i).state
unfolding slot_after
after_state was is n i = go (is_add (slot_at was i).state)
  where
    go : (b : Bool) → (cond b (record { state = (slot_at is i).state; number = number_after was is n (slot_at was i).number (turn_of (slot_at was i).state (slot_at is i).state) }) (slot_at is i)).state ≡ (slot_at is i).state
    go true = refl
    go false = refl

acted_member : (t : Table) (e mst ack j : ℕ) → member_at (acted_on t e mst ack).slots j ≡ true → member_at t.slots j ≡ true
unfolding acted_on renumbered
acted_member t e mst ack j m =
    let n : ℕ = slot_count t.count in
    let is : List Slot = mst_applied t.slots n (mst_first t.kind e) mst (mst_numbers t.kind) in
    applied_member t.slots n (mst_first t.kind e) mst (mst_numbers t.kind) j
    (each_member n (λ i. slot_after t.slots is n i) is j (λ k h. ap is_member (sym (after_state t.slots is n k)) ∙ h) m)

report_member : (t : Table) (e mst ack j : ℕ) → member_at (report_of t e mst ack).table.slots j ≡ true → member_at t.slots j ≡ true
unfolding report_of waited
report_member t e mst ack j = go t.wait (eqb (ack % 2) t.remembered)
  where
    go : (w b : Bool) → member_at (cond w (cond b t (record { slots = t.slots; count = t.count; wait = false; remembered = ack % 2; kind = t.kind })) (acted_on t e mst (ack % 2))).slots j ≡ true
        → member_at t.slots j ≡ true
    go true true m = m
    go true false m = m
    go false b m = acted_member t e mst (ack % 2) j m

lapse_member : (t : Table) (j : ℕ) → member_at (lapse_of t).table.slots j ≡ true → member_at t.slots j ≡ true
unfolding lapse_of
lapse_member t j = go t.wait
  where
    go : (w : Bool) → member_at (cond w (answered (with_slots t t.slots false) Done) (answered t NotAllowed)).table.slots j ≡ true → member_at t.slots j ≡ true
    go true m = m
    go false m = m

in_order_member : (t next : Table) (i : ℕ) (allowed : Bool) (j : ℕ) (P : Type 0) → (member_at t.slots j ≡ true → P) → (member_at next.slots j ≡ true → P)
    → member_at (in_order t i allowed next).table.slots j ≡ true → P
in_order_member t next i allowed j P old new = go (ltb i (slot_count t.count)) t.wait allowed
  where
    go : (b w a : Bool) → member_at (cond b (cond w (answered t WaitOpen) (cond a (answered next Done) (answered t NotAllowed))) (answered t NoSlot)).table.slots j ≡ true → P
    go false w a m = old m
    go true true a m = old m
    go true false false m = old m
    go true false true m = new m

removed_member : (t : Table) (i j : ℕ) → member_at (removed_from t i).slots j ≡ true → member_at t.slots j ≡ true
unfolding removed_from fallen_in fallen idle_slot
removed_member t i j m =
    let q : ℕ = (slot_at t.slots i).number in
    ⊎_elim
    (λ o. each_member (slot_count t.count) (λ k. fallen q (slot_at t.slots k)) t.slots j (λ k h. h) o)
    (λ o. absurd (false≢true o.1))
    (set_member (each (slot_count t.count) (λ k. fallen q (slot_at t.slots k)) t.slots) i j (idle_slot t.kind) m)

pub add_member : (t : Table) (i j : ℕ) → member_at (outcome_of t (AddSlot i)).table.slots j ≡ true → (member_at t.slots j ≡ true) ⊎ (j ≡ i)
unfolding add_of added_to
add_member t i j =
    in_order_member t (added_to t i) i (not (is_member (slot_at t.slots i).state)) j ((member_at t.slots j ≡ true) ⊎ (j ≡ i)) (λ m. inl m)
    (λ m. ⊎_elim (λ (o : member_at t.slots j ≡ true). inl o) (λ o. inr o.0) (set_member t.slots i j _ m))

pub remove_member : (t : Table) (i j : ℕ) → member_at (outcome_of t (RemoveSlot i)).table.slots j ≡ true → member_at t.slots j ≡ true
unfolding remove_of
remove_member t i j =
    in_order_member t (removed_from t i) i (is_member (slot_at t.slots i).state) j (member_at t.slots j ≡ true) (λ m. m) (removed_member t i j)

pub report_keeps : (t : Table) (e mst ack j : ℕ) → member_at (outcome_of t (Report e mst ack)).table.slots j ≡ true → member_at t.slots j ≡ true
report_keeps t e mst ack j m = report_member t e mst ack j m

pub lapse_keeps : (t : Table) (j : ℕ) → member_at (outcome_of t Lapse).table.slots j ≡ true → member_at t.slots j ≡ true
lapse_keeps t j m = lapse_member t j m
