-- Each way out of the commands and reports, as the definitions have it.
use Rattle.std.specs.Prelude.{Some, None, Ok, Err}
use mathlib.Core.Path.{◌≡◌, ◌∙◌, refl, sym, ap}
use mathlib.Core.Bool.{Bool, true, false, cond, not}
use mathlib.Core.List.{List}
use Prim.Native.Nat.{ℕ, ◌+◌}
use native.Mathlib.Numerals.{add-one}
use lib.Dec.{ltb}
use lib.ListN.{set}
use Rattle.packet.specs.Kinds.{mst_fails, mst_first, mst_numbers}
use Rattle.sender.specs.declared.refusals.Refusal.{Refusal}
use Rattle.sender.specs.declared.refusals.Refusal.TheVariants as R
use Rattle.sender.specs.declared.table.Slot.{Slot}
use Rattle.sender.specs.declared.table.State.{State}
use Rattle.sender.specs.declared.table.Table.{Table}
use Rattle.sender.specs.Answers.{told}
use Rattle.sender.specs.Answers.Answer.{Done, NoSlot, NotAllowed, WaitOpen}
use Rattle.sender.specs.Commands.{add_of, added_to, answered, in_order, remove_of, removed_from, slot_asked}
use Rattle.sender.specs.Reports.{acted_on, mst_applied, number_after, opens_wait, renumbered, slot_after, becomes, number_applied, turn_of}
use Rattle.sender.specs.Table.{holder_of, is_add, is_member, slot_count, slot_at}

-- a command whose slot was asked for
module _ (t next : Table) (i : ℕ) (allowed : Bool) where
  pub asked_refused : {e : Refusal} → Err e ≡ slot_asked t i → Err e ≡ told (in_order t i allowed next)
  asked_refused {e} = go (ltb i (slot_count t.count)) t.wait
    where
      go : (b w : Bool) → Err e ≡ cond b (cond w (Err R.WaitOpen) (Ok i)) (Err R.NoSlot)
          → Err e ≡ told (cond b (cond w (answered t WaitOpen) (cond allowed (answered next Done) (answered t NotAllowed))) (answered t NoSlot))
      go false w h = cc
      go true true h = cc
      go true false h = cc

  pub asked_told : {at : ℕ} → Ok at ≡ slot_asked t i → told (in_order t i allowed next) ≡ cond allowed (Ok next) (Err R.NotAllowed)
  asked_told {at} = go (ltb i (slot_count t.count)) t.wait allowed
    where
      go : (b w a : Bool) → Ok at ≡ cond b (cond w (Err R.WaitOpen) (Ok i)) (Err R.NoSlot)
          → told (cond b (cond w (answered t WaitOpen) (cond a (answered next Done) (answered t NotAllowed))) (answered t NoSlot)) ≡ cond a (Ok next) (Err R.NotAllowed)
      go false w a h = cc
      go true true a h = cc
      go true false false h = refl
      go true false true h = refl

asked_is : (t : Table) (i : ℕ) {at : ℕ} → Ok at ≡ slot_asked t i → at ≡ i
asked_is t i {at} = go (ltb i (slot_count t.count)) t.wait
  where
    go : (b w : Bool) → Ok at ≡ cond b (cond w (Err R.WaitOpen) (Ok i)) (Err R.NoSlot) → at ≡ i
    go false w h = cc
    go true true h = cc
    go true false h = cc

module _ (t : Table) (i : ℕ) {at : ℕ} (h : Ok at ≡ slot_asked t i) where
  pub add_no : is_member (slot_at t.slots at).state ≡ true → Err R.NotAllowed ≡ told (add_of t i)
  unfolding add_of
  add_no m =
      let k : is_member (slot_at t.slots i).state ≡ true = rw (asked_is t i h) at m in
      sym (asked_told t (added_to t i) i (not (is_member (slot_at t.slots i).state)) h ∙ rw k)

  pub add_done : {next : Table} → is_member (slot_at t.slots at).state ≡ false → next ≡ added_to t at → Ok next ≡ told (add_of t i)
  unfolding add_of
  add_done m e =
      let k : is_member (slot_at t.slots i).state ≡ false = rw (asked_is t i h) at m in
      let f : _ ≡ added_to t i = rw (asked_is t i h) at e in
      ap Ok f ∙ sym (asked_told t (added_to t i) i (not (is_member (slot_at t.slots i).state)) h ∙ rw k)

  pub remove_no : is_member (slot_at t.slots at).state ≡ false → Err R.NotAllowed ≡ told (remove_of t i)
  unfolding remove_of
  remove_no m =
      let k : is_member (slot_at t.slots i).state ≡ false = rw (asked_is t i h) at m in
      sym (asked_told t (removed_from t i) i (is_member (slot_at t.slots i).state) h ∙ rw k)

  pub remove_done : {next : Table} → is_member (slot_at t.slots at).state ≡ true → next ≡ removed_from t at → Ok next ≡ told (remove_of t i)
  unfolding remove_of
  remove_done m e =
      let k : is_member (slot_at t.slots i).state ≡ true = rw (asked_is t i h) at m in
      let f : _ ≡ removed_from t i = rw (asked_is t i h) at e in
      ap Ok f ∙ sym (asked_told t (removed_from t i) i (is_member (slot_at t.slots i).state) h ∙ rw k)

-- one reported number
module _ (slots heard : List Slot) (n q mst : ℕ) where
  pub told_at : {fails : Bool} {i : ℕ} {state : State} → fails ≡ mst_fails mst q → Some i ≡ holder_of slots n q → state ≡ becomes fails (slot_at heard i).state
      → set heard i (record { state = state; number = (slot_at heard i).number }) ≡ number_applied slots heard n q mst
  unfolding number_applied
  told_at e h s = rw (← e, ← h, s)

  pub told_none : None ≡ holder_of slots n q → heard ≡ number_applied slots heard n q mst
  unfolding number_applied
  told_none h = rw (← h)

-- a slot's number after a report
module _ (was is : List Slot) (n i : ℕ) where
  pub after_add : (turn number : ℕ) → is_add (slot_at was i).state ≡ true → turn ≡ turn_of (slot_at was i).state (slot_at is i).state
      → number ≡ number_after was is n (slot_at was i).number turn → record { state = (slot_at is i).state; number = number } ≡ slot_after was is n i
  unfolding slot_after
  after_add turn number a e h = rw (a, ← e, h)

  pub after_other : is_add (slot_at was i).state ≡ false → slot_at is i ≡ slot_after was is n i
  unfolding slot_after
  after_other a = rw a

pub acted_is : (t : Table) (e mst ack : ℕ) {n first numbers : ℕ} {is next : List Slot} {wait : Bool} → n ≡ slot_count t.count → first ≡ mst_first t.kind e → numbers ≡ mst_numbers t.kind
    → is ≡ mst_applied t.slots n first mst numbers → next ≡ renumbered t.slots is n → wait ≡ opens_wait t.slots is n
    → record { slots = next; count = t.count; wait = wait; remembered = ack; kind = t.kind } ≡ acted_on t e mst ack
unfolding acted_on
acted_is t e mst ack size first numbers is next wait = rw (next, wait, is, first, numbers, size)

-- one more reported number
pub heard_more : (slots : List Slot) (n first mst k : ℕ) {heard : List Slot} (next : List Slot) → heard ≡ mst_applied slots n first mst k → next ≡ number_applied slots heard n (first + k) mst
    → next ≡ mst_applied slots n first mst (k + 1)
unfolding mst_applied
heard_more slots n first mst k next e h = h ∙ rw (e, add-one)
