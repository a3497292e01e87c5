-- Each call keeps the numbering of the table (`Sound`), and so does every run of calls.
-- The idea: a command does nothing, or changes slots as Laws/Adding and Laws/Removing have it. A report is taken in two parts, the states that its numbers make (`Heard`), which leave the numbers, and then the numbers given anew (Laws/Reporting).
use Rattle.std.specs.Prelude.{◌≡◌, ◌≢◌, Bool, cond, not, ◌||◌, List, [], ◌∷◌, ℕ, zero, suc, ◌+◌, ◌%◌, ◌≤◌, ◌<◌, eqb, ltb, length, set, replicate, Option, Some, None}
use Rattle.std.proofs.Math.Path.{refl}
use Rattle.std.proofs.Common.{◌∙◌, ap, ⊎_elim, arith, length-set, get_or-set_same, get_or-set_other, ltb-true}
use Rattle.std.proofs.Math.Bool.{true, false}
use Rattle.std.proofs.lemmas.List.{length-replicate, get_or-replicate}
use Rattle.std.proofs.lemmas.Bool.{not-true}
use Rattle.ground.specs.Truth.{eq_or_ne}
use Rattle.ground.specs.Counting.Each.{each, length_each, get_or_each}
use Rattle.ground.specs.Counting.Words.{count}
use Rattle.packet.specs.Kinds.{idle_number, mst_fails, mst_first, mst_numbers}
use Rattle.sender.specs.Answers.Answer.{Done, NoSlot, NotAllowed, OutOfRange, WaitOpen}
use Rattle.sender.specs.declared.table.Slot.{Slot}
use Rattle.sender.specs.declared.table.State.{State}
use Rattle.sender.specs.declared.table.State.TheVariants.{Idle, Add, Active, Dnu}
use Rattle.sender.specs.declared.table.Table.{Table}
use Rattle.sender.specs.Calls.{Call, outcome_of, run}
use Rattle.sender.specs.Calls.Call.{AddSlot, RemoveSlot, Report, Lapse}
use Rattle.sender.specs.Commands.{add_of, added_to, answered, fallen, fallen_in, fresh_of, idle_slot, in_order, lapse_of, remove_of, removed_from, start_of, with_slots}
use Rattle.sender.specs.Laws.Adding.{numbered_add}
use Rattle.sender.specs.Laws.Finding.{holder_said}
use Rattle.sender.specs.Laws.Numbered.{Numbered, numbered_fresh, numbered_same}
use Rattle.sender.specs.Laws.Removing.{lower, numbered_remove}
use Rattle.sender.specs.Laws.Reporting.{MayBecome, numbered_report}
use Rattle.sender.specs.Laws.Sizes.{size_le}
use Rattle.sender.specs.Numbering.{number_in, slots_in, state_in}
use Rattle.sender.specs.Reports.{acted_on, comes_before, mst_applied, number_after, renumbered, report_of, slot_after, becomes, spoken_to, number_applied, turn_of, waited}
use Rattle.sender.specs.Table.{holder_of, is_add, is_member, members_of, slot_count, slot_at}

-- a table that a start or a call returned
pub record Sound (t : Table) : Type 0 where
  pub whole : length t.slots ≡ 64
  pub numbered : Numbered (slots_in t) (idle_number t.kind) (state_in t) (number_in t)

below_whole : (c : ℕ) (slots : List Slot) (i : ℕ) → length slots ≡ 64 → i < slot_count c → i < length slots
below_whole c slots i e h = let l = size_le c in omega arith

fresh_slot : (kind i : ℕ) → i < 64 → slot_at (replicate 64 (idle_slot kind)) i ≡ idle_slot kind
fresh_slot kind i h = get_or-replicate 64 i (idle_slot kind) _ h

idle_state_lem : (kind : ℕ) → (idle_slot kind).state ≡ Idle
unfolding idle_slot
idle_state_lem kind = refl

idle_number_lem : (kind : ℕ) → (idle_slot kind).number ≡ idle_number kind
unfolding idle_slot
idle_number_lem kind = refl

pub sound_fresh : (kind count : ℕ) → Sound (fresh_of kind count)
unfolding fresh_of
sound_fresh kind c =
    record {
      whole = length-replicate 64 (idle_slot kind);
      numbered =
          numbered_fresh (slot_count c) (idle_number kind) _ _
          (λ i h. ap (λ (s : Slot). s.state) (fresh_slot kind i (let l = size_le c in omega arith)) ∙ idle_state_lem kind)
          (λ i h. ap (λ (s : Slot). s.number) (fresh_slot kind i (let l = size_le c in omega arith)) ∙ idle_number_lem kind);
    }

pub sound_start : (kind count : ℕ) → Sound (start_of kind count).table
unfolding start_of
sound_start kind c = go (eqb c 0 || ltb 64 c)
  where
    go : (b : Bool) → Sound (cond b (answered (fresh_of kind 0) OutOfRange) (answered (fresh_of kind c) Done)).table
    go true = sound_fresh kind 0
    go false = sound_fresh kind c

-- a command leaves the table as given, or does what it is allowed to
sound_in_order : (t next : Table) (i : ℕ) (allowed : Bool) → Sound t → (i < slots_in t → allowed ≡ true → Sound next) → Sound (in_order t i allowed next).table
sound_in_order t next i allowed o d = go (ltb i (slot_count t.count)) refl t.wait allowed refl
  where
    go : (b : Bool) → ltb i (slot_count t.count) ≡ b → (w a : Bool) → allowed ≡ a
        → Sound (cond b (cond w (answered t WaitOpen) (cond a (answered next Done) (answered t NotAllowed))) (answered t NoSlot)).table
    go false e w a h = o
    go true e true a h = o
    go true e false false h = o
    go true e false true h = d (ltb-true i (slot_count t.count) e) h

sound_added : (t : Table) (i : ℕ) → Sound t → i < slots_in t → is_member (state_in t i) ≡ false → Sound (added_to t i)
unfolding added_to members_of
sound_added t i o h out =
    record {
      whole = length-set t.slots i new ∙ o.whole;
      numbered =
          numbered_add (slots_in t) (idle_number t.kind) (state_in t) (state_in (added_to t i)) (number_in t) (number_in (added_to t i)) i h
          (λ j b d. (ap (λ (s : Slot). s.state) (other j d), ap (λ (s : Slot). s.number) (other j d)))
          out (ap (λ (s : Slot). s.state) here) (ap (λ (s : Slot). s.number) here) o.numbered;
    }
  where
    new : Slot
    new = record { state = Add; number = members_of t.slots (slot_count t.count) }

    here : slot_at (set t.slots i new) i ≡ new
    here = get_or-set_same t.slots i new _ (below_whole t.count t.slots i o.whole h)

    other : (j : ℕ) → j ≢ i → slot_at (set t.slots i new) j ≡ slot_at t.slots j
    other j d = get_or-set_other t.slots i j new _ d

fallen_state : (q : ℕ) (s : Slot) → (fallen q s).state ≡ s.state
unfolding fallen
fallen_state q s = refl

fallen_member : (q : ℕ) (s : Slot) → is_member s.state ≡ true → (fallen q s).number ≡ lower q s.number
unfolding fallen
fallen_member q s m = rw m

fallen_idle : (q : ℕ) (s : Slot) → is_member s.state ≡ false → (fallen q s).number ≡ s.number
unfolding fallen
fallen_idle q s m = rw m

sound_removed : (t : Table) (i : ℕ) → Sound t → i < slots_in t → is_member (state_in t i) ≡ true → Sound (removed_from t i)
unfolding removed_from fallen_in
sound_removed t i o h member =
    record {
      whole = length-set low i gone ∙ length_each n f t.slots ∙ o.whole;
      numbered =
          numbered_remove n (idle_number t.kind) (state_in t) (state_in (removed_from t i)) (number_in t) (number_in (removed_from t i)) i h member
          (ap (λ (s : Slot). is_member s.state) here ∙ ap is_member (idle_state_lem t.kind)) (ap (λ (s : Slot). s.number) here ∙ idle_number_lem t.kind)
          (λ j b d. ap (λ (s : Slot). s.state) (other j b d) ∙ fallen_state (number_in t i) (slot_at t.slots j))
          (λ j b d m. ap (λ (s : Slot). s.number) (other j b d) ∙ fallen_member (number_in t i) (slot_at t.slots j) m)
          (λ j b d m. ap (λ (s : Slot). s.number) (other j b d) ∙ fallen_idle (number_in t i) (slot_at t.slots j) m)
          o.numbered;
    }
  where
    n : ℕ
    n = slot_count t.count

    f : ℕ → Slot
    f j = fallen (slot_at t.slots i).number (slot_at t.slots j)

    low : List Slot
    low = each n f t.slots

    gone : Slot
    gone = idle_slot t.kind

    here : slot_at (set low i gone) i ≡ gone
    here = get_or-set_same low i gone _ (below_whole t.count low i (length_each n f t.slots ∙ o.whole) h)

    other : (j : ℕ) → j < n → j ≢ i → slot_at (set low i gone) j ≡ f j
    other j b d = get_or-set_other low i j gone _ d ∙ get_or_each n f t.slots j _ b (below_whole t.count t.slots j o.whole b)

-- what a report makes of states
pub may_stay : (s : State) → MayBecome s s
may_stay s = record { member = refl; add = λ a. a }

may_then : (a b c : State) → MayBecome a b → MayBecome b c → MayBecome a c
may_then a b c p q = record { member = q.member ∙ p.member; add = λ x. p.add (q.add x) }

may_become : (f : Bool) (s : State) → MayBecome s (becomes f s)
may_become f Idle = record { member = refl; add = λ a. a }
may_become true Add = record { member = refl; add = λ a. a }
may_become false Add = record { member = refl; add = λ a. refl }
may_become true Active = record { member = refl; add = λ a. a }
may_become false Active = record { member = refl; add = λ a. a }
may_become true Dnu = record { member = refl; add = λ a. a }
may_become false Dnu = record { member = refl; add = λ a. a }

-- the slots after some reported numbers: as many, with the numbers they had
pub record Heard (slots heard : List Slot) : Type 0 where
  pub len : length heard ≡ length slots
  pub number : (j : ℕ) → (slot_at heard j).number ≡ (slot_at slots j).number
  pub state : (j : ℕ) → MayBecome (slot_at slots j).state (slot_at heard j).state

heard_becomes : (f : Bool) (found : Option ℕ) (slots heard : List Slot) → ((i : ℕ) → found ≡ Some i → i < length slots) → Heard slots heard → Heard slots (spoken_to f found heard)
heard_becomes f None slots heard b o = o
heard_becomes f (Some i) slots heard b o =
    record { len = length-set heard i new ∙ o.len; number = number; state = state }
  where
    new : Slot
    new = record { state = becomes f (slot_at heard i).state; number = (slot_at heard i).number }

    here : slot_at (set heard i new) i ≡ new
    here = get_or-set_same heard i new _ (rw o.len (b i refl))

    number : (j : ℕ) → (slot_at (set heard i new) j).number ≡ (slot_at slots j).number
    number j =
        ⊎_elim (λ (e : j ≡ i). rw e (ap (λ (s : Slot). s.number) here ∙ o.number i))
        (λ (d : j ≢ i). ap (λ (s : Slot). s.number) (get_or-set_other heard i j new _ d) ∙ o.number j)
        (eq_or_ne j i)

    state : (j : ℕ) → MayBecome (slot_at slots j).state (slot_at (set heard i new) j).state
    state j =
        ⊎_elim
        (λ (e : j ≡ i). rw (e, here) (may_then (slot_at slots i).state (slot_at heard i).state _ (o.state i) (may_become f (slot_at heard i).state)))
        (λ (d : j ≢ i). rw (get_or-set_other heard i j new _ d) (o.state j))
        (eq_or_ne j i)

pub heard_in_lem : (slots : List Slot) (n first mst k : ℕ) → n ≤ length slots → Heard slots (mst_applied slots n first mst k)
unfolding mst_applied number_applied
heard_in_lem slots n first mst zero h = record { len = refl; number = λ j. refl; state = λ j. may_stay (slot_at slots j).state }
heard_in_lem slots n first mst (suc k) h =
    heard_becomes (mst_fails mst (first + k)) (holder_of slots n (first + k)) slots (mst_applied slots n first mst k)
    (λ i e. let l = (holder_said slots (first + k) n i e).0 in omega arith) (heard_in_lem slots n first mst k h)

-- a slot after a report
module _ (was is : List Slot) (n i : ℕ) where
  pub after_state : (slot_after was is n i).state ≡ (slot_at is i).state
  unfolding slot_after
  after_state = go (is_add (slot_at was i).state)
    where
      go : (b : Bool) → (cond b (record { state = (slot_at is i).state; number = number_after was is n (slot_at was i).number (turn_of (slot_at was i).state (slot_at is i).state) }) (slot_at is i)).state ≡ (slot_at is i).state
      go true = refl
      go false = refl

  pub after_anew : is_add (slot_at was i).state ≡ true
      → (slot_after was is n i).number ≡ count n (λ j. comes_before (slot_at was j) (slot_at is j) (slot_at was i).number (turn_of (slot_at was i).state (slot_at is i).state))
  unfolding slot_after number_after
  after_anew a = rw a

  after_kept : is_add (slot_at was i).state ≡ false → (slot_after was is n i).number ≡ (slot_at is i).number
  unfolding slot_after
  after_kept a = rw a

sound_acted : (t : Table) (e mst ack : ℕ) → Sound t → Sound (acted_on t e mst ack)
unfolding acted_on renumbered
sound_acted t e mst ack o =
    record {
      whole = length_each n f is ∙ h.len ∙ o.whole;
      numbered =
          numbered_same n (idle_number t.kind) (λ i. (slot_at is i).state) _ (λ i. (f i).number) _
          (λ i b. ap (λ (s : Slot). s.state) (at i b) ∙ after_state t.slots is n i) (λ i b. ap (λ (s : Slot). s.number) (at i b))
          (numbered_report n (idle_number t.kind) (slot_at t.slots) (slot_at is) (λ i. (f i).number) (λ i b. h.state i)
          (λ i b a. after_anew t.slots is n i a) (λ i b a. after_kept t.slots is n i a ∙ h.number i) o.numbered);
    }
  where
    n : ℕ
    n = slot_count t.count

    is : List Slot
    is = mst_applied t.slots n (mst_first t.kind e) mst (mst_numbers t.kind)

    f : ℕ → Slot
    f i = slot_after t.slots is n i

    h : Heard t.slots is
    h = heard_in_lem t.slots n (mst_first t.kind e) mst (mst_numbers t.kind) (let l = size_le t.count in let w = o.whole in omega arith)

    at : (i : ℕ) → i < n → slot_at (each n f is) i ≡ f i
    at i b = get_or_each n f is i _ b (below_whole t.count is i (h.len ∙ o.whole) b)

sound_waited : (t : Table) (ack : ℕ) → Sound t → Sound (waited t ack)
unfolding waited
sound_waited t ack o = go (eqb ack t.remembered)
  where
    go : (b : Bool) → Sound (cond b t (record { slots = t.slots; count = t.count; wait = false; remembered = ack; kind = t.kind }))
    go true = o
    go false = record { whole = o.whole; numbered = o.numbered }

sound_report : (t : Table) (e mst ack : ℕ) → Sound t → Sound (report_of t e mst ack).table
unfolding report_of
sound_report t e mst ack o = go t.wait
  where
    go : (b : Bool) → Sound (cond b (waited t (ack % 2)) (acted_on t e mst (ack % 2)))
    go true = sound_waited t (ack % 2) o
    go false = sound_acted t e mst (ack % 2) o

sound_lapse : (t : Table) → Sound t → Sound (lapse_of t).table
unfolding lapse_of
sound_lapse t o = go t.wait
  where
    go : (b : Bool) → Sound (cond b (answered (with_slots t t.slots false) Done) (answered t NotAllowed)).table
    go true = record { whole = o.whole; numbered = o.numbered }
    go false = o

sound_add : (t : Table) (i : ℕ) → Sound t → Sound (add_of t i).table
unfolding add_of
sound_add t i o =
    sound_in_order t (added_to t i) i (not (is_member (slot_at t.slots i).state)) o (λ h a. sound_added t i o h (not-true _ a))

sound_remove : (t : Table) (i : ℕ) → Sound t → Sound (remove_of t i).table
unfolding remove_of
sound_remove t i o = sound_in_order t (removed_from t i) i (is_member (slot_at t.slots i).state) o (λ h a. sound_removed t i o h a)

pub sound_call : (t : Table) (c : Call) → Sound t → Sound (outcome_of t c).table
sound_call t (AddSlot i) o = sound_add t i o
sound_call t (RemoveSlot i) o = sound_remove t i o
sound_call t (Report e mst ack) o = sound_report t e mst ack o
sound_call t Lapse o = sound_lapse t o

pub sound_run : (t : Table) (cs : List Call) → Sound t → Sound (run t cs)
sound_run t [] o = o
sound_run t (c ∷ cs) o = sound_run (outcome_of t c).table cs (sound_call t c o)

fresh_idle : (kind count i : ℕ) → i < slots_in (fresh_of kind count) → state_in (fresh_of kind count) i ≡ Idle
unfolding fresh_of
fresh_idle kind c i h = ap (λ (s : Slot). s.state) (fresh_slot kind i (let l = size_le c in omega arith)) ∙ idle_state_lem kind

-- a start leaves every slot IDLE
pub start_idle : (kind count i : ℕ) → i < slots_in (start_of kind count).table → state_in (start_of kind count).table i ≡ Idle
unfolding start_of
start_idle kind c i = go (eqb c 0 || ltb 64 c)
  where
    go : (b : Bool) → let t = (cond b (answered (fresh_of kind 0) OutOfRange) (answered (fresh_of kind c) Done)).table in i < slots_in t → state_in t i ≡ Idle
    go true h = fresh_idle kind 0 i h
    go false h = fresh_idle kind c i h

-- a call leaves the count and the kind of packet
pub record Group (t u : Table) : Type 0 where
  pub count : u.count ≡ t.count
  pub kind : u.kind ≡ t.kind

group_self : (t : Table) → Group t t
group_self t = record { count = refl; kind = refl }

group_in_order : (t next : Table) (i : ℕ) (allowed : Bool) → Group t next → Group t (in_order t i allowed next).table
group_in_order t next i allowed d = go (ltb i (slot_count t.count)) t.wait allowed
  where
    go : (b w a : Bool) → Group t (cond b (cond w (answered t WaitOpen) (cond a (answered next Done) (answered t NotAllowed))) (answered t NoSlot)).table
    go false w a = group_self t
    go true true a = group_self t
    go true false false = group_self t
    go true false true = d

pub group_call : (t : Table) (c : Call) → Group t (outcome_of t c).table
unfolding add_of added_to remove_of removed_from report_of waited acted_on lapse_of
group_call t (AddSlot i) = group_in_order t (added_to t i) i (not (is_member (slot_at t.slots i).state)) (record { count = refl; kind = refl })
group_call t (RemoveSlot i) = group_in_order t (removed_from t i) i (is_member (slot_at t.slots i).state) (record { count = refl; kind = refl })
group_call t (Report e mst ack) = go t.wait (eqb (ack % 2) t.remembered)
  where
    go : (w b : Bool) → Group t (cond w (cond b t (record { slots = t.slots; count = t.count; wait = false; remembered = ack % 2; kind = t.kind })) (acted_on t e mst (ack % 2)))
    go true true = group_self t
    go true false = record { count = refl; kind = refl }
    go false b = record { count = refl; kind = refl }
group_call t Lapse = go t.wait
  where
    go : (w : Bool) → Group t (cond w (answered (with_slots t t.slots false) Done) (answered t NotAllowed)).table
    go true = record { count = refl; kind = refl }
    go false = group_self t

pub kind_run : (t : Table) (cs : List Call) → (run t cs).kind ≡ t.kind
kind_run t [] = refl
kind_run t (c ∷ cs) = kind_run (outcome_of t c).table cs ∙ (group_call t c).kind

pub start_kind : (kind count : ℕ) → (start_of kind count).table.kind ≡ kind
unfolding start_of fresh_of
start_kind kind c = go (eqb c 0 || ltb 64 c)
  where
    go : (b : Bool) → (cond b (answered (fresh_of kind 0) OutOfRange) (answered (fresh_of kind c) Done)).table.kind ≡ kind
    go true = refl
    go false = refl
