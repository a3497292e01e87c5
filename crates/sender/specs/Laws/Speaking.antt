-- What a report makes of one member, and of an ADD member whose OK has not come yet.
-- The idea: nobody else holds its number, so only what MST says of that number changes its state; and while no ADD becomes active the ADD members keep their numbers and no wait opens.
use Rattle.std.specs.Prelude.{◌≡◌, ◌⊎◌, ◌≢◌, Bool, cond, not, ◌&&◌, List, eqb, length, Option, Some, None}
use Rattle.std.proofs.Math.Path.{refl, ap}
use Rattle.std.proofs.Common.{sym, subst, ◌∙◌, inl, inr, true≢false, not-suc-le-zero, get_or-set_same, get_or-set_other}
use Rattle.std.proofs.Math.Logic.{⊎_elim}
use Rattle.std.proofs.Math.Bool.{true, false}
use Prim.Native.Nat.{ℕ, zero, suc, ◌+◌, ◌%◌, ◌≤◌, ◌<◌}
use native.Mathlib.Omega.{arith}
use Rattle.std.proofs.Math.Dec.{ltb}
use borrow.Author.Tests.{eq-eqb, eqb-true, lt-ltb, ltb-true}
use Rattle.ground.specs.Truth.{and_left, and_right, and-true, eq_or_ne, fails}
use Rattle.ground.specs.Counting.Each.{get_or_each}
use Rattle.ground.specs.Counting.Laws.Numbers.{count_ext, count_le}
use Rattle.ground.specs.Counting.Laws.Ranks.{full_below}
use Rattle.ground.specs.Counting.Laws.Tests.{some_none}
use Rattle.ground.specs.Counting.Words.{count}
use Rattle.packet.specs.Kinds.{mst_fails, mst_first, mst_numbers}
use Rattle.packet.specs.Laws.Mst.{spoken_or_not}
use Rattle.packet.specs.Mst.{Spoken}
use Rattle.sender.specs.Answers.Answer.{Done, NoSlot, NotAllowed, WaitOpen}
use Rattle.sender.specs.Answers.{Outcome}
use Rattle.sender.specs.declared.table.Slot.{Slot}
use Rattle.sender.specs.declared.table.State.{State}
use Rattle.sender.specs.declared.table.State.TheVariants.{Idle, Add, Active, Dnu}
use Rattle.sender.specs.declared.table.Table.{Table}
use Rattle.sender.specs.Calls.Call.{AddSlot, Report}
use Rattle.sender.specs.Commands.{add_of, added_to, answered}
use Rattle.sender.specs.Laws.Finding.{holder_is, holder_said}
use Rattle.sender.specs.Laws.Kept.{Heard, Sound, after_anew, after_state, heard_in_lem, may_stay, sound_call}
use Rattle.sender.specs.Laws.Reporting.{MayBecome}
use Rattle.sender.specs.Laws.Sizes.{size_le}
use Rattle.sender.specs.Numbering.{is_placed, number_in, slots_in, state_in}
use Rattle.sender.specs.Reports.{acted_on, becomes, comes_before, mst_applied, number_applied, opens_wait, renumbered, report_of, slot_after, spoken_to, turn_of, waited}
use Rattle.sender.specs.Table.{answer_number, holder_of, holds, is_active, is_add, is_member, members_of, slot_count, slot_at}

module _ (t : Table) (o : Sound t) (e mst ack : ℕ) where
  abbrev n : ℕ
  n = slots_in t

  abbrev F : ℕ
  F = mst_first t.kind e

  -- the slots as the reported numbers leave them, and the table with its numbers given anew
  abbrev is : List Slot
  is = mst_applied t.slots n F mst (mst_numbers t.kind)

  abbrev u : Table
  u = acted_on t e mst ack

  long : n ≤ length t.slots
  long = let l = size_le t.count in let h = o.whole in omega arith

  heard : (k : ℕ) → Heard t.slots (mst_applied t.slots n F mst k)
  heard k = heard_in_lem t.slots n F mst k long

  slot_is : (j : ℕ) → j < n → slot_at u.slots j ≡ slot_after t.slots is n j
  unfolding acted_on renumbered
  slot_is j h =
      get_or_each n (λ k. slot_after t.slots is n k) is j (record { state = Idle; number = 0 }) h (let l = long in rw (heard (mst_numbers t.kind)).len (omega arith))

  state_is : (j : ℕ) → j < n → state_in u j ≡ (slot_at is j).state
  state_is j h = ap (λ (s : Slot). s.state) (slot_is j h) ∙ after_state t.slots is n j

  may_acted : (j : ℕ) → j < n → MayBecome (state_in t j) (state_in u j)
  may_acted j h = rw (state_is j h) ((heard (mst_numbers t.kind)).state j)

  -- one member
  module _ (i : ℕ) (b : i < n) (member : is_member (state_in t i) ≡ true) where
    abbrev q : ℕ
    q = number_in t i

    abbrev after : ℕ → List Slot
    after k = mst_applied t.slots n F mst k

    -- nobody else holds its number
    only : (j : ℕ) → j < n → holds (slot_at t.slots j) q ≡ true → j ≡ i
    only j h k =
        o.numbered.once j i h b (and_left (is_member (state_in t j)) (eqb (number_in t j) q) k) member
        (eqb-true (number_in t j) q (and_right (is_member (state_in t j)) (eqb (number_in t j) q) k))

    own : holder_of t.slots n q ≡ Some i
    own = holder_is t.slots q n i b (and-true (is_member (state_in t i)) (eqb q q) member (eq-eqb q q refl)) only

    -- another number leaves it
    left_alone : (f : Bool) (found : Option ℕ) (new : List Slot) → (found ≡ Some i → ⊥) → slot_at (spoken_to f found new) i ≡ slot_at new i
    left_alone f None new d = refl
    left_alone f (Some j) new d = get_or-set_other new j i _ _ (λ (g : i ≡ j). d (ap Some (sym g)))

    not_found : (k : ℕ) → F + k ≢ q → holder_of t.slots n (F + k) ≡ Some i → ⊥
    not_found k d g =
        let s = holder_said t.slots (F + k) n i g in
        d (sym (eqb-true q (F + k) (and_right (is_member (state_in t i)) (eqb q (F + k)) s.1)))

    unspoken : (k : ℕ) → ((j : ℕ) → j < k → F + j ≢ q) → slot_at (after k) i ≡ slot_at t.slots i
    unfolding mst_applied number_applied
    unspoken zero d = refl
    unspoken (suc k) d =
        left_alone (mst_fails mst (F + k)) (holder_of t.slots n (F + k)) (after k) (not_found k (d k (omega arith))) ∙ unspoken k (λ j h. d j (omega arith))

    spoken : (k m : ℕ) → m < k → F + m ≡ q → (slot_at (after k) i).state ≡ becomes (mst_fails mst q) (state_in t i)
    unfolding mst_applied number_applied
    spoken zero m h g = absurd (not-suc-le-zero h)
    spoken (suc k) m h g =
        ⊎_elim (λ (same : m ≡ k). here same)
        (λ (d : m ≢ k).
        ap (λ (s : Slot). s.state) (left_alone (mst_fails mst (F + k)) (holder_of t.slots n (F + k)) (after k) (not_found k (λ z. d (omega arith))))
        ∙ spoken k m (omega arith) g)
        (eq_or_ne m k)
      where
        here : m ≡ k → (slot_at (spoken_to (mst_fails mst (F + k)) (holder_of t.slots n (F + k)) (after k)) i).state ≡ becomes (mst_fails mst q) (state_in t i)
        here same =
            let w : F + k ≡ q = omega arith in
            rw (w, own)
            (ap (λ (s : Slot). s.state) (get_or-set_same (after k) i _ _ (let l = long in rw (heard k).len (omega arith)))
            ∙ ap (λ (s : Slot). becomes (mst_fails mst q) s.state) (unspoken k (λ j l z. omega arith)))

    -- where MST speaks of its number it becomes what MST says,
    pub said : Spoken t.kind e q → state_in u i ≡ becomes (mst_fails mst q) (state_in t i)
    said s = state_is i b ∙ spoken (mst_numbers t.kind) s.place s.below s.is

    -- and otherwise it stays
    pub unsaid : ((m : ℕ) → m < mst_numbers t.kind → F + m ≢ q) → state_in u i ≡ state_in t i
    unsaid d = state_is i b ∙ ap (λ (s : Slot). s.state) (unspoken (mst_numbers t.kind) d)

  -- an ADD member stays or becomes active
  add_becomes : (j : ℕ) → j < n → state_in t j ≡ Add → (state_in u j ≡ Add) ⊎ (state_in u j ≡ Active)
  add_becomes j h a =
      ⊎_elim (λ (s : Spoken t.kind e (number_in t j)). by_mst (mst_fails mst (number_in t j)) (said j h (ap is_member a) s))
      (λ (d : (m : ℕ) → m < mst_numbers t.kind → F + m ≢ number_in t j). inl (unsaid j h (ap is_member a) d ∙ a))
      (spoken_or_not t.kind e (number_in t j))
    where
      by_mst : (f : Bool) → state_in u j ≡ becomes f (state_in t j) → (state_in u j ≡ Add) ⊎ (state_in u j ≡ Active)
      by_mst true g = inl (g ∙ ap (becomes true) a)
      by_mst false g = inr (g ∙ ap (becomes false) a)

  -- where every ADD member stays one, they keep their numbers and no wait opens
  module _ (stays : (j : ℕ) → j < n → state_in t j ≡ Add → (slot_at is j).state ≡ Add) where
    -- before an ADD member come those with smaller numbers
    comes_before_lem : (i : ℕ) → i < n → state_in t i ≡ Add → (j : ℕ) → j < n
        → comes_before (slot_at t.slots j) (slot_at is j) (number_in t i) 2 ≡ (is_member (state_in t j) && ltb (number_in t j) (number_in t i))
    unfolding comes_before turn_of
    comes_before_lem i b a j h = go (state_in t j) refl
      where
        placed_before : is_placed (state_in t j) ≡ true → number_in t j < number_in t i
        placed_before p = let l = o.numbered.low j h p in let k = o.numbered.follow i b (ap is_add a) in omega arith

        not_add : is_add (state_in t j) ≡ false → is_add (slot_at is j).state ≡ false
        not_add d = fails (is_add (slot_at is j).state) (λ x. true≢false (sym (((heard (mst_numbers t.kind)).state j).add x) ∙ d))

        go : (s : State) → state_in t j ≡ s → comes_before (slot_at t.slots j) (slot_at is j) (number_in t i) 2 ≡ (is_member (state_in t j) && ltb (number_in t j) (number_in t i))
        go Idle g = rw g refl
        go Add g = rw (stays j h g, g) refl
        go Active g = let l = placed_before (ap is_placed g) in rw (not_add (ap is_add g), lt-ltb (number_in t j) (number_in t i) l, g) refl
        go Dnu g = let l = placed_before (ap is_placed g) in rw (not_add (ap is_add g), lt-ltb (number_in t j) (number_in t i) l, g) refl

    number_stays : (i : ℕ) → i < n → state_in t i ≡ Add → number_in u i ≡ number_in t i
    unfolding turn_of
    number_stays i b a =
        ap (λ (s : Slot). s.number) (slot_is i b)
        ∙ after_anew t.slots is n i (ap is_add a)
        ∙ ap (λ (s : State). count_with_lem (turn_of (state_in t i) s)) (stays i b a)
        ∙ count_ext n (λ j. comes_before (slot_at t.slots j) (slot_at is j) (number_in t i) 2) (λ j. is_member (state_in t j) && ltb (number_in t j) (number_in t i)) (comes_before_lem i b a)
        ∙ full_below n (λ j. is_member (state_in t j)) (number_in t) o.numbered.once o.numbered.top (number_in t i) (let l = o.numbered.top i b (ap is_member a) in omega arith)
      where
        count_with_lem : ℕ → ℕ
        count_with_lem turn = count n (λ j. comes_before (slot_at t.slots j) (slot_at is j) (number_in t i) turn)

    stays_shut : u.wait ≡ false
    unfolding acted_on opens_wait
    stays_shut = some_none n (λ j. is_add (state_in t j) && is_active (slot_at is j).state) none
      where
        none : (j : ℕ) → j < n → (is_add (state_in t j) && is_active (slot_at is j).state) ≡ false
        none j b = go (state_in t j) refl
          where
            go : (s : State) → state_in t j ≡ s → (is_add (state_in t j) && is_active (slot_at is j).state) ≡ false
            go Idle g = rw g refl
            go Add g = rw (stays j b g, g) refl
            go Active g = rw g refl
            go Dnu g = rw g refl

-- no report makes an ADD member
pub report_may : (t : Table) → Sound t → (e mst ack j : ℕ) → j < slots_in t → MayBecome (state_in t j) (state_in (report_of t e mst ack).table j)
unfolding report_of waited
report_may t o e mst ack j h = go t.wait (eqb (ack % 2) t.remembered)
  where
    go : (c d : Bool) → MayBecome (state_in t j) (state_in (cond c (cond d t (record { slots = t.slots; count = t.count; wait = false; remembered = ack % 2; kind = t.kind })) (acted_on t e mst (ack % 2))) j)
    go true true = may_stay (state_in t j)
    go true false = may_stay (state_in t j)
    go false d = may_acted t o e mst (ack % 2) j h

-- a slot that is ADD under q while no wait is open
pub record Pending (t : Table) (i q : ℕ) : Type 0 where
  pub sound : Sound t
  pub below : i < slots_in t
  pub add : state_in t i ≡ Add
  pub number : number_in t i ≡ q
  pub shut : t.wait ≡ false

-- its number is below 64
pub pending_low : (t : Table) (i q : ℕ) → Pending t i q → q < 64
pending_low t i q w =
    let h = w.sound.numbered.top i w.below (ap is_member w.add) in
    let m = count_le (slots_in t) (λ j. is_member (state_in t j)) in
    let z = size_le t.count in
    let e = w.number in
    omega arith

-- it has become active, by what MST said of q
pub record BecomesActive (t : Table) (i q e mst : ℕ) (next : Table) : Type 0 where
  pub active : state_in next i ≡ Active
  pub spoken : Spoken t.kind e q
  pub ok : mst_fails mst q ≡ false

module _ (t : Table) (i q : ℕ) (w : Pending t i q) (e mst ack : ℕ) where
  abbrev next : Table
  next = (report_of t e mst ack).table

  next_is : next ≡ acted_on t e mst (ack % 2)
  unfolding report_of
  next_is = rw w.shut refl

  by_mst : Spoken t.kind e q → state_in next i ≡ becomes (mst_fails mst q) Add
  by_mst s =
      ap (λ (v : Table). state_in v i) next_is
      ∙ said t w.sound e mst (ack % 2) i w.below (ap is_member w.add) (subst (Spoken t.kind e) (sym w.number) s)
      ∙ rw (w.number, w.add) refl

  -- 'ADD with OK becomes active'
  pub acts : Spoken t.kind e q → mst_fails mst q ≡ false → state_in next i ≡ Active
  acts s ok = by_mst s ∙ rw ok refl

  -- where no other ADD becomes active, it does or stays so
  module _ (others : (j : ℕ) → j < slots_in t → j ≢ i → is_add (state_in t j) ≡ true → is_active (state_in next j) ≡ false) where
    pending_on : state_in next i ≡ Add → Pending next i q
    unfolding acted_on
    pending_on a =
        record {
          sound = sound_call t (Report e mst ack) w.sound;
          below = rw next_is w.below;
          add = a;
          number = rw next_is (number_stays t w.sound e mst (ack % 2) stays i w.below w.add ∙ w.number);
          shut = rw next_is (stays_shut t w.sound e mst (ack % 2) stays);
        }
      where
        acted : Table
        acted = acted_on t e mst (ack % 2)

        add_or_active : (j : ℕ) → j < slots_in t → state_in t j ≡ Add → state_in acted j ≡ Add
        add_or_active j h g =
            ⊎_elim (λ (s : j ≡ i). rw (s, ← next_is) a)
            (λ (d : j ≢ i).
            ⊎_elim (λ (x : state_in acted j ≡ Add). x)
            (λ (x : state_in acted j ≡ Active). absurd (true≢false (sym (ap is_active (ap (λ (v : Table). state_in v j) next_is ∙ x)) ∙ others j h d (ap is_add g))))
            (add_becomes t w.sound e mst (ack % 2) j h g))
            (eq_or_ne j i)

        stays : (j : ℕ) → j < slots_in t → state_in t j ≡ Add → (slot_at (mst_applied t.slots (slots_in t) (mst_first t.kind e) mst (mst_numbers t.kind)) j).state ≡ Add
        stays j h g = sym (state_is t w.sound e mst (ack % 2) j h) ∙ add_or_active j h g

    pub active_or_pending : BecomesActive t i q e mst next ⊎ Pending next i q
    active_or_pending =
        ⊎_elim (λ (s : Spoken t.kind e q). go s (mst_fails mst q) refl)
        (λ (d : (m : ℕ) → m < mst_numbers t.kind → mst_first t.kind e + m ≢ q).
        inr (pending_on (ap (λ (v : Table). state_in v i) next_is ∙ unsaid t w.sound e mst (ack % 2) i w.below (ap is_member w.add) (λ m h. rw w.number (d m h)) ∙ w.add)))
        (spoken_or_not t.kind e q)
      where
        go : Spoken t.kind e q → (f : Bool) → mst_fails mst q ≡ f → BecomesActive t i q e mst next ⊎ Pending next i q
        go s true f = inr (pending_on (by_mst s ∙ rw f refl))
        go s false f = inl (record { active = acts s f; spoken = s; ok = f })

-- an add that is answered 0: the slot is ADD under the next free number, and the others are as they were
module _ (t : Table) (i : ℕ) (o : Sound t) (done : (add_of t i).answer ≡ Done) where
  record Added (next : Table) : Type 0 where
    below : i < slots_in t
    shut : t.wait ≡ false
    is_added : next ≡ added_to t i

  added : Added (add_of t i).table
  unfolding add_of
  added = go (ltb i (slot_count t.count)) refl t.wait refl (not (is_member (slot_at t.slots i).state)) done
    where
      go : (c : Bool) → ltb i (slot_count t.count) ≡ c → (w : Bool) → t.wait ≡ w → (d : Bool)
          → (cond {A = Outcome} c (cond w (answered t WaitOpen) (cond d (answered (added_to t i) Done) (answered t NotAllowed))) (answered t NoSlot)).answer ≡ Done
          → Added (cond {A = Outcome} c (cond w (answered t WaitOpen) (cond d (answered (added_to t i) Done) (answered t NotAllowed))) (answered t NoSlot)).table
      go true c false w true e = record { below = ltb-true i (slot_count t.count) c; shut = w; is_added = refl }
      go true c false w false e = absurd (let z = ap answer_number e in omega arith)
      go true c true w d e = absurd (let z = ap answer_number e in omega arith)
      go false c w h d e = absurd (let z = ap answer_number e in omega arith)

  here : state_in (added_to t i) i ≡ Add
  unfolding added_to
  here =
      ap (λ (s : Slot). s.state)
      (get_or-set_same t.slots i (record { state = Add; number = members_of t.slots (slot_count t.count) }) (record { state = Idle; number = 0 })
      (let l = size_le t.count in let h = o.whole in let b = added.below in omega arith))

  pub added_pending : Pending (add_of t i).table i (number_in (add_of t i).table i)
  unfolding added_to
  added_pending =
      record {
        sound = sound_call t (AddSlot i) o;
        below = rw added.is_added added.below;
        add = rw added.is_added here;
        number = refl;
        shut = rw added.is_added added.shut;
      }

  pub added_other : (j : ℕ) → j ≢ i → state_in (add_of t i).table j ≡ state_in t j
  unfolding added_to
  added_other j d =
      ap (λ (v : Table). state_in v j) added.is_added
      ∙ ap (λ (s : Slot). s.state) (get_or-set_other t.slots i j (record { state = Add; number = members_of t.slots (slot_count t.count) }) (record { state = Idle; number = 0 }) d)
