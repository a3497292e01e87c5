-- 'Each changed slot is spoken once, EOS to NORM too, no other', 'in slot order, then the wait if it differs.'
use Rattle.std.specs.Prelude.{◌≡◌, refl, Bool, true, false, cond, List, ℕ, suc, ◌≤◌, ◌<◌, eqb, leb, length}
use Rattle.std.proofs.Common.{sym, ◌∙◌, ap, true≢false, arith, eqb-true, leb-true, lt-ltb}
use Rattle.std.proofs.lemmas.Bool.{false≢true}
use Rattle.ground.specs.Truth.{and_left, and_right}
use Rattle.ground.specs.Counting.Laws.Numbers.{count_ext}
use Rattle.ground.specs.Counting.Words.{count}
use Rattle.sender.specs.declared.board.Board.{Board}
use Rattle.sender.specs.declared.board.Row.{Row}
use Rattle.spoken.specs.Laws.Spoken.{list_at_lem, spoken_ordered, spoken_times, spoken_told}
use Rattle.spoken.specs.Said.{Exactly, Told, WaitTold}
use Rattle.spoken.specs.Answers.Answer.{Done, Counts}
use Rattle.spoken.specs.declared.lists.Change.{Change}
use Rattle.spoken.specs.Applying.{change_in}
use Rattle.spoken.specs.Changes.{changed, changes_in, changes_of, comparable, compared_of, list_of, no_changes, spoken_to, wait_change}
use Rattle.spoken.specs.Laws.Rising.{Rising, rising_lt, rising_next, slot_in}
use Rattle.spoken.specs.Laws.Waits.{opened_closed, same_closed, same_opened}

-- four cases, of the wait before and now
pub wait_told : (old new : Bool) → WaitTold old new (wait_change old new)
wait_told true true =
    record {
      same = λ e. refl;
      same_back = λ e. refl;
      opened = λ e f. absurd (true≢false e);
      opened_back = λ e. absurd (same_opened e);
      closed = λ e f. absurd (true≢false f);
      closed_back = λ e. absurd (same_closed e);
    }
wait_told false false =
    record {
      same = λ e. refl;
      same_back = λ e. refl;
      opened = λ e f. absurd (false≢true f);
      opened_back = λ e. absurd (same_opened e);
      closed = λ e f. absurd (false≢true e);
      closed_back = λ e. absurd (same_closed e);
    }
wait_told false true =
    record {
      same = λ e. absurd (false≢true e);
      same_back = λ e. absurd (same_opened (sym e));
      opened = λ e f. refl;
      opened_back = λ e. (refl, refl);
      closed = λ e f. absurd (false≢true e);
      closed_back = λ e. absurd (opened_closed e);
    }
wait_told true false =
    record {
      same = λ e. absurd (true≢false e);
      same_back = λ e. absurd (same_closed (sym e));
      opened = λ e f. absurd (true≢false e);
      opened_back = λ e. absurd (opened_closed (sym e));
      closed = λ e f. refl;
      closed_back = λ e. (refl, refl);
    }

pub comparable_said : (old new : Board) → comparable old new ≡ true → (old.count ≡ new.count) × (old.count ≤ 64)
comparable_said old new e = (
  eqb-true old.count new.count (and_left (eqb old.count new.count) (leb old.count 64) e),
  leb-true old.count 64 (and_right (eqb old.count new.count) (leb old.count 64) e),
)

-- the list as it stands in the struct
module _ (old new : List Row) (n : ℕ) where
  abbrev in_list : List Change
  in_list = list_of (spoken_to old new n)

  pub listed_told : (k : ℕ) → k < length (spoken_to old new n) → Told old new n (change_in in_list k)
  listed_told k h = rw (list_at_lem (spoken_to old new n) k h) (spoken_told old new n k h)

  pub listed_rising : Rising in_list (length (spoken_to old new n))
  listed_rising = rising_next in_list (length (spoken_to old new n)) next
    where
      next : (k : ℕ) → suc k < length (spoken_to old new n) → slot_in in_list k < slot_in in_list (suc k)
      next k h =
          let one : slot_in in_list k ≡ slot_in (spoken_to old new n) k = ap (λ (c : Change). c.slot) (list_at_lem (spoken_to old new n) k (omega arith)) in
          let two : slot_in in_list (suc k) ≡ slot_in (spoken_to old new n) (suc k) = ap (λ (c : Change). c.slot) (list_at_lem (spoken_to old new n) (suc k) h) in
          let w = spoken_ordered old new n k h in
          omega arith

  pub listed_times : (i : ℕ) → i < n → count (length (spoken_to old new n)) (λ k. eqb (slot_in in_list k) i) ≡ cond (changed old new i) 1 0
  listed_times i h =
      count_ext (length (spoken_to old new n)) (λ k. eqb (slot_in in_list k) i) (λ k. eqb (slot_in (spoken_to old new n) k) i) (λ k b. ap (λ (c : Change). eqb c.slot i) (list_at_lem (spoken_to old new n) k b))
      ∙ spoken_times old new i n
      ∙ rw (lt-ltb i n h)

-- for all boards of one count
pub exactly : (old new : Board) → comparable old new ≡ true → ((compared_of old new).answer ≡ Done) × Exactly old new (compared_of old new).changes
unfolding compared_of changes_of changes_in
exactly old new e =
    rw e (
      refl,
      record {
        once = λ i h. listed_times old.rows new.rows old.count i h;
        told = λ k h. listed_told old.rows new.rows old.count k h;
        rising = λ i j h b. rising_lt (list_of (spoken_to old.rows new.rows old.count)) (length (spoken_to old.rows new.rows old.count)) (listed_rising old.rows new.rows old.count) i j h b;
        wait = wait_told old.wait new.wait;
      },
    )

-- 'different counts is 4', with no changes
pub refused : (old new : Board) → comparable old new ≡ false → compared_of old new ≡ record { changes = no_changes; answer = Counts }
unfolding compared_of
refused old new e = rw e
