-- No other list of changes fits the old board and gives the new one; and applying refuses what does not fit, and nothing else.
-- The idea: a change that fits has the old row as its old side and another row as its new one, so a slot is in such a list exactly where the two boards differ. A list in which the slots rise is given by which slots are in it: going through the first n slots, it is the one that is spoken.
use Rattle.std.specs.Prelude.{◌≡◌, ◌≢◌, Bool, not, ◌&&◌, List, ℕ, zero, suc, ◌≤◌, ◌<◌, eqb, leb, ltb, take}
use Rattle.std.proofs.Math.Path.{refl, sym, ap}
use Rattle.std.proofs.Common.{◌∙◌, ⊎_elim, arith, length-take-le, take-suc}
use Rattle.std.proofs.Math.Bool.{true, false, cond}
use Rattle.std.proofs.lemmas.Bool.{false≢true}
use Rattle.std.proofs.Math.ListN.{length}
use borrow.Author.Tests.{eq-eqb, eqb-true, le-leb, leb-true, lt-ltb, ltb-true, not-true}
use Rattle.ground.specs.Truth.{and_left, and_right, clash, eq_or_ne, fails, or_cases}
use Rattle.ground.specs.Counting.Laws.Tests.{every_all, every_at, none_at, some_one}
use Rattle.ground.specs.Counting.Words.{some}
use Rattle.sender.specs.declared.board.Board.{Board}
use Rattle.sender.specs.declared.board.Row.{Row}
use Rattle.sender.specs.Ranks.{row_at}
use Rattle.spoken.specs.Laws.Spoken.{spoken_changed, spoken_same, take_list}
use Rattle.spoken.specs.Said.{Agrees, SameChanges, Told}
use Rattle.spoken.specs.Answers.{Applied}
use Rattle.spoken.specs.Answers.Answer.{Done, Unfit}
use Rattle.spoken.specs.declared.lists.Change.{Change}
use Rattle.spoken.specs.declared.lists.Changes.{Changes}
use Rattle.spoken.specs.Applying.{applied_of, change_in, changes_fit, fits, fits_by, rises_at, wait_fits, with_changes}
use Rattle.spoken.specs.Changes.{answer_number, change_at, changed, changes_in, changes_of, comparable, compared_of, no_change, same_row, spoken_to, wait_change}
use Rattle.spoken.specs.Fitting.{Fits, spoken}
use Rattle.spoken.specs.Laws.Laying.{laid_at, laid_other}
use Rattle.spoken.specs.Laws.Rising.{Rising, rising_by, rising_lt, slot_in}
use Rattle.spoken.specs.Laws.Rows.{row_same, same_row_lem}
use Rattle.spoken.specs.Laws.Waits.{wait_fits_lem, wait_only, wait_said}

-- What one change says that fits.
pub record FitsOne (c : Change) (row : Row) (count : ℕ) (rises : Bool) : Type 0 where
  pub below : c.slot < count
  pub rising : rises ≡ true
  pub old : c.old ≡ row
  pub new : c.old ≡ c.new → ⊥

one_said : (c : Change) (row : Row) (count : ℕ) (rises : Bool) → fits_by c row count rises ≡ true → FitsOne c row count rises
one_said c row count rises e =
    let abc = and_left (ltb c.slot count && rises && same_row c.old row) (not (same_row c.old c.new)) e in
    let ab = and_left (ltb c.slot count && rises) (same_row c.old row) abc in
    let d = not-true (same_row c.old c.new) (and_right (ltb c.slot count && rises && same_row c.old row) (not (same_row c.old c.new)) e) in
    record {
      below = ltb-true c.slot count (and_left (ltb c.slot count) rises ab);
      rising = and_right (ltb c.slot count) rises ab;
      old = same_row_lem c.old row (and_right (ltb c.slot count && rises) (same_row c.old row) abc);
      new = λ (s : c.old ≡ c.new). clash (same_row c.old c.new) (row_same c.old c.new s) d;
    }

one_fits : (c : Change) (row : Row) (count : ℕ) (rises : Bool) → FitsOne c row count rises → fits_by c row count rises ≡ true
one_fits c row count rises o =
    let d : same_row c.old c.new ≡ false = fails (same_row c.old c.new) (λ (s : same_row c.old c.new ≡ true). o.new (same_row_lem c.old c.new s)) in
    rw (lt-ltb c.slot count o.below, o.rising, row_same c.old row o.old, d)

-- Applying answers 0 if and only if the changes fit.
module _ (b : Board) (cs : Changes) where
  abbrev sized : Bool
  sized = leb b.count 64 && leb cs.count 64 && wait_fits b.wait cs.wait

  fits_parts : fits b cs ≡ true → (sized ≡ true) × (changes_fit b.rows b.count cs.list cs.count ≡ true)
  unfolding fits
  fits_parts e = go sized e
    where
      go : (s : Bool) → cond s (changes_fit b.rows b.count cs.list cs.count) false ≡ true → (s ≡ true) × (changes_fit b.rows b.count cs.list cs.count ≡ true)
      go true f = (refl, f)
      go false f = absurd (false≢true f)

  fit_each : changes_fit b.rows b.count cs.list cs.count ≡ true → (k : ℕ) → k < cs.count
      → FitsOne (spoken cs k) (row_at b.rows (spoken cs k).slot) b.count (rises_at cs.list k)
  unfolding changes_fit
  fit_each e k h =
      one_said (spoken cs k) (row_at b.rows (spoken cs k).slot) b.count (rises_at cs.list k)
      (every_at cs.count (λ j. fits_by (spoken cs j) (row_at b.rows (spoken cs j).slot) b.count (rises_at cs.list j)) e k h)

  pub fits_said : fits b cs ≡ true → Fits b cs
  fits_said e =
      let p = fits_parts e in
      let two = and_left (leb b.count 64 && leb cs.count 64) (wait_fits b.wait cs.wait) p.0 in
      let w = wait_said b.wait cs.wait (and_right (leb b.count 64 && leb cs.count 64) (wait_fits b.wait cs.wait) p.0) in
      let each = fit_each p.1 in
      record {
        slots = leb-true b.count 64 (and_left (leb b.count 64) (leb cs.count 64) two);
        many = leb-true cs.count 64 (and_right (leb b.count 64) (leb cs.count 64) two);
        below = λ k h. (each k h).below;
        rising = λ i j h l. rising_lt cs.list cs.count (λ k g. (each k g).rising) i j h l;
        old = λ k h. (each k h).old;
        new = λ k h. (each k h).new;
        opened = w.0;
        closed = w.1;
      }

  rises_by : Fits b cs → Rising cs.list cs.count
  rises_by f = rising_by cs.list cs.count f.rising

  pub fits_true : Fits b cs → fits b cs ≡ true
  unfolding fits changes_fit
  fits_true f =
      rw (le-leb b.count 64 f.slots, le-leb cs.count 64 f.many, wait_fits_lem b.wait cs.wait f.opened f.closed)
      (every_all cs.count (λ k. fits_by (spoken cs k) (row_at b.rows (spoken cs k).slot) b.count (rises_at cs.list k))
      (λ k h. one_fits (spoken cs k) (row_at b.rows (spoken cs k).slot) b.count (rises_at cs.list k)
      (record { below = f.below k h; rising = rises_by f k h; old = f.old k h; new = f.new k h })))

  pub fits_done : Fits b cs → applied_of b cs ≡ record { board = with_changes b cs; answer = Done }
  unfolding applied_of
  fits_done f = rw (fits_true f)

  -- else 2, with the board as given
  pub unfit : (Fits b cs → ⊥) → applied_of b cs ≡ record { board = b; answer = Unfit }
  unfolding applied_of
  unfit d = rw (fails (fits b cs) (λ e. d (fits_said e)))

  pub done_fits : answer_number (applied_of b cs).answer ≡ 0 → Fits b cs
  unfolding applied_of
  done_fits e = go (fits b cs) refl e
    where
      go : (t : Bool) → fits b cs ≡ t → answer_number (cond {A = Applied} t (record { board = with_changes b cs; answer = Done }) (record { board = b; answer = Unfit })).answer ≡ 0 → Fits b cs
      go true f a = fits_said f
      go false f a = absurd (omega arith)

-- A rising list of the slots that have changed, all of them and no others, is the one that is spoken.
module _ (old new : List Row) (list : List Change) where
  abbrev Found : ℕ → ℕ → Type 0
  Found n m = (i : ℕ) → i < n → changed old new i ≡ true → some m (λ k. eqb (slot_in list k) i) ≡ true

  told_less : (n : ℕ) (c : Change) → Told old new (suc n) c → c.slot ≢ n → Told old new n c
  told_less n c t d = record { below = (let b = t.below in omega arith); is = t.is; differs = t.differs }

  fewer : (i m : ℕ) → slot_in list m ≢ i → some (suc m) (λ k. eqb (slot_in list k) i) ≡ true → some m (λ k. eqb (slot_in list k) i) ≡ true
  fewer i m d e =
      ⊎_elim (λ (g : some m (λ k. eqb (slot_in list k) i) ≡ true). g) (λ (g : eqb (slot_in list m) i ≡ true). absurd (d (eqb-true (slot_in list m) i g)))
      (or_cases (some m (λ k. eqb (slot_in list k) i)) (eqb (slot_in list m) i) e)

  -- of the first n slots
  abbrev Lists : ℕ → Type 0
  Lists n = (m : ℕ) → m ≤ length list → Rising list m → ((k : ℕ) → k < m → Told old new n (change_in list k)) → Found n m → take m list ≡ spoken_to old new n

  lists_same : (n : ℕ) → changed old new n ≡ false → Lists n → Lists (suc n)
  lists_same n e rest m l r t f =
      rest m l r
      (λ k h. told_less n (change_in list k) (t k h) (λ (s : slot_in list k ≡ n). clash (changed old new n) (rw s at (t k h).differs) e))
      (λ i h d. f i (omega arith) d)
      ∙ sym (spoken_same old new n e)

  lists_changed : (n : ℕ) → changed old new n ≡ true → Lists n → Lists (suc n)
  lists_changed n e rest zero l r t f = absurd (let o = some_one 0 (λ k. eqb (slot_in list k) n) (f n (omega arith) e) in let b = o.below in omega arith)
  lists_changed n e rest (suc m) l r t f =
      let o = some_one (suc m) (λ k. eqb (slot_in list k) n) (f n (omega arith) e) in
      let s : slot_in list o.at ≡ n = eqb-true (slot_in list o.at) n o.holds in
      let b : o.at < suc m = o.below in
      let top : slot_in list m < suc n = (t m (omega arith)).below in
      let at_end_lem : o.at ≡ m =
      ⊎_elim (λ (g : o.at ≡ m). g)
      (λ (g : o.at ≢ m). absurd (let w = rising_lt list (suc m) r o.at m (omega arith) (omega arith) in omega arith)) (eq_or_ne o.at m) in
      let own : slot_in list m ≡ n = rw at_end_lem at s in
      let is : change_in list m ≡ change_at old new n = (t m (omega arith)).is ∙ ap (λ (i : ℕ). change_at old new i) own in
      let lower : (k : ℕ) → k < m → slot_in list k ≢ n = (λ k h q. let w = rising_lt list (suc m) r k m h (omega arith) in omega arith) in
      let before : take m list ≡ spoken_to old new n =
      rest m (omega arith) (λ k h. r k (omega arith)) (λ k h. told_less n (change_in list k) (t k (omega arith)) (lower k h))
      (λ i h d. fewer i m (λ (q : slot_in list m ≡ i). omega arith) (f i (omega arith) d)) in
      take-suc list m no_change (omega arith) ∙ rw (before, is) (sym (spoken_changed old new n e))

  one_list : (n : ℕ) → Lists n
  one_list zero zero l r t f = refl
  one_list zero (suc m) l r t f = absurd (let b = (t m (omega arith)).below in omega arith)
  one_list (suc n) m l r t f = go (changed old new n) refl (one_list n)
    where
      go : (b : Bool) → changed old new n ≡ b → Lists n → take m list ≡ spoken_to old new (suc n)
      go true e rest = lists_changed n e rest m l r t f
      go false e rest = lists_same n e rest m l r t f

module _ (old new : Board) (cs : Changes) (f : Fits old cs) (a : Agrees (with_changes old cs) new) (whole : length old.rows ≡ 64) where
  abbrev n : ℕ
  n = old.count

  rises : Rising cs.list cs.count
  rises k h = rises_by old cs f k h

  inside : (k : ℕ) → k < cs.count → slot_in cs.list k < length old.rows
  inside k h = let b = f.below k h in let s = f.slots in omega arith

  gives_new : (k : ℕ) → k < cs.count → (spoken cs k).new ≡ row_at new.rows (spoken cs k).slot
  unfolding with_changes
  gives_new k h =
      sym (laid_at old.rows cs.list cs.count rises inside k h)
      ∙ a.rows (spoken cs k).slot (let b = f.below k h in let c = a.count in omega arith)

  told_each : (k : ℕ) → k < cs.count → Told old.rows new.rows n (spoken cs k)
  told_each k h =
      let o = f.old k h in
      let w = gives_new k h in
      record {
        below = f.below k h;
        is = λ i. record { slot = (spoken cs k).slot; old = o i; new = w i };
        differs = ap not (fails (same_row (row_at old.rows (spoken cs k).slot) (row_at new.rows (spoken cs k).slot))
            (λ s. f.new k h (o ∙ same_row_lem (row_at old.rows (spoken cs k).slot) (row_at new.rows (spoken cs k).slot) s ∙ sym w)));
      }

  kept_row : (i : ℕ) → i < n → ((k : ℕ) → k < cs.count → slot_in cs.list k ≢ i) → row_at old.rows i ≡ row_at new.rows i
  unfolding with_changes
  kept_row i h free = sym (laid_other old.rows cs.list cs.count i free) ∙ a.rows i (let c = a.count in omega arith)

  found_each : (i : ℕ) → i < n → changed old.rows new.rows i ≡ true → some cs.count (λ k. eqb (slot_in cs.list k) i) ≡ true
  found_each i h d = go (some cs.count (λ k. eqb (slot_in cs.list k) i)) refl
    where
      go : (b : Bool) → some cs.count (λ k. eqb (slot_in cs.list k) i) ≡ b → b ≡ true
      go true e = refl
      go false e =
          let free : (k : ℕ) → k < cs.count → slot_in cs.list k ≢ i =
          (λ k b s. clash (eqb (slot_in cs.list k) i) (eq-eqb (slot_in cs.list k) i s) (none_at cs.count (λ j. eqb (slot_in cs.list j) i) e k b)) in
          clash (same_row (row_at old.rows i) (row_at new.rows i)) (row_same (row_at old.rows i) (row_at new.rows i) (kept_row i h free))
          (not-true (same_row (row_at old.rows i) (row_at new.rows i)) d)

  fitting_list : length cs.list ≡ 64 → take cs.count cs.list ≡ spoken_to old.rows new.rows n
  fitting_list l = one_list old.rows new.rows cs.list n cs.count (let m = f.many in omega arith) rises told_each found_each

  fitting_wait : cs.wait ≡ wait_change old.wait new.wait
  unfolding with_changes
  fitting_wait = wait_only old.wait new.wait cs.wait (wait_fits_lem old.wait cs.wait f.opened f.closed) a.wait

  fitting : length cs.list ≡ 64 → SameChanges cs (changes_of old new)
  unfolding changes_of changes_in
  fitting l =
      let e = fitting_list l in
      let m = f.many in
      let c : cs.count ≡ length (spoken_to old.rows new.rows n) = sym (length-take-le cs.count cs.list (omega arith)) ∙ ap length e in
      record { count = c; list = e ∙ sym (take_list (spoken_to old.rows new.rows n)); wait = fitting_wait }

-- Whatever fits the old board and gives the new one is the list of `changes_between`.
pub only : (old new : Board) (cs : Changes) → comparable old new ≡ true → length old.rows ≡ 64 → length cs.list ≡ 64
    → answer_number (applied_of old cs).answer ≡ 0 → Agrees (applied_of old cs).board new → SameChanges cs (compared_of old new).changes
unfolding compared_of
only old new cs e whole long done gives =
    let f = done_fits old cs done in
    rw e (fitting old new cs f (rw (fits_done old cs f) at gives) whole long)
