-- 'Applying the changes to the old board gives the new one.'
use Rattle.std.specs.Prelude.{◌≡◌, refl, ◌≢◌, Bool, true, false, cond, List, ℕ, ◌≤◌, ◌<◌, eqb, length, replicate}
use Rattle.std.proofs.Math.Path.{sym, ap}
use Rattle.std.proofs.Common.{◌∙◌, ⊎_elim, arith, ext_get_or}
use Rattle.std.proofs.lemmas.List.{length-replicate}
use borrow.Author.Tests.{eq-eqb, eqb-true, le-leb, lt-ltb, not-false}
use Rattle.ground.specs.Truth.{and-true, clash, le_or_lt}
use Rattle.ground.specs.Counting.Each.{get_or_rest, length_each}
use Rattle.ground.specs.Counting.Laws.Numbers.{count_none}
use Rattle.ground.specs.Counting.Laws.Tests.{every_all, none_at, some_one}
use Rattle.ground.specs.Counting.Words.{count, some}
use Rattle.sender.specs.Board.{board_of, no_row, row_of, rows_of}
use Rattle.sender.specs.declared.board.Board.{Board}
use Rattle.sender.specs.declared.board.Row.{Row}
use Rattle.sender.specs.declared.table.Table.{Table}
use Rattle.sender.specs.Laws.Sizes.{size_le}
use Rattle.sender.specs.Ranks.{row_at}
use Rattle.sender.specs.Table.{slot_count}
use Rattle.spoken.specs.Laws.Spoken.{length_list, spoken_le}
use Rattle.spoken.specs.Said.{Agrees, Told}
use Rattle.spoken.specs.Answers.{Compared}
use Rattle.spoken.specs.Answers.Answer.{Done, Counts}
use Rattle.spoken.specs.declared.lists.Change.{Change}
use Rattle.spoken.specs.Applying.{applied_of, change_in, changes_fit, fits, fits_by, laid_to, with_changes}
use Rattle.spoken.specs.Changes.{changed, changes_in, changes_of, comparable, compared_of, list_of, no_change, no_changes, same_row, spoken_to}
use Rattle.spoken.specs.Laws.Laying.{laid_at, laid_other, length_laid}
use Rattle.spoken.specs.Laws.Rising.{slot_in}
use Rattle.spoken.specs.Laws.Rows.{row_same, same_row_lem}
use Rattle.spoken.specs.Laws.Waits.{wait_right}
use Rattle.spoken.specs.Theorems.Exactly.{comparable_said, listed_rising, listed_times, listed_told}

module _ (old new : List Row) (n : ℕ) where
  abbrev l : List Change
  l = list_of (spoken_to old new n)

  abbrev m : ℕ
  m = length (spoken_to old new n)

  told_fits : (c : Change) → Told old new n c → fits_by c (row_at old c.slot) n true ≡ true
  told_fits c t =
      let o : c.old ≡ row_at old c.slot = ap (λ (d : Change). d.old) t.is in
      let w : c.new ≡ row_at new c.slot = ap (λ (d : Change). d.new) t.is in
      rw (lt-ltb c.slot n t.below, row_same c.old (row_at old c.slot) o, o, w) t.differs

  pub listed_fit : changes_fit old n l m ≡ true
  unfolding changes_fit
  listed_fit = every_all m _ (λ k h. rw (listed_rising old new n k h) (told_fits (change_in l k) (listed_told old new n k h)))

  -- each slot below n shows what the new one does, each other what the old one did
  module _ (room : n ≤ length old) where
    pub laid_new : (i : ℕ) → i < n → row_at (laid_to old l m) i ≡ row_at new i
    laid_new i h = go (some m (λ k. eqb (slot_in l k) i)) refl
      where
        below : (k : ℕ) → k < m → slot_in l k < length old
        below k b = let w = (listed_told old new n k b).below in omega arith

        go : (b : Bool) → some m (λ k. eqb (slot_in l k) i) ≡ b → row_at (laid_to old l m) i ≡ row_at new i
        go true e =
            let o = some_one m (λ k. eqb (slot_in l k) i) e in
            let s : slot_in l o.at ≡ i = eqb-true (slot_in l o.at) i o.holds in
            rw (← s) (laid_at old l m (listed_rising old new n) below o.at o.below ∙ ap (λ (c : Change). c.new) (listed_told old new n o.at o.below).is)
        go false e =
            let free : (k : ℕ) → k < m → slot_in l k ≢ i = (λ k b s. clash (eqb (slot_in l k) i) (eq-eqb (slot_in l k) i s) (none_at m (λ j. eqb (slot_in l j) i) e k b)) in
            laid_other old l m i free ∙ same_row_lem (row_at old i) (row_at new i) (still (changed old new i) refl)
          where
            still : (b : Bool) → changed old new i ≡ b → same_row (row_at old i) (row_at new i) ≡ true
            still false d = not-false (same_row (row_at old i) (row_at new i)) d
            still true d =
                let none : count m (λ k. eqb (slot_in l k) i) ≡ 0 = count_none m (λ k. eqb (slot_in l k) i) (λ k b. none_at m (λ j. eqb (slot_in l j) i) e k b) in
                let one : count m (λ k. eqb (slot_in l k) i) ≡ 1 = listed_times old new n i h ∙ rw d in
                absurd (omega arith)

    pub laid_past : (i : ℕ) → n ≤ i → row_at (laid_to old l m) i ≡ row_at old i
    laid_past i h = laid_other old l m i (λ k b s. let w = (listed_told old new n k b).below in omega arith)

module _ (old new : Board) (e : comparable old new ≡ true) where
  changes_fit_lem : fits old (changes_of old new) ≡ true
  unfolding fits changes_of changes_in
  changes_fit_lem =
      let s = comparable_said old new e in
      let h = spoken_le old.rows new.rows old.count in
      let c = s.1 in
      rw (le-leb old.count 64 c, le-leb (length (spoken_to old.rows new.rows old.count)) 64 (omega arith), (wait_right old.wait new.wait).0)
      (listed_fit old.rows new.rows old.count)

  pub applied_is : applied_of old (compared_of old new).changes ≡ record { board = with_changes old (changes_of old new); answer = Done }
  unfolding applied_of compared_of
  applied_is = rw (e, changes_fit_lem)

  module _ (whole : length old.rows ≡ 64) where
    room : old.count ≤ length old.rows
    room = let c = (comparable_said old new e).1 in omega arith

    agrees : Agrees (with_changes old (changes_of old new)) new
    unfolding with_changes changes_of changes_in
    agrees =
        let s = (comparable_said old new e).0 in
        record {
          count = s;
          wait = (wait_right old.wait new.wait).1;
          rows = λ i h. laid_new old.rows new.rows old.count room i (omega arith);
        }

    pub applied : ((applied_of old (compared_of old new).changes).answer ≡ Done) × Agrees (applied_of old (compared_of old new).changes).board new
    applied = rw applied_is (refl, agrees)

    -- rows past the count are not changed
    pub applied_past : (i : ℕ) → old.count ≤ i → row_at (applied_of old (compared_of old new).changes).board.rows i ≡ row_at old.rows i
    unfolding with_changes changes_of changes_in
    applied_past i h = rw applied_is (laid_past old.rows new.rows old.count room i h)

-- the list of changes always has its 64 places
pub compared_whole : (old new : Board) → length (compared_of old new).changes.list ≡ 64
unfolding compared_of changes_of changes_in no_changes
compared_whole old new = go (comparable old new) refl
  where
    go : (b : Bool) → comparable old new ≡ b
        → length (cond {A = Compared} b (record { changes = changes_of old new; answer = Done }) (record { changes = no_changes; answer = Counts })).changes.list ≡ 64
    go true e =
        let l = spoken_le old.rows new.rows old.count in
        let c = (comparable_said old new e).1 in
        length_list (spoken_to old.rows new.rows old.count) (omega arith)
    go false e = length-replicate 64 no_change

-- it is the new board outright where both show tables of one kind: past the count both have the idle row
count_is : (t : Table) → (board_of t).count ≡ slot_count t.count
unfolding board_of
count_is t = refl

pub board_whole : (t : Table) → length (board_of t).rows ≡ 64
unfolding board_of rows_of
board_whole t =
    length_each (slot_count t.count) (λ i. row_of t.slots (slot_count t.count) i) (replicate 64 (no_row t.kind)) ∙ length-replicate 64 (no_row t.kind)

module _ (t u : Table) (k : t.kind ≡ u.kind) (c : t.count ≡ u.count) where
  one_count : comparable (board_of t) (board_of u) ≡ true
  unfolding board_of
  one_count =
      and-true (eqb (slot_count t.count) (slot_count u.count)) _ (eq-eqb (slot_count t.count) (slot_count u.count) (ap slot_count c))
      (le-leb (slot_count t.count) 64 (size_le t.count))

  pub compared_done : (compared_of (board_of t) (board_of u)).answer ≡ Done
  unfolding compared_of
  compared_done = rw one_count

  past : (i : ℕ) → slot_count t.count ≤ i → row_at (board_of t).rows i ≡ row_at (board_of u).rows i
  unfolding board_of rows_of
  past i h =
      get_or_rest (slot_count t.count) (λ j. row_of t.slots (slot_count t.count) j) (replicate 64 (no_row t.kind)) i _ h
      ∙ ap (λ (q : ℕ). row_at (replicate 64 (no_row q)) i) k
      ∙ sym (get_or_rest (slot_count u.count) (λ j. row_of u.slots (slot_count u.count) j) (replicate 64 (no_row u.kind)) i _ (rw c at h))

  abbrev after : Board
  after = with_changes (board_of t) (changes_of (board_of t) (board_of u))

  laid_long : length after.rows ≡ length (board_of u).rows
  unfolding with_changes changes_of changes_in
  laid_long =
      length_laid (board_of t).rows (list_of (spoken_to (board_of t).rows (board_of u).rows (board_of t).count)) (length (spoken_to (board_of t).rows (board_of u).rows (board_of t).count))
      ∙ board_whole t
      ∙ sym (board_whole u)

  outside : (i : ℕ) → (board_of u).count ≤ i → row_at after.rows i ≡ row_at (board_of u).rows i
  unfolding with_changes changes_of changes_in
  outside i g =
      let s = (comparable_said (board_of t) (board_of u) one_count).0 in
      laid_past (board_of t).rows (board_of u).rows (board_of t).count (room (board_of t) (board_of u) one_count (board_whole t)) i (omega arith)
      ∙ past i (let d = count_is t in omega arith)

  pub outright : applied_of (board_of t) (compared_of (board_of t) (board_of u)).changes ≡ record { board = board_of u; answer = Done }
  outright =
      let a = agrees (board_of t) (board_of u) one_count (board_whole t) in
      let r : after.rows ≡ (board_of u).rows =
      ext_get_or (record { word = record { 0 = 0 }; number = 0 }) after.rows (board_of u).rows laid_long
      (λ i b. ⊎_elim (λ (g : (board_of u).count ≤ i). outside i g) (λ (g : i < (board_of u).count). a.rows i g) (le_or_lt (board_of u).count i)) in
      applied_is (board_of t) (board_of u) one_count
      ∙ (λ i. record { board = record { rows = r i; count = a.count i; wait = a.wait i }; answer = Done })
