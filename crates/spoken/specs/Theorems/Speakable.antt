-- The changes that can be spoken are those that fit some board and whose words a board shows.
use Rattle.std.specs.Prelude.{◌≡◌, Bool, not, ◌&&◌, List, ℕ, ◌≤◌, ◌<◌, ltb, length, replicate}
use Rattle.std.proofs.Math.Path.{refl}
use Rattle.std.proofs.Common.{sym, ◌∙◌, ap, arith, le-leb, leb-true, lt-ltb, ltb-true}
use Rattle.std.proofs.Math.Bool.{true, false, cond}
use Rattle.std.proofs.lemmas.Bool.{false≢true, not-true}
use Rattle.std.proofs.Math.Dec.{leb}
use Rattle.std.proofs.lemmas.List.{length-replicate}
use Rattle.ground.specs.Table.{tabulate, get_or_tabulate}
use Rattle.ground.specs.Truth.{and_left, and_right, clash, fails}
use Rattle.ground.specs.Counting.Laws.Tests.{every_all, every_at}
use Rattle.sender.specs.declared.board.Board.{Board}
use Rattle.sender.specs.declared.board.Row.{Row}
use Rattle.sender.specs.Ranks.{row_at}
use Rattle.spoken.specs.Fitting.{spoken}
use Rattle.spoken.specs.Said.{Speaks}
use Rattle.spoken.specs.declared.lists.Change.{Change}
use Rattle.spoken.specs.declared.lists.Changes.{Changes}
use Rattle.spoken.specs.declared.lists.WaitChange.{WaitChange}
use Rattle.spoken.specs.declared.lists.WaitChange.TheVariants.{Same, Opened, Closed}
use Rattle.spoken.specs.Applying.{change_in, laid_to, rises_at}
use Rattle.spoken.specs.Changes.{same_row}
use Rattle.spoken.specs.Laws.Laying.{laid_at}
use Rattle.spoken.specs.Laws.Rising.{Rising, rising_by, rising_lt, slot_in}
use Rattle.spoken.specs.Laws.Rows.{row_same, same_row_lem}
use Rattle.spoken.specs.Laws.Waits.{opened_closed, same_closed}
use Rattle.spoken.specs.Speaking.{can_speak, changes_speak, is_shown, speaks_by}

-- what one change says that can be spoken
record SpeaksOne (c : Change) (rises : Bool) : Type 0 where
  below : c.slot < 64
  rising : rises ≡ true
  differs : same_row c.old c.new ≡ false
  old : is_shown c.old.word ≡ true
  new : is_shown c.new.word ≡ true

one_said : (c : Change) (rises : Bool) → speaks_by c rises ≡ true → SpeaksOne c rises
one_said c rises e =
    let s = same_row c.old c.new in
    let a = and_left (ltb c.slot 64 && rises && not s && is_shown c.old.word) (is_shown c.new.word) e in
    let b = and_left (ltb c.slot 64 && rises && not s) (is_shown c.old.word) a in
    let d = and_left (ltb c.slot 64 && rises) (not s) b in
    record {
      below = ltb-true c.slot 64 (and_left (ltb c.slot 64) rises d);
      rising = and_right (ltb c.slot 64) rises d;
      differs = not-true s (and_right (ltb c.slot 64 && rises) (not s) b);
      old = and_right (ltb c.slot 64 && rises && not s) (is_shown c.old.word) a;
      new = and_right (ltb c.slot 64 && rises && not s && is_shown c.old.word) (is_shown c.new.word) e;
    }

-- the way back: old and new exchanged
abbrev turned : Change → Change
turned c = record { slot = c.slot; old = c.new; new = c.old }

-- the wait before it changed
abbrev wait_before : WaitChange → Bool
wait_before Same = false
wait_before Opened = false
wait_before Closed = true

waits : (w : WaitChange) → (w ≡ Opened → wait_before w ≡ false) × (w ≡ Closed → wait_before w ≡ true)
waits Same = (λ e. refl, λ e. absurd (same_closed e))
waits Opened = (λ e. refl, λ e. absurd (opened_closed e))
waits Closed = (λ e. absurd (opened_closed (sym e)), λ e. refl)

module _ (cs : Changes) where
  parts : can_speak cs ≡ true → (cs.count ≤ 64) × (changes_speak cs.list cs.count ≡ true)
  unfolding can_speak
  parts e = go (leb cs.count 64) refl e
    where
      go : (b : Bool) → leb cs.count 64 ≡ b → cond b (changes_speak cs.list cs.count) false ≡ true → (cs.count ≤ 64) × (changes_speak cs.list cs.count ≡ true)
      go true l f = (leb-true cs.count 64 l, f)
      go false l f = absurd (false≢true f)

  each : changes_speak cs.list cs.count ≡ true → (k : ℕ) → k < cs.count → SpeaksOne (spoken cs k) (rises_at cs.list k)
  unfolding changes_speak
  each e k h = one_said (spoken cs k) (rises_at cs.list k) (every_at cs.count (λ j. speaks_by (spoken cs j) (rises_at cs.list j)) e k h)

  -- a board of 64 slots that shows what each of them was
  abbrev back : List Change
  back = tabulate 64 (λ k. turned (spoken cs k))

  abbrev blank : List Row
  blank = replicate 64 (record { word = record { 0 = 0 }; number = 0 })

  abbrev before : Board
  before = record { rows = laid_to blank back cs.count; count = 64; wait = wait_before cs.wait }

  back_at : (k : ℕ) → k < 64 → change_in back k ≡ turned (spoken cs k)
  back_at k h = get_or_tabulate 64 (λ j. turned (spoken cs j)) k _ h

  module _ (e : can_speak cs ≡ true) where
    few : cs.count ≤ 64
    few = (parts e).0

    one : (k : ℕ) → k < cs.count → SpeaksOne (spoken cs k) (rises_at cs.list k)
    one k h = each (parts e).1 k h

    slot_back : (k : ℕ) → k < cs.count → slot_in back k ≡ slot_in cs.list k
    slot_back k h = let n = few in ap (λ (c : Change). c.slot) (back_at k (omega arith))

    rises : (i j : ℕ) → i < j → j < cs.count → slot_in cs.list i < slot_in cs.list j
    rises i j h b = rising_lt cs.list cs.count (λ k g. (one k g).rising) i j h b

    rises_back : Rising back cs.count
    rises_back =
        rising_by back cs.count
        (λ i j h b. let p = slot_back i (omega arith) in let q = slot_back j b in let w = rises i j h b in omega arith)

    inside : (k : ℕ) → k < cs.count → slot_in back k < length blank
    inside k h = let p = slot_back k h in let w = (one k h).below in let l = length-replicate {A = Row} 64 (record { word = record { 0 = 0 }; number = 0 }) in omega arith

    shows_old : (k : ℕ) → k < cs.count → (spoken cs k).old ≡ row_at before.rows (spoken cs k).slot
    shows_old k h =
        let n = few in
        sym (ap (λ (i : ℕ). row_at before.rows i) (sym (slot_back k h)) ∙ laid_at blank back cs.count rises_back inside k h ∙ ap (λ (c : Change). c.new) (back_at k (omega arith)))

    pub speakable : Speaks cs
    speakable =
        record {
          board = before;
          fits =
              record {
                slots = omega arith;
                many = few;
                below = λ k h. (one k h).below;
                rising = rises;
                old = shows_old;
                new = λ k h s. clash (same_row (spoken cs k).old (spoken cs k).new) (row_same (spoken cs k).old (spoken cs k).new s) (one k h).differs;
                opened = (waits cs.wait).0;
                closed = (waits cs.wait).1;
              };
          old = λ k h. (one k h).old;
          new = λ k h. (one k h).new;
        }

  pub speakable_back : Speaks cs → can_speak cs ≡ true
  unfolding can_speak changes_speak
  speakable_back s =
      let f = s.fits in
      rw (le-leb cs.count 64 f.many)
      (every_all cs.count (λ k. speaks_by (spoken cs k) (rises_at cs.list k))
      (λ k h.
      let b = f.below k h in
      let n = f.slots in
      let d : same_row (spoken cs k).old (spoken cs k).new ≡ false = fails (same_row (spoken cs k).old (spoken cs k).new) (λ t. f.new k h (same_row_lem (spoken cs k).old (spoken cs k).new t)) in
      rw (lt-ltb (spoken cs k).slot 64 (omega arith), rising_by cs.list cs.count f.rising k h, d, s.old k h, s.new k h) refl))
