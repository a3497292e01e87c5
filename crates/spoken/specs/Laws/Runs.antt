-- What a run spreads out to, and when one change more goes on it.
use Rattle.std.specs.Prelude.{◌≡◌, refl, ◌≢◌, Bool, true, ◌&&◌, ℕ, suc, ◌+◌, ◌-◌, ◌≤◌, ◌<◌, eqb}
use Rattle.std.proofs.Math.Path.{sym, ap}
use Rattle.std.proofs.Common.{◌∙◌, ⊎_elim}
use mathlib.Core.List.{List, [], ◌∷◌, ◌++◌, append_assoc}
use native.Mathlib.Omega.{arith}
use Rattle.std.proofs.Math.ListN.{length, length-append, get_or-append}
use Rattle.std.proofs.lemmas.List.{get_or_at}
use borrow.Author.Tests.{eq-eqb, eqb-true, ne_eqb}
use Rattle.ground.specs.Table.{get_or_tabulate, length_tabulate, tabulate, tabulate_ext, tabulate_suc}
use Rattle.ground.specs.Truth.{and_left, and_right, and-true, cond_by, eq_or_ne, or_cases, or_left, or_right}
use Rattle.sender.specs.declared.board.Row.{Row}
use Rattle.spoken.specs.declared.lists.Change.{Change}
use Rattle.spoken.specs.declared.runs.Run.{Run}
use Rattle.spoken.specs.Applying.{change_in}
use Rattle.spoken.specs.Changes.{no_change}
use Rattle.spoken.specs.Runs.{continues, in_run, longer, number_in, numbers_continue, row_continues, row_in, runs_from, single, spread, spread_run}

number_first : (first last : ℕ) → number_in first last 0 ≡ first
number_first first last = cond_by (λ n. n ≡ first) (eqb first last) first (first + 0) (λ e. refl) (λ e. omega arith)

number_alike : (first last i : ℕ) → first ≡ last → number_in first last i ≡ first
number_alike first last i e = rw (eq-eqb first last e)

number_rising : (first last i : ℕ) → first ≢ last → number_in first last i ≡ first + i
number_rising first last i d = rw (ne_eqb first last d)

-- what the test of numbers says: d is how far the last slot is from the first
module _ (first last next from to : ℕ) (h : from ≤ to) where
  number_cases : {P : Type 0} → numbers_continue first last next from to ≡ true → (last ≡ first → next ≡ first → P) → (last ≡ first + (to - from) → next ≡ last + 1 → P) → P
  number_cases e alike rising =
      ⊎_elim
      (λ (a : (eqb last first && eqb next first) ≡ true).
      alike (eqb-true last first (and_left (eqb last first) (eqb next first) a)) (eqb-true next first (and_right (eqb last first) (eqb next first) a)))
      (λ (a : (eqb (last + from) (first + to) && eqb next (last + 1)) ≡ true).
      let s = eqb-true (last + from) (first + to) (and_left (eqb (last + from) (first + to)) (eqb next (last + 1)) a) in
      rising (omega arith) (eqb-true next (last + 1) (and_right (eqb (last + from) (first + to)) (eqb next (last + 1)) a)))
      (or_cases (eqb last first && eqb next first) (eqb (last + from) (first + to) && eqb next (last + 1)) e)

  number_next : numbers_continue first last next from to ≡ true → number_in first next (suc (to - from)) ≡ next
  number_next e =
      number_cases e (λ l n. number_alike first next (suc (to - from)) (sym n) ∙ sym n)
      (λ l n. number_rising first next (suc (to - from)) (λ (q : first ≡ next). omega arith) ∙ (omega arith))

  number_before : numbers_continue first last next from to ≡ true → (i : ℕ) → i ≤ to - from → number_in first next i ≡ number_in first last i
  number_before e i b =
      number_cases e (λ l n. number_alike first next i (sym n) ∙ sym (number_alike first last i (sym l)))
      (λ l n.
      number_rising first next i (λ (q : first ≡ next). omega arith)
      ∙ ⊎_elim (λ (q : first ≡ last). (let z : first + i ≡ first = omega arith in z) ∙ sym (number_alike first last i q))
      (λ (q : first ≢ last). sym (number_rising first last i q))
      (eq_or_ne first last))

  -- and back: numbers that some run has are told to go on
  number_back : (f l : ℕ) → f ≡ first → number_in f l (to - from) ≡ last → number_in f l (suc (to - from)) ≡ next → numbers_continue first last next from to ≡ true
  number_back f l e b a =
      ⊎_elim
      (λ (q : f ≡ l).
      let x = sym b ∙ number_alike f l (to - from) q ∙ e in
      let y = sym a ∙ number_alike f l (suc (to - from)) q ∙ e in
      or_left _ _ (and-true (eqb last first) (eqb next first) (eq-eqb last first x) (eq-eqb next first y)))
      (λ (q : f ≢ l).
      let x = sym b ∙ number_rising f l (to - from) q in
      let y = sym a ∙ number_rising f l (suc (to - from)) q in
      or_right (eqb last first && eqb next first) _
      (and-true (eqb (last + from) (first + to)) (eqb next (last + 1)) (eq-eqb (last + from) (first + to) (omega arith)) (eq-eqb next (last + 1) (omega arith))))
      (eq_or_ne f l)

module _ (first last next : Row) (from to : ℕ) (h : from ≤ to) where
  row_word : row_continues first last next from to ≡ true → next.word.0 ≡ first.word.0
  row_word e =
      eqb-true next.word.0 first.word.0 (and_left (eqb next.word.0 first.word.0) (numbers_continue first.number last.number next.number from to) e)

  row_numbers_lem : row_continues first last next from to ≡ true → numbers_continue first.number last.number next.number from to ≡ true
  row_numbers_lem e = and_right (eqb next.word.0 first.word.0) (numbers_continue first.number last.number next.number from to) e

  row_next : row_continues first last next from to ≡ true → row_in first next (suc (to - from)) ≡ next
  row_next e =
      let w = sym (row_word e) in
      let n = number_next first.number last.number next.number from to h (row_numbers_lem e) in
      (λ i. record { word = record { 0 = w i }; number = n i })

  row_before : row_continues first last next from to ≡ true → (i : ℕ) → i ≤ to - from → row_in first next i ≡ row_in first last i
  row_before e i b =
      let n = number_before first.number last.number next.number from to h (row_numbers_lem e) i b in
      (λ j. record { word = first.word; number = n j })

  row_back : (f l : Row) → row_in f l 0 ≡ first → row_in f l (to - from) ≡ last → row_in f l (suc (to - from)) ≡ next → row_continues first last next from to ≡ true
  row_back f l a b c =
      let w : next.word.0 ≡ first.word.0 = sym (ap (λ (r : Row). r.word.0) c) ∙ ap (λ (r : Row). r.word.0) a in
      and-true (eqb next.word.0 first.word.0) _ (eq-eqb next.word.0 first.word.0 w)
      (number_back first.number last.number next.number from to h f.number l.number
      (sym (number_first f.number l.number) ∙ ap (λ (r : Row). r.number) a) (ap (λ (r : Row). r.number) b) (ap (λ (r : Row). r.number) c))

abbrev pub far : Run → ℕ
far run = run.last.slot - run.first.slot

-- a run as it is made: its slots do not fall, and the last change is what it spreads to at its end
pub record Whole (run : Run) : Type 0 where
  pub rising : run.first.slot ≤ run.last.slot
  pub ends : in_run run (run.last.slot - run.first.slot) ≡ run.last

-- what the test says
record Continues (run : Run) (next : Change) : Type 0 where
  slot : next.slot ≡ run.last.slot + 1
  old : row_continues run.first.old run.last.old next.old run.first.slot run.last.slot ≡ true
  new : row_continues run.first.new run.last.new next.new run.first.slot run.last.slot ≡ true

module _ (run : Run) (next : Change) where
  abbrev next_slot : Bool
  next_slot = eqb next.slot (run.last.slot + 1)

  abbrev next_old : Bool
  next_old = row_continues run.first.old run.last.old next.old run.first.slot run.last.slot

  abbrev next_new : Bool
  next_new = row_continues run.first.new run.last.new next.new run.first.slot run.last.slot

  continues_said : continues run next ≡ true → Continues run next
  unfolding continues
  continues_said e =
      let a = and_left (next_slot && next_old) next_new e in
      record {
        slot = eqb-true next.slot (run.last.slot + 1) (and_left next_slot next_old a);
        old = and_right next_slot next_old a;
        new = and_right (next_slot && next_old) next_new e;
      }

  continues_by : Continues run next → continues run next ≡ true
  unfolding continues
  continues_by g =
      and-true (next_slot && next_old) next_new
      (and-true next_slot next_old (eq-eqb next.slot (run.last.slot + 1) g.slot) g.old) g.new

  module _ (w : Whole run) (e : continues run next ≡ true) where
    pub further : next.slot - run.first.slot ≡ suc (far run)
    further = let g = (continues_said e).slot in let r = w.rising in omega arith

    -- the change that goes on is what the longer run ends with, and what lies before it stays
    in_next : in_run (longer run next) (suc (far run)) ≡ next
    in_next =
        let g = continues_said e in
        let s : run.first.slot + suc (far run) ≡ next.slot = (let q = g.slot in let r = w.rising in omega arith) in
        let o = row_next run.first.old run.last.old next.old run.first.slot run.last.slot w.rising g.old in
        let n = row_next run.first.new run.last.new next.new run.first.slot run.last.slot w.rising g.new in
        (λ i. record { slot = s i; old = o i; new = n i })

    in_before : (k : ℕ) → k < suc (far run) → in_run (longer run next) k ≡ in_run run k
    in_before k h =
        let g = continues_said e in
        let o = row_before run.first.old run.last.old next.old run.first.slot run.last.slot w.rising g.old k (omega arith) in
        let n = row_before run.first.new run.last.new next.new run.first.slot run.last.slot w.rising g.new k (omega arith) in
        (λ i. record { slot = run.first.slot + k; old = o i; new = n i })

    pub spread_longer : spread_run (longer run next) ≡ spread_run run ++ (next ∷ [])
    unfolding spread_run
    spread_longer =
        ap (λ (n : ℕ). tabulate (suc n) (in_run (longer run next))) further
        ∙ tabulate_suc (suc (far run)) (in_run (longer run next))
        ∙ (λ i. tabulate_ext (suc (far run)) (in_run (longer run next)) (in_run run) in_before i ++ (in_next i ∷ []))

    pub whole_longer : Whole (longer run next)
    whole_longer =
        record {
          rising = (let q = (continues_said e).slot in let r = w.rising in omega arith);
          ends = ap (λ (n : ℕ). in_run (longer run next) n) further ∙ in_next;
        }

pub whole_single : (c : Change) → Whole (single c)
whole_single c =
    let z : c.slot - c.slot ≡ 0 = omega arith in
    let s : c.slot + 0 ≡ c.slot = omega arith in
    let o = number_first c.old.number c.old.number in
    let n = number_first c.new.number c.new.number in
    record {
      rising = omega arith;
      ends =
          ap (λ (k : ℕ). in_run (single c) k) z
          ∙ (λ i. record { slot = s i; old = record { word = c.old.word; number = o i }; new = record { word = c.new.word; number = n i } });
    }

pub spread_single : (c : Change) → spread_run (single c) ≡ c ∷ []
unfolding spread_run
spread_single c =
    let z : c.slot - c.slot ≡ 0 = omega arith in
    ap (λ (k : ℕ). tabulate (suc k) (in_run (single c))) z
    ∙ ap (λ (d : Change). d ∷ []) (ap (λ (k : ℕ). in_run (single c) k) (sym z) ∙ (whole_single c).ends)

-- the runs from one that has begun
pub spread_from : (run : Run) (rest : List Change) → Whole run → spread (runs_from run rest) ≡ spread_run run ++ rest
spread_from run [] w = refl
spread_from run (next ∷ rest) w =
    cond_by (λ (runs : List Run). spread runs ≡ spread_run run ++ (next ∷ rest)) (continues run next) (runs_from (longer run next) rest) (run ∷ runs_from (single next) rest)
    (λ e.
    spread_from (longer run next) rest (whole_longer run next w e)
    ∙ ap (λ (l : List Change). l ++ rest) (spread_longer run next w e)
    ∙ append_assoc (spread_run run) (next ∷ []) rest)
    (λ e. ap (λ (l : List Change). spread_run run ++ l) (spread_from (single next) rest (whole_single next) ∙ ap (λ (l : List Change). l ++ rest) (spread_single next)))

-- A run that has the changes of another and one more: then that one goes on it.
module _ (run : Run) (next : Change) (w : Whole run) (q : Run) (s : spread_run q ≡ spread_run run ++ (next ∷ [])) where
  length_run : length (spread_run run) ≡ suc (far run)
  unfolding spread_run
  length_run = length_tabulate (suc (far run)) (in_run run)

  far_q : far q ≡ suc (far run)
  unfolding spread_run
  far_q =
      let a = length_tabulate (suc (far q)) (in_run q) in
      let b = ap length s in
      let c = length-append (spread_run run) (next ∷ []) in
      let d = length_run in
      omega arith

  at_q : (k : ℕ) → k < suc (far q) → in_run q k ≡ change_in (spread_run run ++ (next ∷ [])) k
  unfolding spread_run
  at_q k h = sym (get_or_tabulate (suc (far q)) (in_run q) k no_change h) ∙ ap (λ (l : List Change). change_in l k) s

  at_run : (k : ℕ) → k < suc (far run) → in_run q k ≡ in_run run k
  unfolding spread_run
  at_run k h =
      let f = far_q in
      let l = length_run in
      at_q k (omega arith)
      ∙ get_or-append (spread_run run) (next ∷ []) no_change k (omega arith)
      ∙ get_or_tabulate (suc (far run)) (in_run run) k no_change h

  at_next : in_run q (suc (far run)) ≡ next
  at_next = let f = far_q in at_q (suc (far run)) (omega arith) ∙ get_or_at (spread_run run) next [] no_change (suc (far run)) length_run

  pub continues_back : continues run next ≡ true
  continues_back =
      let f = far_q in
      let r = w.rising in
      let a = at_run 0 (omega arith) in
      let b = at_run (far run) (omega arith) ∙ w.ends in
      let c = at_next in
      let x = ap (λ (d : Change). d.slot) a in
      let y = ap (λ (d : Change). d.slot) c in
      let first-old = ap (λ (d : Change). d.old) a ∙ (λ i. record { word = run.first.old.word; number = number_first run.first.old.number run.last.old.number i }) in
      let first-new = ap (λ (d : Change). d.new) a ∙ (λ i. record { word = run.first.new.word; number = number_first run.first.new.number run.last.new.number i }) in
      continues_by run next (record {
        slot = omega arith;
        old = row_back run.first.old run.last.old next.old run.first.slot run.last.slot r q.first.old q.last.old first-old (ap (λ (d : Change). d.old) b) (ap (λ (d : Change). d.old) c);
        new = row_back run.first.new run.last.new next.new run.first.slot run.last.slot r q.first.new q.last.new first-new (ap (λ (d : Change). d.new) b) (ap (λ (d : Change). d.new) c);
      })
