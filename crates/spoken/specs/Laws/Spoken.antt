-- What stands in the list of the slots that have changed.
use Rattle.std.specs.Prelude.{◌≡◌, refl, ◌≢◌, Bool, true, false, cond, ◌&&◌, List, [], ◌∷◌, ◌++◌, ℕ, zero, suc, ◌+◌, ◌≤◌, ◌<◌, eqb, ltb, drop, length, replicate, set, take}
use Rattle.std.proofs.Common.{sym, ◌∙◌, ap, ⊎_elim, arith, length-append, length-drop, drop-cons, eq-eqb, ne_eqb, lt-ltb, le-ltb}
use Rattle.std.proofs.lemmas.List.{get_or-replicate, length-replicate}
use Rattle.std.proofs.Math.ListN.{get_or-append}
use Rattle.std.proofs.Math.Seq.{append_snoc, get_or-append_seam, set-append_seam, take-append_seam}
use Rattle.ground.specs.Truth.{eq_or_ne, le_or_lt}
use Rattle.ground.specs.Counting.Laws.Numbers.{count_ext}
use Rattle.ground.specs.Counting.Words.{count}
use Rattle.sender.specs.declared.board.Row.{Row}
use Rattle.spoken.specs.Said.{Told}
use Rattle.spoken.specs.declared.lists.Change.{Change}
use Rattle.spoken.specs.Applying.{change_in}
use Rattle.spoken.specs.Changes.{change_at, changed, list_of, no_change, spoken_to}
use Rattle.spoken.specs.Laws.Rising.{slot_in}

-- one more at the end
last_length : (l : List Change) (c : Change) → length (l ++ (c ∷ [])) ≡ suc (length l)
last_length l c = length-append l (c ∷ []) ∙ (omega arith)

last_before : (l : List Change) (c : Change) (k : ℕ) → k < length l → change_in (l ++ (c ∷ [])) k ≡ change_in l k
last_before l c k h = get_or-append l (c ∷ []) no_change k h

last_is : (l : List Change) (c : Change) → change_in (l ++ (c ∷ [])) (length l) ≡ c
last_is l c = get_or-append_seam l c [] no_change

slot_before : (l : List Change) (c : Change) (k : ℕ) → k < length l → slot_in (l ++ (c ∷ [])) k ≡ slot_in l k
slot_before l c k h = ap (λ (d : Change). d.slot) (last_before l c k h)

slot_last : (l : List Change) (c : Change) → slot_in (l ++ (c ∷ [])) (length l) ≡ c.slot
slot_last l c = ap (λ (d : Change). d.slot) (last_is l c)

append_none : (l : List Change) → l ++ [] ≡ l
append_none [] = refl
append_none (c ∷ l) = ap (λ (r : List Change). c ∷ r) (append_none l)

-- every change of a list
abbrev pub Each : (Change → Type 0) → List Change → Type 0
Each P l = (k : ℕ) → k < length l → P (change_in l k)

each_last : (P : Change → Type 0) (l : List Change) (c : Change) → Each P l → P c → Each P (l ++ (c ∷ []))
each_last P l c p q k h =
    let n = last_length l c in
    ⊎_elim (λ (e : k ≡ length l). rw (e, last_is l c) q)
    (λ (d : k ≢ length l). rw (last_before l c k (omega arith)) (p k (omega arith)))
    (eq_or_ne k (length l))

module _ (old new : List Row) where
  told_more : (n : ℕ) (c : Change) → Told old new n c → Told old new (suc n) c
  told_more n c t = record { below = (let b = t.below in omega arith); is = t.is; differs = t.differs }

  -- the next slot has changed, or it has not
  pub spoken_changed : (n : ℕ) → changed old new n ≡ true → spoken_to old new (suc n) ≡ spoken_to old new n ++ (change_at old new n ∷ [])
  spoken_changed n e = rw e

  pub spoken_same : (n : ℕ) → changed old new n ≡ false → spoken_to old new (suc n) ≡ spoken_to old new n
  spoken_same n e = rw e (append_none (spoken_to old new n))

  -- what holds of the list of n slots and is kept by one more, in either case
  by_slots : (P : ℕ → List Change → Type 0) → P 0 []
      → ((n : ℕ) (l : List Change) → l ≡ spoken_to old new n → changed old new n ≡ true → P n l → P (suc n) (l ++ (change_at old new n ∷ [])))
      → ((n : ℕ) (l : List Change) → l ≡ spoken_to old new n → changed old new n ≡ false → P n l → P (suc n) l)
      → (n : ℕ) → P n (spoken_to old new n)
  by_slots P z t f zero = z
  by_slots P z t f (suc n) = go (changed old new n) refl (by_slots P z t f n)
    where
      go : (b : Bool) → changed old new n ≡ b → P n (spoken_to old new n) → P (suc n) (spoken_to old new (suc n))
      go true e p = rw (spoken_changed n e) (t n (spoken_to old new n) refl e p)
      go false e p = rw (spoken_same n e) (f n (spoken_to old new n) refl e p)

  pub spoken_le : (n : ℕ) → length (spoken_to old new n) ≤ n
  spoken_le =
      by_slots (λ n l. length l ≤ n) (omega arith) (λ n l i e h. let m = last_length l (change_at old new n) in omega arith)
      (λ n l i e h. omega arith)

  -- only slots that have changed
  pub spoken_told : (n : ℕ) → Each (Told old new n) (spoken_to old new n)
  spoken_told =
      by_slots (λ n l. Each (Told old new n) l) (λ k h. absurd (omega arith))
      (λ n l i e p. each_last (Told old new (suc n)) l (change_at old new n) (λ k h. told_more n (change_in l k) (p k h)) (record { below = omega arith; is = refl; differs = e }))
      (λ n l i e p k h. told_more n (change_in l k) (p k h))

  -- in rising order
  abbrev Ordered : ℕ → List Change → Type 0
  Ordered n l = (k : ℕ) → suc k < length l → slot_in l k < slot_in l (suc k)

  pub spoken_ordered : (n : ℕ) → Ordered n (spoken_to old new n)
  spoken_ordered =
      by_slots Ordered (λ k h. absurd (omega arith))
      (λ n l i e p k h.
      let m = last_length l (change_at old new n) in
      let low : slot_in l k < n = (rw (← i) at (spoken_told n) k (omega arith)).below in
      let one : slot_in (l ++ (change_at old new n ∷ [])) k ≡ slot_in l k = slot_before l (change_at old new n) k (omega arith) in
      ⊎_elim
      (λ (q : suc k ≡ length l).
      let two : slot_in (l ++ (change_at old new n ∷ [])) (suc k) ≡ n = ap (λ (j : ℕ). slot_in (l ++ (change_at old new n ∷ [])) j) q ∙ slot_last l (change_at old new n) in
      omega arith)
      (λ (q : suc k ≢ length l).
      let two : slot_in (l ++ (change_at old new n ∷ [])) (suc k) ≡ slot_in l (suc k) = slot_before l (change_at old new n) (suc k) (omega arith) in
      let w = p k (omega arith) in
      omega arith)
      (eq_or_ne (suc k) (length l)))
      (λ n l i e p. p)

  -- each slot that has changed, once; no other
  abbrev times : ℕ → List Change → ℕ
  times i l = count (length l) (λ k. eqb (slot_in l k) i)

  times_last : (i : ℕ) (l : List Change) (c : Change) → times i (l ++ (c ∷ [])) ≡ times i l + cond (eqb c.slot i) 1 0
  times_last i l c =
      let f : ℕ → Bool = λ k. eqb (slot_in (l ++ (c ∷ [])) k) i in
      ap (λ (n : ℕ). count n f) (last_length l c)
      ∙ ap (λ (x : ℕ). x + cond (f (length l)) 1 0) (count_ext (length l) f (λ k. eqb (slot_in l k) i) (λ k h. ap (λ (s : ℕ). eqb s i) (slot_before l c k h)))
      ∙ ap (λ (s : ℕ). times i l + cond (eqb s i) 1 0) (slot_last l c)

  pub spoken_times : (i n : ℕ) → count (length (spoken_to old new n)) (λ k. eqb (slot_in (spoken_to old new n) k) i) ≡ cond (ltb i n && changed old new i) 1 0
  spoken_times i =
      by_slots (λ n l. times i l ≡ cond (ltb i n && changed old new i) 1 0) (rw (le-ltb i 0 (omega arith)))
      (λ n l m e p. times_last i l (change_at old new n) ∙ rw p (more n e))
      (λ n l m e p. p ∙ still n e)
    where
      more : (n : ℕ) → changed old new n ≡ true → cond (ltb i n && changed old new i) 1 0 + cond (eqb n i) 1 0 ≡ cond (ltb i (suc n) && changed old new i) 1 0
      more n e =
          ⊎_elim
          (λ (q : n ≡ i). rw (eq-eqb n i q, le-ltb i n (omega arith), lt-ltb i (suc n) (omega arith), rw q at e))
          (λ (q : n ≢ i). rw (ne_eqb n i q) (⊎_elim
          (λ (g : n ≤ i). rw (le-ltb i n g, le-ltb i (suc n) (omega arith)))
          (λ (g : i < n). rw (lt-ltb i n g, lt-ltb i (suc n) (omega arith)) (omega arith))
          (le_or_lt n i)))
          (eq_or_ne n i)

      still : (n : ℕ) → changed old new n ≡ false → ◌≡◌ {A = ℕ} (cond (ltb i n && changed old new i) 1 0) (cond (ltb i (suc n) && changed old new i) 1 0)
      still n e =
          ⊎_elim
          (λ (q : n ≡ i). rw (le-ltb i n (omega arith), lt-ltb i (suc n) (omega arith), rw q at e))
          (λ (q : n ≢ i). ⊎_elim
          (λ (g : n ≤ i). rw (le-ltb i n g, le-ltb i (suc n) (omega arith)))
          (λ (g : i < n). rw (lt-ltb i n g, lt-ltb i (suc n) (omega arith)))
          (le_or_lt n i))
          (eq_or_ne n i)

-- the list of 64 that begins with these
pub length_list : (l : List Change) → length l ≤ 64 → length (list_of l) ≡ 64
unfolding list_of
length_list l h =
    let a = length-append l (drop (length l) (replicate 64 no_change)) in
    let b = length-drop (length l) (replicate 64 no_change) in
    let c = length-replicate 64 no_change in
    omega arith

pub list_at_lem : (l : List Change) (k : ℕ) → k < length l → change_in (list_of l) k ≡ change_in l k
unfolding list_of
list_at_lem l k h = get_or-append l (drop (length l) (replicate 64 no_change)) no_change k h

pub take_list : (l : List Change) → take (length l) (list_of l) ≡ l
unfolding list_of
take_list l = take-append_seam l (drop (length l) (replicate 64 no_change))

-- one more stored behind them, or nothing over nothing
rest_cons : (n : ℕ) → n < 64 → drop n (replicate 64 no_change) ≡ no_change ∷ drop (suc n) (replicate 64 no_change)
rest_cons n h = drop-cons (replicate 64 no_change) n no_change (rw (length-replicate 64 no_change) h) ∙ rw (get_or-replicate 64 n no_change no_change h)

pub list_more : (l : List Change) (b : Bool) (c : Change) → length l < 64 → set (list_of l) (length l) (cond b c no_change) ≡ list_of (l ++ cond b (c ∷ []) [])
unfolding list_of
list_more l true c h =
    rw (rest_cons (length l) h, set-append_seam l no_change (drop (suc (length l)) (replicate 64 no_change)) c, last_length l c)
    (sym (append_snoc l c (drop (suc (length l)) (replicate 64 no_change))))
list_more l false c h =
    rw (append_none l, rest_cons (length l) h) (set-append_seam l no_change (drop (suc (length l)) (replicate 64 no_change)) no_change)
