-- Each of the first n elements of a list anew, by its place: what a loop over them leaves, and what its invariant says.
use Rattle.std.specs.Prelude.{◌≡◌, refl, ◌≢◌, true, ◌||◌, List, ℕ, ◌+◌, ◌≤◌, ◌<◌, length, get_or, set, ◌==◌}
use Rattle.std.proofs.Common.{sym, ap, ◌∙◌, ⊎_elim, arith, lt-ltb, le-ltb, ltb-true, eqb-true, eq-eqb}
use Rattle.ground.specs.Drawn.{drawn, length_drawn, get_or_drawn, get_or_kept, drawn_all, drawn_by, drawn_none, drawn_put}
use Rattle.ground.specs.Plain.{◌<?◌}
use Rattle.ground.specs.Table.{tabulate}
use Rattle.ground.specs.Truth.{or_left, or_right, or_cases, same_test, eq_or_ne}

one_more : (k n : ℕ) → (k <? n || k == n) ≡ (k <? n + 1)
one_more k n = same_test _ _ to back
  where
    to : (k <? n || k == n) ≡ true → (k <? n + 1) ≡ true
    to e =
        ⊎_elim (λ (g : (k <? n) ≡ true). let w = ltb-true k n g in lt-ltb k (n + 1) (omega arith))
        (λ (g : (k == n) ≡ true). let w = eqb-true k n g in lt-ltb k (n + 1) (omega arith))
        (or_cases (k <? n) (k == n) e)

    back : (k <? n + 1) ≡ true → (k <? n || k == n) ≡ true
    back e =
        let w = ltb-true k (n + 1) e in
        ⊎_elim (λ (g : k ≡ n). or_right (k <? n) _ (eq-eqb k n g))
        (λ (g : k ≢ n). or_left _ (k == n) (lt-ltb k n (omega arith)))
        (eq_or_ne k n)

module _ {A : Type 0} where
  -- f 0, f 1, .. f (n - 1), then the list as it was
  abbrev pub each : (n : ℕ) (f : ℕ → A) (d : List A) → List A
  each n f d = drawn (λ k. k <? n) f d

  pub length_each : (n : ℕ) (f : ℕ → A) (d : List A) → length (each n f d) ≡ length d
  length_each n f d = length_drawn (λ k. k <? n) f d

  pub get_or_each : (n : ℕ) (f : ℕ → A) (d : List A) (k : ℕ) (z : A) → k < n → k < length d → get_or (each n f d) k z ≡ f k
  get_or_each n f d k z h b = get_or_drawn (λ i. i <? n) f d k z b ∙ rw (lt-ltb k n h)

  -- what is not reached stands as it was
  pub get_or_rest : (n : ℕ) (f : ℕ → A) (d : List A) (k : ℕ) (z : A) → n ≤ k → get_or (each n f d) k z ≡ get_or d k z
  get_or_rest n f d k z h = get_or_kept (λ i. i <? n) f d k z (le-ltb k n h)

  each_more : (n : ℕ) (f : ℕ → A) (d : List A) → set (each n f d) n (f n) ≡ each (n + 1) f d
  each_more n f d =
      drawn_put (λ k. k <? n) f d n
      ∙ drawn_by (λ k. k <? n || k == n) (λ k. k <? n + 1) f f d (λ k b. one_more k n) (λ k b w. refl)

  -- What a loop's invariant says of its list after n turns. The length stands beside the equation, for the arithmetic of indices.
  pub record Done (n : ℕ) (f : ℕ → A) (d out : List A) : Type 0 where
    pub len : length out ≡ length d
    pub is : out ≡ each n f d

  pub done_none : (f : ℕ → A) (d : List A) → Done 0 f d d
  done_none f d = record { len = refl; is = sym (drawn_none (λ k. k <? 0) f d (λ k b. le-ltb k 0 (omega arith))) }

  pub done_more : {n : ℕ} {f : ℕ → A} {d out : List A} (v : A) → Done n f d out → v ≡ f n → Done (n + 1) f d (set out n v)
  done_more {n} {f} {d} {out} v h e =
      let is : set out n v ≡ each (n + 1) f d = ap (λ (l : List A). set l n v) h.is ∙ ap (λ (w : A). set (each n f d) n w) e ∙ each_more n f d in
      record { len = ap length is ∙ length_each (n + 1) f d; is = is }

  -- the element that the next turn reads
  pub done_next : {n : ℕ} {f : ℕ → A} {d out : List A} (z : A) → Done n f d out → get_or out n z ≡ get_or d n z
  done_next {n} {f} {d} {out} z h = ap (λ (l : List A). get_or l n z) h.is ∙ get_or_rest n f d n z (omega arith)

  -- the end of a loop to n
  pub done_all : {i n : ℕ} {f : ℕ → A} {d out : List A} → Done i f d out → i ≡ n → out ≡ each n f d
  done_all {i} {n} {f} {d} h e = h.is ∙ ap (λ (k : ℕ). each k f d) e

  -- and of one over the whole list
  pub done_table : {i n : ℕ} {f : ℕ → A} {d out : List A} → Done i f d out → i ≡ n → length d ≡ n → out ≡ tabulate n f
  done_table {i} {n} {f} {d} h e l =
      done_all h e
      ∙ drawn_all (λ k. k <? n) f d (λ k b. lt-ltb k n (rw l at b))
      ∙ ap (λ (m : ℕ). tabulate m f) l
