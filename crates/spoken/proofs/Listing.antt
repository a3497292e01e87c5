-- The loop that lists the changes: one slot more with each turn.
use Rattle.std.specs.Prelude.{Ok, Err, ◌⊎◌}
use Rattle.std.proofs.Common.{inl, inr}
use borrow.Author.Tests.{eq-eqb, le-leb, lt-leb, ne_eqb}
use mathlib.Core.Path.{◌≡◌, refl, sym, ◌∙◌, ap, subst}
use mathlib.Core.Bool.{Bool, true, false}
use mathlib.Core.List.{List, [], ◌∷◌}
use Prim.Native.Nat.{ℕ, suc, ◌+◌, ◌≤◌, ◌<◌}
use native.Mathlib.Numerals.{add-one}
use native.Mathlib.Omega.{arith}
use lib.ListN.{length, length-append, replicate, set}
use Rattle.sender.specs.declared.board.Board.{Board}
use Rattle.sender.specs.declared.board.Row.{Row}
use Rattle.spoken.specs.Answers.{told_changes}
use Rattle.spoken.specs.declared.lists.Refusal.TheVariants as R
use Rattle.spoken.specs.declared.lists.Change.{Change}
use Rattle.spoken.specs.declared.lists.Changes.{Changes}
use Rattle.spoken.specs.declared.lists.WaitChange.{WaitChange}
use Rattle.spoken.specs.Changes.{change_at, changed, changes_in, changes_of, comparable, compared_of, list_of, no_change, spoken_to, wait_change}
use Rattle.spoken.specs.Laws.Spoken.{length_list, list_more, spoken_changed, spoken_le, spoken_same}

-- what stands in the list and how many after i slots; the lengths stand beside the equations, for the arithmetic of indices
pub record Listing (old new : List Row) (i : ℕ) (list : List Change) (n : ℕ) : Type 0 where
  pub len : length list ≡ 64
  pub at_most : n ≤ i
  pub many : n ≡ length (spoken_to old new i)
  pub is : list ≡ list_of (spoken_to old new i)

module _ (old new : List Row) where
  pub listing : (i : ℕ) (list : List Change) (n : ℕ) → i ≤ 64 → n ≡ length (spoken_to old new i) → list ≡ list_of (spoken_to old new i) → Listing old new i list n
  listing i list n h m e =
      let l = spoken_le old new i in
      record { len = ap length e ∙ length_list (spoken_to old new i) (omega arith); at_most = omega arith; many = m; is = e }

  pub listing_none : (none : Change) → none ≡ no_change → Listing old new 0 (replicate 64 none) 0
  unfolding list_of
  listing_none none e = listing 0 (replicate 64 none) 0 (omega arith) refl (ap (λ (c : Change). replicate 64 c) e)

  -- a slot that has changed, and one that has not
  pub listing_changed : {i n : ℕ} {list : List Change} (t : Bool) → Listing old new i list n → i < 64 → t ≡ changed old new i → t ≡ true
      → Listing old new (i + 1) (set list n (change_at old new i)) (n + 1)
  listing_changed {i} {n} {list} t o h e f =
      let l = spoken_le old new i in
      let s = spoken_changed old new i (sym e ∙ f) in
      let k : n + 1 ≡ length (spoken_to old new (suc i)) = rw (o.many, s) (sym (length-append (spoken_to old new i) (change_at old new i ∷ []))) in
      let m : set list n (change_at old new i) ≡ list_of (spoken_to old new (suc i)) = rw (o.is, o.many, s) (list_more (spoken_to old new i) true (change_at old new i) (omega arith)) in
      let r : Listing old new (suc i) (set list n (change_at old new i)) (n + 1) = listing (suc i) (set list n (change_at old new i)) (n + 1) (omega arith) k m in
      let q : i + 1 ≡ suc i = add-one i in
      subst (λ (j : ℕ). Listing old new j (set list n (change_at old new i)) (n + 1)) (sym q) r

  pub listing_same : {i n : ℕ} {list : List Change} (t : Bool) → Listing old new i list n → i < 64 → t ≡ changed old new i → t ≡ false
      → Listing old new (i + 1) list n
  listing_same {i} {n} {list} t o h e f =
      let l = spoken_le old new i in
      let s = spoken_same old new i (sym e ∙ f) in
      rw add-one (listing (suc i) list n (omega arith) (rw s o.many) (rw s o.is))

  pub listing_all : {i n : ℕ} {list : List Change} (m : ℕ) (wait : WaitChange) → Listing old new i list n → i ≡ m
      → ◌≡◌ {A = Changes} (record { list = list; count = n; wait = wait }) (changes_in old new m wait)
  unfolding changes_in
  listing_all {i} {n} {list} m wait o e = rw (o.is, o.many, e)

-- the two ways out
module _ (old new : Board) where
  pub comparable_is : old.count ≡ new.count → old.count ≤ 64 → comparable old new ≡ true
  comparable_is e h = rw (eq-eqb old.count new.count e, le-leb old.count 64 h)

  pub comparable_not : (old.count ≡ new.count → ⊥) ⊎ ((old.count ≡ new.count) × (64 < old.count)) → comparable old new ≡ false
  comparable_not (inl d) = rw (ne_eqb old.count new.count d)
  comparable_not (inr h) = rw (eq-eqb old.count new.count h.0, lt-leb old.count 64 h.1)

  pub compared_refused : comparable old new ≡ false → Err R.Counts ≡ told_changes (compared_of old new)
  unfolding compared_of
  compared_refused e = rw e

  pub compared_done : (cs : Changes) (wait : WaitChange) → comparable old new ≡ true → wait ≡ wait_change old.wait new.wait → cs ≡ changes_in old.rows new.rows old.count wait
      → Ok cs ≡ told_changes (compared_of old new)
  unfolding compared_of changes_of
  compared_done cs wait e w s = rw (e, s, w)
