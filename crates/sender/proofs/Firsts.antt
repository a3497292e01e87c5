-- Some, how many and which of the first n of a list: what a chain of iterators over `&xs[..n]` gives is what the definitions have.
use Rattle.std.specs.Prelude.{◌≡◌, refl, Bool, true, false, cond, not, ◌&&◌, ◌||◌, List, Option, Some, None, ℕ, zero, suc, ◌+◌, ◌≤◌, ◌<◌, ltb, length, get_or, take, count_by, position}
use Rattle.std.specs.List.{list_any, position_or_len, zip}
use Rattle.std.proofs.Common.{◌++◌, map, drop, set, subst, sym, ap, ◌∙◌, add-one, arith, length-take, le-ltb, lt-ltb, ltb-true, min}
use Rattle.std.proofs.Math.Seq.{take-length}
use Rattle.std.proofs.lemmas.Bool.{ltb-false}
use Rattle.std.proofs.lemmas.List.{get_or-take, get_or_default, length-take-le, take_all}
use Rattle.std.proofs.lemmas.List.Edits.{map_over_more}
use Rattle.std.proofs.lemmas.List.Sums.{fails_before_first, passes_at_first}
use Rattle.std.proofs.lemmas.Slice.Zip.{get_or-zip, length-zip}
use Rattle.ground.specs.Counting.Each.{Done, done_none, done_more, done_next, done_all}
use Rattle.ground.specs.Counting.Laws.Chains.{any_first, count_first}
use Rattle.ground.specs.Counting.Laws.Numbers.{count_ext}
use Rattle.ground.specs.Counting.Laws.Tests.{some_ext}
use Rattle.ground.specs.Counting.Words.{count, greatest, some}
use Rattle.sender.specs.declared.board.Row.{Row}
use Rattle.sender.specs.declared.table.Slot.{Slot}
use Rattle.sender.specs.declared.table.State.TheVariants.{Idle}
use Rattle.sender.specs.Board.{highest}
use Rattle.sender.specs.Commands.{fallen, fallen_in}
use Rattle.sender.specs.Laws.Finding.{holder_here, holder_nowhere}
use Rattle.sender.specs.Ranks.{carries, carriers_in, rank_of, rank_under, row_at}
use Rattle.sender.specs.Reports.{comes_before, number_after, opens_wait}
use Rattle.sender.specs.Table.{holder_of, holds, is_active, is_add, is_member, members_of, slot_at}

-- the first n of a list written anew in place, each by what stands there
module _ {X : Type 0} (f : X → X) (xs : List X) (d : X) where
  written : (n : ℕ) → n ≤ length xs → Done n (λ j. f (get_or xs j d)) xs (map f (take n xs) ++ drop n xs)
  written zero h = done_none _ _
  written (suc n) h =
      let ys : List X = map f (take n xs) ++ drop n xs in
      let x : X = get_or xs n d in
      let rest : Done n (λ j. f (get_or xs j d)) xs ys = written n (omega arith) in
      let here : x ≡ get_or ys n x = get_or_default xs n d x (omega arith) ∙ sym (done_next x rest) in
      let one : set ys n (f x) ≡ map f (take (n + 1) xs) ++ drop (n + 1) xs = map_over_more f xs ys n x (omega arith) refl here in
      rw (← add-one) (subst (λ (l : List X). Done (n + 1) (λ j. f (get_or xs j d)) xs l) one (done_more (f x) rest refl))

module _ (slots : List Slot) {n : ℕ} (h : n ≤ length slots) where
  pub members_first : {r : ℕ} → r ≡ count_by (λ s. is_member s.state) (take n slots) → r ≡ members_of slots n
  unfolding members_of
  members_first e = e ∙ count_first (λ s. is_member s.state) slots _ n h

  pub higher_first : (q : ℕ) {r : Bool} → r ≡ list_any (λ s. is_active s.state && ltb q s.number) (take n slots) → not r ≡ highest slots n q
  unfolding highest
  higher_first q e = ap not (e ∙ any_first (λ s. is_active s.state && ltb q s.number) slots _ n h)

  pub fallen_first : (q : ℕ) {r : List Slot} → r ≡ map (λ s. fallen q s) (take n slots) → r ++ drop n slots ≡ fallen_in slots n q
  unfolding fallen_in
  fallen_first q e = ap (λ (l : List Slot). l ++ drop n slots) e ∙ done_all (written (λ s. fallen q s) slots _ n h) refl

-- some number at which f holds has a higher m exactly if the greatest is higher
above_greatest : (n : ℕ) (f : ℕ → Bool) (m : ℕ → ℕ) (q : ℕ) → some n (λ j. f j && ltb q (m j)) ≡ ltb q (greatest n f m)
above_greatest zero f m q = sym (le-ltb q 0 (omega arith))
above_greatest (suc n) f m q = ap (λ b. b || (f n && ltb q (m n))) (above_greatest n f m q) ∙ step (f n) (greatest n f m) (m n)
  where
    alone : (a : Bool) → (a || false) ≡ a
    alone true = refl
    alone false = refl

    next : (g x : ℕ) (c : Bool) → ltb g x ≡ c → (a : Bool) → ltb q g ≡ a → (d : Bool) → ltb q x ≡ d → (a || d) ≡ ltb q (cond c x g)
    next g x true e true h d k = let u = ltb-true g x e in let v = ltb-true q g h in sym (lt-ltb q x (omega arith))
    next g x true e false h d k = sym k
    next g x false e true h d k = sym h
    next g x false e false h true k = let u = ltb-false g x e in let v = ltb-true q x k in sym (lt-ltb q g (omega arith))
    next g x false e false h false k = sym h

    step : (b : Bool) (g x : ℕ) → (ltb q g || (b && ltb q x)) ≡ ltb q (cond (b && ltb g x) x g)
    step true g x = next g x (ltb g x) refl (ltb q g) refl (ltb q x) refl
    step false g x = alone (ltb q g)

-- and so for the active ones among slots
pub above_top : (slots : List Slot) (q top : ℕ) → top ≡ greatest (length slots) (λ j. is_active (slot_at slots j).state) (λ j. (slot_at slots j).number)
    → list_any (λ s. is_active s.state && ltb q s.number) slots ≡ ltb q top
above_top slots q top e =
    rw take-length at (any_first (λ s. is_active s.state && ltb q s.number) slots (record { state = Idle; number = 0 }) (length slots) (omega arith))
    ∙ above_greatest (length slots) (λ j. is_active (slot_at slots j).state) (λ j. (slot_at slots j).number) q ∙ ap (ltb q) (sym e)

module _ (rows : List Row) where
  whole_count : (test : Row → Bool) → count (length rows) (λ j. test (row_at rows j)) ≡ count_by test rows
  whole_count test = sym (rw take-length at (count_first test rows (record { word = record { 0 = 0 }; number = 0 }) (length rows) (omega arith)))

  pub carriers_whole : {r : ℕ} → r ≡ carriers_in rows (length rows) → r ≡ count_by (λ r. carries r) rows
  unfolding carriers_in
  carriers_whole e = e ∙ whole_count (λ r. carries r)

  pub rank_whole : (q : ℕ) {r : ℕ} → r ≡ rank_of rows (length rows) q → r ≡ count_by (λ r. rank_under r q) rows
  unfolding rank_of
  rank_whole q e = e ∙ whole_count (λ r. rank_under r q)

module _ (rows : List Row) {n : ℕ} (h : n ≤ length rows) where
  pub carriers_first : {r : ℕ} → r ≡ count_by (λ r. carries r) (take n rows) → r ≡ carriers_in rows n
  unfolding carriers_in
  carriers_first e = e ∙ count_first (λ r. carries r) rows _ n h

  pub rank_first : (q : ℕ) {r : ℕ} → r ≡ count_by (λ r. rank_under r q) (take n rows) → r ≡ rank_of rows n q
  unfolding rank_of
  rank_first q e = e ∙ count_first (λ r. rank_under r q) rows _ n h

-- two lists side by side
module _ {X : Type 0} (f : X → X → Bool) (xs ys : List X) (d : X) (n : ℕ) (a : n ≤ length xs) (b : n ≤ length ys) where
  pairs : List (X × X)
  pairs = zip (take n xs) (take n ys)

  pairs_length : length pairs ≡ n
  unfolding pairs
  pairs_length = simp (length-zip, length-take) (omega arith)

  pair_at : (k : ℕ) → k < n → get_or pairs k (d, d) ≡ (get_or xs k d, get_or ys k d)
  unfolding pairs
  pair_at k h =
      let left : k < length (take n xs) = simp length-take (omega arith) in
      let right : k < length (take n ys) = simp length-take (omega arith) in
      get_or-zip (take n xs) (take n ys) k (d, d) left right ∙ rw (get_or-take n xs k d h, get_or-take n ys k d h) refl

  test : X × X → Bool
  test p = f p.0 p.1

  whole : take n pairs ≡ pairs
  whole = let l : length pairs ≤ n = omega (arith, pairs_length) in take_all n pairs l

  tested : (k : ℕ) → k < n → test (get_or pairs k (d, d)) ≡ f (get_or xs k d) (get_or ys k d)
  unfolding test
  tested k h = ap test (pair_at k h)

  count_pairs : count_by test pairs ≡ count n (λ i. f (get_or xs i d) (get_or ys i d))
  count_pairs =
      sym (ap (λ (l : List (X × X)). count_by test l) whole) ∙ count_first test pairs (d, d) n (omega (arith, pairs_length))
      ∙ count_ext n _ _ tested

  some_pairs : list_any test pairs ≡ some n (λ i. f (get_or xs i d) (get_or ys i d))
  some_pairs =
      sym (ap (λ (l : List (X × X)). list_any test l) whole) ∙ any_first test pairs (d, d) n (omega (arith, pairs_length))
      ∙ some_ext n _ _ tested

-- two whole lists side by side
module _ {X : Type 0} (f : X → X → Bool) (xs ys : List X) (d : X) where
  both_at : (k : ℕ) → k < length (zip xs ys) → get_or (zip xs ys) k (d, d) ≡ (get_or xs k d, get_or ys k d)
  both_at k h = get_or-zip xs ys k (d, d) (omega (arith, length-zip xs ys)) (omega (arith, length-zip xs ys))

  whole_pairs : count_by (λ p. f p.0 p.1) (zip xs ys) ≡ count (min (length xs) (length ys)) (λ i. f (get_or xs i d) (get_or ys i d))
  whole_pairs =
      rw take-length at (count_first (λ (p : X × X). f p.0 p.1) (zip xs ys) (d, d) (length (zip xs ys)) (omega arith))
      ∙ count_ext (length (zip xs ys)) _ _ (λ k h. ap (λ (p : X × X). f p.0 p.1) (both_at k h))
      ∙ ap (λ (m : ℕ). count m (λ i. f (get_or xs i d) (get_or ys i d))) (length-zip xs ys)

pub number_whole : (was is : List Slot) (q turn : ℕ) {r : ℕ} → r ≡ number_after was is (min (length was) (length is)) q turn
    → r ≡ count_by (λ p. comes_before p.0 p.1 q turn) (zip was is)
unfolding number_after
number_whole was is q turn e = e ∙ sym (whole_pairs (λ (s r : Slot). comes_before s r q turn) was is (record { state = Idle; number = 0 }))

module _ (was is : List Slot) {n : ℕ} (a : n ≤ length was) (b : n ≤ length is) where
  pub opens_first : {r : Bool} → r ≡ list_any (λ p. is_add p.0.state && is_active p.1.state) (zip (take n was) (take n is)) → r ≡ opens_wait was is n
  unfolding opens_wait pairs test
  opens_first e = e ∙ some_pairs (λ (s r : Slot). is_add s.state && is_active r.state) was is _ n a b

  pub number_first : (q turn : ℕ) {r : ℕ} → r ≡ count_by (λ p. comes_before p.0 p.1 q turn) (zip (take n was) (take n is)) → r ≡ number_after was is n q turn
  unfolding number_after pairs test
  number_first q turn e = e ∙ count_pairs (λ (s r : Slot). comes_before s r q turn) was is _ n a b

-- the first that holds a number
module _ (slots : List Slot) (n q : ℕ) (h : n ≤ length slots) where
  low : (k : ℕ) → k < n → get_or (take n slots) k (record { state = Idle; number = 0 }) ≡ slot_at slots k
  low k b = get_or-take n slots k _ b

  found : (at : ℕ) → position_or_len (λ s. holds s q) (take n slots) ≡ at → cond (ltb at (length (take n slots))) (Some at) None ≡ holder_of slots n q
  found at e = go (ltb at (length (take n slots))) refl
    where
      before : (k : ℕ) → k < at → k < n → holds (slot_at slots k) q ≡ false
      before k b l = sym (ap (λ s. holds s q) (low k l)) ∙ fails_before_first (λ s. holds s q) (take n slots) k _ (rw e b)

      go : (b : Bool) → ltb at (length (take n slots)) ≡ b → cond b (Some at) None ≡ holder_of slots n q
      go true t =
          let l : at < n = omega (arith, ltb-true at (length (take n slots)) t, length-take-le n slots h) in
          let here : holds (get_or (take n slots) at (record { state = Idle; number = 0 })) q ≡ true = rw e at (passes_at_first (λ s. holds s q) (take n slots) (record { state = Idle; number = 0 }) (rw e (ltb-true at (length (take n slots)) t))) in
          sym (holder_here slots q at n l (holder_nowhere slots q at (λ k b. before k b (omega arith))) (sym (ap (λ s. holds s q) (low at l)) ∙ here))
      go false t =
          let l : n ≤ at = omega (arith, ltb-false at (length (take n slots)) t, length-take-le n slots h) in
          sym (holder_nowhere slots q n (λ k b. before k (omega arith) b))

pub holder_first : (slots : List Slot) {n : ℕ} → n ≤ length slots → (q : ℕ) {r : Option ℕ} → r ≡ position (λ s. holds s q) (take n slots) → r ≡ holder_of slots n q
holder_first slots {n} h q e = e ∙ found slots n q h (position_or_len (λ s. holds s q) (take n slots)) refl
