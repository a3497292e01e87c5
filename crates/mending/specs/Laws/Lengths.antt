-- What the lengths call counts is the length of the notes: a line is restored at most once, so that its note is counted exactly if its count is another in the end.
use Rattle.std.specs.Prelude.{◌≡◌, refl, Bool, true, false, cond, not, ◌&&◌, List, [], ◌∷◌, ◌++◌, ℕ, zero, suc, ◌+◌, ◌%◌, ◌≤◌, ◌<◌, eqb, leb, ltb, get_or, length, set}
use Rattle.std.proofs.Common.{sym, ap, ◌∙◌, le_of_suc-le-suc, not-suc-le-zero, length-append, length-set, eq-eqb, eqb-true, leb-true, ltb-false, ne_eqb}
use native.Mathlib.Omega.{arith}
use Rattle.std.proofs.lemmas.Bool.{eqb-false}
use Rattle.ground.specs.Truth.{and_left, cond_by}
use Rattle.mending.specs.declared.follow.Follow.{Follow}
use Rattle.mending.specs.Following.{followed_if}
use Rattle.mending.specs.Follow.{afresh, count_back, fed, fed_if, going, less_place, restores_first, restores_last, restores_second, restores_third}
use Rattle.mending.specs.Laws.Swept.{Good, enough, fed_small, frames_by, frames_in, good_by, in_order_lem, in_order, judged_is, left, left_in, left_behind, news_by, news_from, onto, seen_by, seen_from}
use Rattle.mending.specs.Laws.Sweeps.{Count, count_with, count_start, dropped_length, kept_by, kept_length, length_by, length_end, notes_length, restored_length, restored_lengths, set_if}
use Rattle.mending.specs.Laws.Restored.{altered_here, altered_old, altered_suc, altered_zero, ended_news, ended_length, length_set_if, restored_news}
use Rattle.mending.specs.Laws.Seen.{Altered, Seen, afresh_most, altered_first, altered_last, altered_second, altered_third, back, follow_in, index_back, keyed, keys_in, known, number_key, old_key, restores_said}
use Rattle.mending.specs.Lines.{Judged, Line, capital, counts_of, digit_in, digit_place, fate_by, fate_to, judged, judged_by, left_by, line_text, mended_lines, out_by, record_of, text_of, with_digit}
use Rattle.mending.specs.Lines.{Fate as F}
use Rattle.mending.specs.Mending.{h4_with, note_by, note_text, notes_from}
use Rattle.recording.specs.declared.record.Record.{Record}
use Rattle.recording.specs.declared.record.Record.TheVariants.{Frame, Malformed, Long, Unfinished, End}
use Rattle.text.specs.Ascii.{ascii}
use Rattle.text.specs.Output.{ended, number_text}
use Rattle.text.specs.Text.{LINE-END, TAB}

eqb_turned : (m n : ℕ) → eqb m n ≡ false → eqb n m ≡ false
eqb_turned m n h = ne_eqb n m (λ (e : n ≡ m). eqb-false m n h (sym e))

-- the notes of the lines that are restored, in bytes
abbrev restored_sum : List Seen → List ℕ → ℕ
restored_sum [] ns = 0
restored_sum (e ∷ es) [] = 0
restored_sum (e ∷ es) (n ∷ ns) = restored_sum es ns + restored_length (not (eqb e.old n)) e.number

-- a count that is set at one line stays at all others

index_miss : (e : Seen) (es : List Seen) (q b : ℕ) → eqb e.port q ≡ false → index_back q (e ∷ es) b ≡ suc (index_back q es b)
index_miss e es q zero t = rw t refl
index_miss e es q (suc b) t = rw t refl

back_miss : (key : List Seen → Seen → ℕ) (e : Seen) (es : List Seen) (q b : ℕ) → eqb e.port q ≡ false → back key q (e ∷ es) b ≡ back key q es b
back_miss key e es q zero t = rw t refl
back_miss key e es q (suc b) t = rw t refl

same_apart : (p : ℕ) (es : List Seen) (ns : List ℕ) (b j c : ℕ) → length ns ≡ length es → b < j → get_or (set ns (index_back p es j) c) (index_back p es b) 0 ≡ get_or ns (index_back p es b) 0
same_apart p [] [] b j c k h = refl
same_apart p [] (n ∷ ns) b j c k h = absurd (omega arith)
same_apart p (e ∷ es) [] b j c k h = refl
same_apart p (e ∷ es) (n ∷ ns) b zero c k h = absurd (not-suc-le-zero h)
same_apart p (e ∷ es) (n ∷ ns) zero (suc j) c k h = go (eqb e.port p) refl (same_apart p es ns zero (suc j) c (omega arith) h)
  where
    go : (t : Bool) → eqb e.port p ≡ t → get_or (set ns (index_back p es (suc j)) c) (index_back p es zero) 0 ≡ get_or ns (index_back p es zero) 0
        → get_or (set (n ∷ ns) (index_back p (e ∷ es) (suc j)) c) (index_back p (e ∷ es) zero) 0 ≡ get_or (n ∷ ns) (index_back p (e ∷ es) zero) 0
    go true t r = rw t refl
    go false t r = rw t r
same_apart p (e ∷ es) (n ∷ ns) (suc b) (suc j) c k h =
    go (eqb e.port p) refl (same_apart e.port es ns b j c (omega arith) (le_of_suc-le-suc h)) (same_apart p es ns (suc b) (suc j) c (omega arith) h)
  where
    go : (t : Bool) → eqb e.port p ≡ t → get_or (set ns (index_back e.port es j) c) (index_back e.port es b) 0 ≡ get_or ns (index_back e.port es b) 0
        → get_or (set ns (index_back p es (suc j)) c) (index_back p es (suc b)) 0 ≡ get_or ns (index_back p es (suc b)) 0
        → get_or (set (n ∷ ns) (index_back p (e ∷ es) (suc j)) c) (index_back p (e ∷ es) (suc b)) 0 ≡ get_or (n ∷ ns) (index_back p (e ∷ es) (suc b)) 0
    go true t r q = rw t r
    go false t r q = rw t q

-- of another port, whose line lies at any place
other_at_lem : (q : ℕ) (e : Seen) (es : List Seen) (n : ℕ) (ns ms : List ℕ) → ((x b : ℕ) → eqb e.port x ≡ true → x ≡ q → get_or ms (index_back e.port es b) 0 ≡ get_or ns (index_back e.port es b) 0)
    → ((b : ℕ) → get_or ms (index_back q es b) 0 ≡ get_or ns (index_back q es b) 0) → (b : ℕ) → get_or (n ∷ ms) (index_back q (e ∷ es) b) 0 ≡ get_or (n ∷ ns) (index_back q (e ∷ es) b) 0
other_at_lem q e es n ns ms own rest zero = go (eqb e.port q) refl
  where
    go : (t : Bool) → eqb e.port q ≡ t → get_or (n ∷ ms) (index_back q (e ∷ es) zero) 0 ≡ get_or (n ∷ ns) (index_back q (e ∷ es) zero) 0
    go true t = rw t refl
    go false t = rw t (rest zero)
other_at_lem q e es n ns ms own rest (suc b) = go (eqb e.port q) refl
  where
    go : (t : Bool) → eqb e.port q ≡ t → get_or (n ∷ ms) (index_back q (e ∷ es) (suc b)) 0 ≡ get_or (n ∷ ns) (index_back q (e ∷ es) (suc b)) 0
    go true t = rw t (own q b t refl)
    go false t = rw t (rest (suc b))

other_apart : (q p : ℕ) (es : List Seen) (ns : List ℕ) (b j c : ℕ) → length ns ≡ length es → eqb p q ≡ false → get_or (set ns (index_back p es j) c) (index_back q es b) 0 ≡ get_or ns (index_back q es b) 0
other_apart q p [] [] b j c k z = refl
other_apart q p [] (n ∷ ns) b j c k z = absurd (omega arith)
other_apart q p (e ∷ es) [] b j c k z = refl
other_apart q p (e ∷ es) (n ∷ ns) b zero c k z = go (eqb e.port p) refl (λ (x i : ℕ) (y : eqb p x ≡ false). other_apart x p es ns i zero c (omega arith) y)
  where
    go : (t : Bool) → eqb e.port p ≡ t → ((x i : ℕ) → eqb p x ≡ false → get_or (set ns (index_back p es zero) c) (index_back x es i) 0 ≡ get_or ns (index_back x es i) 0)
        → get_or (set (n ∷ ns) (index_back p (e ∷ es) zero) c) (index_back q (e ∷ es) b) 0 ≡ get_or (n ∷ ns) (index_back q (e ∷ es) b) 0
    go true t r = let o : eqb e.port q ≡ false = rw (← eqb-true e.port p t) at z in rw (index_miss e es q b o, t) refl
    go false t r =
        rw (index_miss e es p zero t)
        (other_at_lem q e es n ns (set ns (index_back p es zero) c) (λ x i y w. r e.port i (eqb_turned e.port p t)) (λ i. r q i z) b)
other_apart q p (e ∷ es) (n ∷ ns) b (suc j) c k z =
    go (eqb e.port p) refl (λ (i : ℕ) (y : eqb e.port q ≡ false). other_apart q e.port es ns i j c (omega arith) y) (λ (x i : ℕ) (y : eqb p x ≡ false). other_apart x p es ns i (suc j) c (omega arith) y)
  where
    go : (t : Bool) → eqb e.port p ≡ t → ((i : ℕ) → eqb e.port q ≡ false → get_or (set ns (index_back e.port es j) c) (index_back q es i) 0 ≡ get_or ns (index_back q es i) 0)
        → ((x i : ℕ) → eqb p x ≡ false → get_or (set ns (index_back p es (suc j)) c) (index_back x es i) 0 ≡ get_or ns (index_back x es i) 0)
        → get_or (set (n ∷ ns) (index_back p (e ∷ es) (suc j)) c) (index_back q (e ∷ es) b) 0 ≡ get_or (n ∷ ns) (index_back q (e ∷ es) b) 0
    go true t s r = let o : eqb e.port q ≡ false = rw (← eqb-true e.port p t) at z in rw (index_miss e es q b o, t) (s b o)
    go false t s r =
        rw (index_miss e es p (suc j) t)
        (other_at_lem q e es n ns (set ns (index_back p es (suc j)) c) (λ x i y w. r e.port i (eqb_turned e.port p t)) (λ i. r q i z) b)

same_set_if : (t : Bool) (p : ℕ) (es : List Seen) (ns : List ℕ) (b j c : ℕ) → length ns ≡ length es → (t ≡ true → b < j) → get_or (set_if t (index_back p es j) c ns) (index_back p es b) 0 ≡ get_or ns (index_back p es b) 0
same_set_if true p es ns b j c k h = same_apart p es ns b j c k (h refl)
same_set_if false p es ns b j c k h = refl

other_set_if : (t : Bool) (q p : ℕ) (es : List Seen) (ns : List ℕ) (b j c : ℕ) → length ns ≡ length es → eqb p q ≡ false → get_or (set_if t (index_back p es j) c ns) (index_back q es b) 0 ≡ get_or ns (index_back q es b) 0
other_set_if true q p es ns b j c k z = other_apart q p es ns b j c k z
other_set_if false q p es ns b j c k z = refl

-- One count set: a note more, if the line had its own count.

restored_false : (n : ℕ) → restored_length false n ≡ 0
unfolding restored_length
restored_false n = refl

sum_one : (e : Seen) (n c s : ℕ) → n ≡ e.old → (c ≡ e.old → ⊥) → s + restored_length (not (eqb e.old c)) e.number ≡ s + restored_length (not (eqb e.old n)) e.number + restored_length true e.number
sum_one e n c s u z =
    let a : eqb e.old n ≡ true = eq-eqb e.old n (sym u) in
    let b : eqb e.old c ≡ false = ne_eqb e.old c (λ (y : e.old ≡ c). z (sym y)) in
    let w = restored_false e.number in
    rw (a, b) (omega arith)

sum_set : (p : ℕ) (es : List Seen) (ns : List ℕ) (b c : ℕ) → length ns ≡ length es → Altered p es b c → get_or ns (index_back p es b) 0 ≡ back old_key p es b
    → restored_sum es (set ns (index_back p es b) c) ≡ restored_sum es ns + restored_length true (back number_key p es b)
sum_set p [] ns b c k a u = absurd (not-suc-le-zero a.there)
sum_set p (e ∷ es) [] b c k a u = absurd (omega arith)
sum_set p (e ∷ es) (n ∷ ns) zero c k a u = go (eqb e.port p) refl (λ (x : Altered p es zero c) (y : get_or ns (index_back p es zero) 0 ≡ back old_key p es zero). sum_set p es ns zero c (omega arith) x y)
  where
    go : (t : Bool) → eqb e.port p ≡ t → (Altered p es zero c → get_or ns (index_back p es zero) 0 ≡ back old_key p es zero → restored_sum es (set ns (index_back p es zero) c) ≡ restored_sum es ns + restored_length true (back number_key p es zero))
        → restored_sum (e ∷ es) (set (n ∷ ns) (index_back p (e ∷ es) zero) c) ≡ restored_sum (e ∷ es) (n ∷ ns) + restored_length true (back number_key p (e ∷ es) zero)
    go true t r = rw t (sum_one e n c (restored_sum es ns) (rw t at u) (altered_old p e es c t a))
    go false t r = rw t (let z = r (altered_zero p e es c t a) (rw t at u) in omega arith)
sum_set p (e ∷ es) (n ∷ ns) (suc b) c k a u =
    go (eqb e.port p) refl (λ (x : Altered e.port es b c) (y : get_or ns (index_back e.port es b) 0 ≡ back old_key e.port es b). sum_set e.port es ns b c (omega arith) x y)
    (λ (x : Altered p es (suc b) c) (y : get_or ns (index_back p es (suc b)) 0 ≡ back old_key p es (suc b)). sum_set p es ns (suc b) c (omega arith) x y)
  where
    go : (t : Bool) → eqb e.port p ≡ t
        → (Altered e.port es b c → get_or ns (index_back e.port es b) 0 ≡ back old_key e.port es b → restored_sum es (set ns (index_back e.port es b) c) ≡ restored_sum es ns + restored_length true (back number_key e.port es b))
        → (Altered p es (suc b) c → get_or ns (index_back p es (suc b)) 0 ≡ back old_key p es (suc b) → restored_sum es (set ns (index_back p es (suc b)) c) ≡ restored_sum es ns + restored_length true (back number_key p es (suc b)))
        → restored_sum (e ∷ es) (set (n ∷ ns) (index_back p (e ∷ es) (suc b)) c) ≡ restored_sum (e ∷ es) (n ∷ ns) + restored_length true (back number_key p (e ∷ es) (suc b))
    go true t r q = rw t (let z = r (altered_here p e es b c t a) (rw t at u) in omega arith)
    go false t r q = rw t (let z = q (altered_suc p e es b c t a) (rw t at u) in omega arith)

sum_set_if : (t : Bool) (p : ℕ) (es : List Seen) (ns : List ℕ) (b c key : ℕ) → length ns ≡ length es → key ≡ back number_key p es b → (t ≡ true → Altered p es b c) → (t ≡ true → get_or ns (index_back p es b) 0 ≡ back old_key p es b)
    → restored_sum es (set_if t (index_back p es b) c ns) ≡ restored_sum es ns + restored_length t key
sum_set_if true p es ns b c key k e a u = rw e (sum_set p es ns b c k (a refl) (u refl))
sum_set_if false p es ns b c key k e a u = let w = restored_false key in omega arith

-- Lines that are pending have their own counts.

abbrev Untouched : Bool → List Seen → List ℕ → Type 0
Untouched has es ns = (q b : ℕ) → b < (follow_in has q es).pending → get_or ns (index_back q es b) 0 ≡ back old_key q es b

on_pending : (f : Follow) (c : ℕ) → (fed f c).pending ≤ f.pending + 1
unfolding fed
on_pending f c =
    let o = less_place c f.place in
    cond_by (λ (g : Follow). g.pending ≤ f.pending + 1) f.begun
    (cond (eqb o f.v) (going f f.v 0 o) (cond (ltb f.pending 3) (going f f.v (f.pending + 1) o) (going f f.first (afresh f o) o)))
    (going f o 0 o)
    (λ b. cond_by (λ (g : Follow). g.pending ≤ f.pending + 1) (eqb o f.v) (going f f.v 0 o) (cond (ltb f.pending 3) (going f f.v (f.pending + 1) o) (going f f.first (afresh f o) o))
    (λ h. omega arith)
    (λ h. cond_by (λ (g : Follow). g.pending ≤ f.pending + 1) (ltb f.pending 3) (going f f.v (f.pending + 1) o) (going f f.first (afresh f o) o)
    (λ l. omega arith)
    (λ l. let m = ltb-false f.pending 3 l in let a = afresh_most f o in omega arith)))
    (λ b. omega arith)

fed_pending : (has : Bool) (f : Follow) (c : ℕ) → (fed_if has f c).pending ≤ f.pending + 1
fed_pending true f c = on_pending f c
fed_pending false f c = omega arith

module _ (has : Bool) (p : ℕ) (l : Line) (n c : ℕ) (es : List Seen) (ns : List ℕ) (k : length ns ≡ length es) (u : Untouched has es ns) where
  abbrev f : Follow
  f = follow_in has p es

  abbrev g : Follow
  g = fed_if has f c

  abbrev ns₁ : List ℕ
  ns₁ = set_if (restores_first f g) (index_back p es 2) (count_back f g.v 3) ns

  abbrev ns₂ : List ℕ
  ns₂ = set_if (restores_second f g) (index_back p es 1) (count_back f g.v 2) ns₁

  k₁ : length ns₁ ≡ length es
  k₁ = length_set_if (restores_first f g) (index_back p es 2) (count_back f g.v 3) ns ∙ k

  k₂ : length ns₂ ≡ length es
  k₂ = length_set_if (restores_second f g) (index_back p es 1) (count_back f g.v 2) ns₁ ∙ k₁

  small : g.v < 16
  small = fed_small has p l n c es

  third_said : restores_third f g ≡ true → (1 ≤ f.pending) × (g.pending ≤ 1) × (eqb f.third g.v ≡ false)
  unfolding restores_third
  third_said t = restores_said f g 1 f.third t

  second_said : restores_second f g ≡ true → (2 ≤ f.pending) × (g.pending ≤ 2) × (eqb f.second g.v ≡ false)
  unfolding restores_second
  second_said t = restores_said f g 2 f.second t

  first_said : restores_first f g ≡ true → (3 ≤ f.pending) × (g.pending ≤ 3) × (eqb f.first g.v ≡ false)
  unfolding restores_first
  first_said t = restores_said f g 3 f.first t

  sum_restored : restored_sum es (restored_news p f g es ns) ≡ restored_sum es ns + restored_lengths f g (keys_in number_key p es)
  unfolding restored_lengths
  sum_restored =
      let key = keyed number_key p es in
      let kn = known has p es in
      let first = sum_set_if (restores_first f g) p es ns 2 (count_back f g.v 3) (keys_in number_key p es).first k key.first_is (altered_first p es f g kn small)
      (λ (t : restores_first f g ≡ true). let s = (first_said t).0 in u p 2 (omega arith)) in
      let second = sum_set_if (restores_second f g) p es ns₁ 1 (count_back f g.v 2) (keys_in number_key p es).second k₁ key.second_is (altered_second p es f g kn small)
      (λ (t : restores_second f g ≡ true). let s = (second_said t).0 in
      same_set_if (restores_first f g) p es ns 1 2 (count_back f g.v 3) k (λ x. omega arith) ∙ u p 1 (omega arith)) in
      let third = sum_set_if (restores_third f g) p es ns₂ 0 (count_back f g.v 1) (keys_in number_key p es).third k₂ key.third_is (altered_third p es f g kn small)
      (λ (t : restores_third f g ≡ true). let s = (third_said t).0 in
      same_set_if (restores_second f g) p es ns₁ 0 1 (count_back f g.v 2) k₁ (λ x. omega arith)
      ∙ (same_set_if (restores_first f g) p es ns 0 2 (count_back f g.v 3) k (λ x. omega arith) ∙ u p 0 (omega arith))) in
      omega arith

  -- of the port itself, a line that stays pending
  own_kept : (b : ℕ) → suc b < g.pending → get_or (restored_news p f g es ns) (index_back p es b) 0 ≡ back old_key p es b
  own_kept b h =
      let m = fed_pending has f c in
      same_set_if (restores_third f g) p es ns₂ b 0 (count_back f g.v 1) k₂ (λ (t : restores_third f g ≡ true). let s = (third_said t).1 in omega arith)
      ∙ (same_set_if (restores_second f g) p es ns₁ b 1 (count_back f g.v 2) k₁ (λ (t : restores_second f g ≡ true). let s = (second_said t).1 in omega arith)
      ∙ (same_set_if (restores_first f g) p es ns b 2 (count_back f g.v 3) k (λ (t : restores_first f g ≡ true). let s = (first_said t).1 in omega arith)
      ∙ u p b (omega arith)))

  other_kept : (q b : ℕ) → eqb p q ≡ false → b < (follow_in has q es).pending → get_or (restored_news p f g es ns) (index_back q es b) 0 ≡ back old_key q es b
  other_kept q b z h =
      other_set_if (restores_third f g) q p es ns₂ b 0 (count_back f g.v 1) k₂ z
      ∙ (other_set_if (restores_second f g) q p es ns₁ b 1 (count_back f g.v 2) k₁ z ∙ (other_set_if (restores_first f g) q p es ns b 2 (count_back f g.v 3) k z ∙ u q b h))

  abbrev e : Seen
  e = record { port = p; line = l; old = c; number = n }

  untouched_frame : Untouched has (e ∷ es) (c ∷ restored_news p f g es ns)
  untouched_frame q b h = go (eqb p q) refl b h
    where
      go : (t : Bool) → eqb p q ≡ t → (b : ℕ) → b < (follow_in has q (e ∷ es)).pending → get_or (c ∷ restored_news p f g es ns) (index_back q (e ∷ es) b) 0 ≡ back old_key q (e ∷ es) b
      go true t zero h = rw t refl
      go true t (suc b) h = rw t (own_kept b (rw t at h))
      go false t b h = rw (index_miss e es q b t, back_miss old_key e es q b t) (other_kept q b t (rw t at h))

-- What the lines bring.

abbrev count_seen : Bool → ℕ → List Seen → Count
count_seen has n es = record { follows = λ p. follow_in has p es; keys = λ p. keys_in number_key p es; number = n }

abbrev dropped_by : ℕ → Line → Record → ℕ
dropped_by n l (Frame p h4 flag place next) = 0
dropped_by n l (Malformed next) = dropped_length n (length l.bytes)
dropped_by n l Long = dropped_length n (length l.bytes)
dropped_by n l Unfinished = dropped_length n (length l.bytes)
dropped_by n l End = dropped_length n (length l.bytes)

untouched_by : (has : Bool) (size n : ℕ) (es : List Seen) (ns : List ℕ) (l : Line) (r : Record) → Good size es ns → Untouched has es ns → Untouched has (seen_by n es l r) (news_by has es ns r)
untouched_by has size n es ns l (Frame p h4 flag place next) g u = untouched_frame has p l n (h4 % 16) es ns g.long u
untouched_by has size n es ns l (Malformed next) g u = u
untouched_by has size n es ns l Long g u = u
untouched_by has size n es ns l Unfinished g u = u
untouched_by has size n es ns l End g u = u

count_by_lem : (has : Bool) (n : ℕ) (es : List Seen) (l : Line) (r : Record) → count_with has (count_seen has n es) r ≡ count_seen has (suc n) (seen_by n es l r)
count_by_lem has n es l (Frame p h4 flag place next) = refl
count_by_lem has n es l (Malformed next) = refl
count_by_lem has n es l Long = refl
count_by_lem has n es l Unfinished = refl
count_by_lem has n es l End = refl

sum_by : (has : Bool) (size n : ℕ) (es : List Seen) (ns : List ℕ) (l : Line) (r : Record) → Good size es ns → Untouched has es ns
    → length_by has (count_seen has n es) l r + restored_sum es ns ≡ restored_sum (seen_by n es l r) (news_by has es ns r) + dropped_by n l r
sum_by has size n es ns l (Frame p h4 flag place next) g u =
    let a = sum_restored has p l n (h4 % 16) es ns g.long u in
    let w = restored_false n in
    rw (eq-eqb (h4 % 16) (h4 % 16) refl) (omega arith)
sum_by has size n es ns l (Malformed next) g u = omega arith
sum_by has size n es ns l Long g u = omega arith
sum_by has size n es ns l Unfinished g u = omega arith
sum_by has size n es ns l End g u = omega arith

-- and what is restored at the end

ended_apart : (has : Bool) (m q : ℕ) (es : List Seen) (ns : List ℕ) (b : ℕ) → length ns ≡ length es → m ≤ q → get_or (ended_news has m es ns) (index_back q es b) 0 ≡ get_or ns (index_back q es b) 0
ended_apart has zero q es ns b k h = refl
ended_apart has (suc m) q es ns b k h =
    other_set_if (restores_last (follow_in has m es)) q m es (ended_news has m es ns) b 1 (count_back (follow_in has m es) (follow_in has m es).first 2) (ended_length has m es ns ∙ k) (ne_eqb m q (λ (e : m ≡ q). omega arith))
    ∙ ended_apart has m q es ns b k (omega arith)

last_pending : (f : Follow) → restores_last f ≡ true → 3 ≤ f.pending
unfolding restores_last
last_pending f t = leb-true 3 f.pending (and_left (leb 3 f.pending) (eqb f.third f.first) (and_left (leb 3 f.pending && eqb f.third f.first) (not (eqb f.second f.first)) t))

sum_ended : (has : Bool) (m n : ℕ) (es : List Seen) (ns : List ℕ) → length ns ≡ length es → Untouched has es ns → restored_sum es (ended_news has m es ns) ≡ restored_sum es ns + length_end m (count_seen has n es)
sum_ended has zero n es ns k u = omega arith
sum_ended has (suc m) n es ns k u =
    let a = sum_ended has m n es ns k u in
    let b = sum_set_if (restores_last (follow_in has m es)) m es (ended_news has m es ns) 1 (count_back (follow_in has m es) (follow_in has m es).first 2) (keys_in number_key m es).second (ended_length has m es ns ∙ k)
    (keyed number_key m es).second_is (altered_last m es (follow_in has m es) (known has m es))
    (λ (t : restores_last (follow_in has m es) ≡ true). let s = last_pending (follow_in has m es) t in ended_apart has m m es ns 1 k (omega arith) ∙ u m 1 (omega arith)) in
    omega arith

last_sum : (x s r : ℕ) → r ≡ s + x → x + s ≡ r + 0
last_sum x s r h = omega arith

whole_sum : (n r s d l m : ℕ) → n + 0 ≡ r + d → s + d ≡ 0 + l → s ≡ r → l ≡ m → n ≡ m
whole_sum n r s d l m a b c e = omega arith

adding : (x s t d n r e : ℕ) → x + s ≡ t + d → n + t ≡ r + e → x + n + s ≡ r + (d + e)
adding x s t d n r e h k = omega arith

module _ (ports size : ℕ) where
  abbrev dropped_sum : ℕ → List Line → ℕ
  dropped_sum n [] = 0
  dropped_sum n (l ∷ ls) = dropped_by n l (record_of ports size l) + dropped_sum (suc n) ls

  sum_from : (has : Bool) (n : ℕ) (es : List Seen) (ns : List ℕ) (ls : List Line) → ports ≤ 64 → Good size es ns → Untouched has es ns
      → notes_length has ports size (count_seen has n es) ls + restored_sum es ns ≡ restored_sum (seen_from ports size n es ls) (ended_news has 64 (seen_from ports size n es ls) (news_from has ports size n es ns ls)) + dropped_sum n ls
  sum_from has n es ns [] few g u = last_sum (length_end 64 (count_seen has n es)) (restored_sum es ns) (restored_sum es (ended_news has 64 es ns)) (sum_ended has 64 n es ns g.long u)
  sum_from has n es ns (l ∷ ls) few g u =
      let r = record_of ports size l in
      let a = sum_by has size n es ns l r g u in
      let b = sum_from has (suc n) (seen_by n es l r) (news_by has es ns r) ls few (good_by has ports size n es ns l r few refl g) (untouched_by has size n es ns l r g u) in
      rw (count_by_lem has n es l r) (adding (length_by has (count_seen has n es) l r) (restored_sum es ns) (restored_sum (seen_by n es l r) (news_by has es ns r)) (dropped_by n l r) _ _ _ a b)

-- The notes of the definitions.

pub note_length : (n : ℕ) (field old new : List ℕ) → length (note_text n field old new) ≡ length (number_text n) + length field + length old + length new + 4
note_length n field old new =
    let a = length-append (number_text n) (TAB ∷ []) in
    let b = length-append field (TAB ∷ []) in
    let c = length-append old (TAB ∷ []) in
    let d = length-append new (LINE-END ∷ []) in
    let x = length-append (ended (number_text n) TAB) (ended field TAB) in
    let y = length-append (ended (number_text n) TAB ++ ended field TAB) (ended old TAB) in
    let z = length-append (ended (number_text n) TAB ++ ended field TAB ++ ended old TAB) (ended new LINE-END) in
    omega arith

dropped_length_lem : (n : ℕ) (bytes : List ℕ) → length (note_text n (ascii "line") bytes []) ≡ dropped_length n (length bytes)
unfolding dropped_length
dropped_length_lem n bytes = let a = note_length n (ascii "line") bytes [] in let b = note_length n (ascii "line") [] [] in omega arith

restored_length_lem : (size n : ℕ) (l : Line) (a b : ℕ) → length (note_text n (ascii "H4") (h4_with size l a) (h4_with size l b)) ≡ restored_length true n
unfolding restored_length
restored_length_lem size n l a b =
    note_length n (ascii "H4") (h4_with size l a) (h4_with size l b) ∙ sym (note_length n (ascii "H4") (0 ∷ 0 ∷ []) (0 ∷ 0 ∷ []))

fate_length : (size n : ℕ) (l : Line) (old m : ℕ) → length (note_by size n l (fate_to size l old m)) ≡ restored_length (not (eqb old m)) n
fate_length size n l old m = go (eqb old m)
  where
    go : (t : Bool) → length (note_by size n l (cond t F.Kept (F.Restored (digit_in size l) (capital m)))) ≡ restored_length (not t) n
    go true = sym (restored_false n)
    go false = restored_length_lem size n l (digit_in size l) (capital m)

drop_one : (n : ℕ) (l : Line) (s : ℕ) (notes : List ℕ) (r d : ℕ) → r + d ≡ s + length notes → r + (dropped_length n (length l.bytes) + d) ≡ s + length (note_text n (ascii "line") l.bytes [] ++ notes)
drop_one n l s notes r d h = let a = dropped_length_lem n l.bytes in let b = length-append (note_text n (ascii "line") l.bytes []) notes in omega arith

module _ (ports size : ℕ) where
  left_notes : (n : ℕ) (es : List Seen) (ns : List ℕ) (ls : List Line) (ms : List ℕ) → frames_in ports size ls ≡ length ms
      → restored_sum (seen_from ports size n es ls) (onto ms ns) + dropped_sum ports size n ls ≡ restored_sum es ns + length (notes_from size n (judged_by ports size (left ports size ls ms) ls))
  left_notes n es ns [] [] h = refl
  left_notes n es ns [] (m ∷ ms) h = absurd (omega arith)
  left_notes n es ns (l ∷ ls) ms h = go (record_of ports size l) ms h (λ es ns ms k. left_notes (suc n) es ns ls ms k)
    where
      go : (r : Record) (ms : List ℕ) → frames_by r (frames_in ports size ls) ≡ length ms
          → ((es : List Seen) (ns ms : List ℕ) → frames_in ports size ls ≡ length ms
          → restored_sum (seen_from ports size (suc n) es ls) (onto ms ns) + dropped_sum ports size (suc n) ls ≡ restored_sum es ns + length (notes_from size (suc n) (judged_by ports size (left ports size ls ms) ls)))
          → restored_sum (seen_from ports size (suc n) (seen_by n es l r) ls) (onto ms ns) + (dropped_by n l r + dropped_sum ports size (suc n) ls)
          ≡ restored_sum es ns + length (note_by size n l (fate_by size (λ q. left_in r ms (λ rest. left ports size ls rest q) q) l r) ++ notes_from size (suc n) (judged_by ports size (left_by (λ q. left_in r ms (λ rest. left ports size ls rest q) q) r) ls))
      go (Frame p h4 flag place next) [] h rest = absurd (omega arith)
      go (Frame p h4 flag place next) (m ∷ ms) h rest =
          let e : Seen = record { port = p; line = l; old = h4 % 16; number = n } in
          let a = rest (e ∷ es) (m ∷ ns) ms (omega arith) in
          let b = fate_length size n l (h4 % 16) m in
          let c = length-append (note_by size n l (fate_to size l (h4 % 16) m)) (notes_from size (suc n) (judged_by ports size (left ports size ls ms) ls)) in
          rw (eq-eqb p p refl, left_behind ports size p m (left ports size ls ms)) (omega arith)
      go (Malformed next) ms h rest = let a = rest es ns ms h in drop_one n l (restored_sum es ns) (notes_from size (suc n) (judged_by ports size (left ports size ls ms) ls)) (restored_sum (seen_from ports size (suc n) es ls) (onto ms ns)) (dropped_sum ports size (suc n) ls) a
      go Long ms h rest = let a = rest es ns ms h in drop_one n l (restored_sum es ns) (notes_from size (suc n) (judged_by ports size (left ports size ls ms) ls)) (restored_sum (seen_from ports size (suc n) es ls) (onto ms ns)) (dropped_sum ports size (suc n) ls) a
      go Unfinished ms h rest = let a = rest es ns ms h in drop_one n l (restored_sum es ns) (notes_from size (suc n) (judged_by ports size (left ports size ls ms) ls)) (restored_sum (seen_from ports size (suc n) es ls) (onto ms ns)) (dropped_sum ports size (suc n) ls) a
      go End ms h rest = let a = rest es ns ms h in drop_one n l (restored_sum es ns) (notes_from size (suc n) (judged_by ports size (left ports size ls ms) ls)) (restored_sum (seen_from ports size (suc n) es ls) (onto ms ns)) (dropped_sum ports size (suc n) ls) a

-- All lines.

pub notes_length_is : (has : Bool) (ports size : ℕ) (ls : List Line) → ports ≤ 64 → notes_length has ports size count_start ls ≡ length (notes_from size 2 (judged has ports size ls))
notes_length_is has ports size ls few =
    let a = sum_from ports size has 2 [] [] ls few (record { long = refl; sound = tt }) (λ q b h. absurd (not-suc-le-zero h)) in
    let b = left_notes ports size 2 [] [] ls (in_order has ports size ls few) (enough has ports size ls few) in
    let c : restored_sum (seen_from ports size 2 [] ls) (onto (in_order has ports size ls few) []) ≡ restored_sum (seen_from ports size 2 [] ls) (ended_news has 64 (seen_from ports size 2 [] ls) (news_from has ports size 2 [] [] ls)) =
    ap (restored_sum (seen_from ports size 2 [] ls)) (in_order_lem has ports size ls few) in
    let d : length (notes_from size 2 (judged_by ports size (left ports size ls (in_order has ports size ls few)) ls)) ≡ length (notes_from size 2 (judged has ports size ls)) =
    ap (λ (js : List Judged). length (notes_from size 2 js)) (judged_is has ports size ls few) in
    whole_sum (notes_length has ports size count_start ls) _ (restored_sum (seen_from ports size 2 [] ls) (onto (in_order has ports size ls few) [])) (dropped_sum ports size 2 ls) _ _ a b c d

-- What comes out is as long as the lines that are kept.

out_length : (size : ℕ) (l : Line) (old m : ℕ) (rest : List Line) → length (text_of (out_by size l (fate_to size l old m) ++ rest)) ≡ length (line_text l) + length (text_of rest)
out_length size l old m rest = go (eqb old m)
  where
    go : (t : Bool) → length (text_of (out_by size l (cond t F.Kept (F.Restored (digit_in size l) (capital m))) ++ rest)) ≡ length (line_text l) + length (text_of rest)
    go true = length-append (line_text l) (text_of rest)
    go false =
        let a = length-append (line_text (with_digit size l (capital m))) (text_of rest) in
        let b = length-append (set l.bytes (digit_place size l) (capital m)) l.end in
        let c = length-set l.bytes (digit_place size l) (capital m) in
        let d = length-append l.bytes l.end in
        omega arith

kept_by_lem : (ports size : ℕ) (l : Line) (r : Record) (lf : ℕ → List ℕ) (ls : List Line) → length (text_of (mended_lines size (judged_by ports size (left_by lf r) ls))) ≡ kept_length ports size ls
    → length (text_of (out_by size l (fate_by size lf l r) ++ mended_lines size (judged_by ports size (left_by lf r) ls))) ≡ kept_by l r + kept_length ports size ls
kept_by_lem ports size l (Frame p h4 flag place next) lf ls h = out_length size l (h4 % 16) (get_or (lf p) 0 0) (mended_lines size (judged_by ports size (left_by lf (Frame p h4 flag place next)) ls)) ∙ ap (λ (n : ℕ). length (line_text l) + n) h
kept_by_lem ports size l (Malformed next) lf ls h = h ∙ (omega arith)
kept_by_lem ports size l Long lf ls h = h ∙ (omega arith)
kept_by_lem ports size l Unfinished lf ls h = h ∙ (omega arith)
kept_by_lem ports size l End lf ls h = h ∙ (omega arith)

kept_from : (ports size : ℕ) (lf : ℕ → List ℕ) (ls : List Line) → length (text_of (mended_lines size (judged_by ports size lf ls))) ≡ kept_length ports size ls
kept_from ports size lf [] = refl
kept_from ports size lf (l ∷ ls) = kept_by_lem ports size l (record_of ports size l) lf ls (kept_from ports size (left_by lf (record_of ports size l)) ls)

pub kept_length_is : (has : Bool) (ports size : ℕ) (ls : List Line) → length (text_of (mended_lines size (judged has ports size ls))) ≡ kept_length ports size ls
unfolding judged
kept_length_is has ports size ls = kept_from ports size (λ q. followed_if has (counts_of ports size q ls)) ls
