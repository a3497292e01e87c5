-- Counts restored: a byte set in what is written is a count set among the lines that were seen, and so it goes on in the counts of its port.
use Rattle.std.specs.Prelude.{◌≡◌, refl, Bool, true, false, cond, ℕ, zero, suc, ◌+◌, ◌-◌, ◌≤◌, ◌<◌, eqb, length, set}
use Rattle.std.proofs.Common.{sym, ◌∙◌, ⊎_elim, le_of_suc-le-suc, not-suc-le-zero, arith, length-append, length-set, set-set, eqb-true, ne_eqb}
use Rattle.std.proofs.Math.Path.{ap}
use mathlib.Core.List.{List, [], ◌∷◌, ◌++◌}
use Rattle.std.proofs.lemmas.List.{set-append_left, set_at}
use Rattle.std.proofs.lemmas.Bool.{eqb-false}
use Rattle.ground.specs.Truth.{le_or_lt}
use Rattle.mending.specs.declared.follow.Follow.{Follow}
use Rattle.mending.specs.Follow.{count_back, finished, restored_back, restores_first, restores_last, restores_second, restores_third, set_back}
use Rattle.mending.specs.Laws.Sweeps.{restored_in, set_if}
use Rattle.mending.specs.Laws.Seen.{Altered, Seen, altered_first, altered_last, altered_second, altered_third, back, follow_in, index_back, keyed, keys_in, known, many_in, old_key}
use Rattle.mending.specs.Lines.{Line, capital, digit_place, line_text, with_digit}

set_behind : (xs ys : List ℕ) (i a : ℕ) → set (xs ++ ys) (length xs + i) a ≡ xs ++ set ys i a
set_behind [] ys i a = let e : 0 + i ≡ i = omega arith in rw e refl
set_behind (x ∷ xs) ys i a = let e : suc (length xs) + i ≡ suc (length xs + i) = omega arith in rw e (ap (λ (l : List ℕ). x ∷ l) (set_behind xs ys i a))

eqb_turned : (m n : ℕ) → eqb m n ≡ false → eqb n m ≡ false
eqb_turned m n h = ne_eqb n m (λ (e : n ≡ m). eqb-false m n h (sym e))

-- what it takes that a line that is there is altered, of the lines before
module _ (p : ℕ) (e : Seen) (es : List Seen) where
  pub altered_here : (b c : ℕ) → eqb e.port p ≡ true → Altered p (e ∷ es) (suc b) c → Altered e.port es b c
  altered_here b c t a = record { there = le_of_suc-le-suc (rw t at a.there); other = λ (z : c ≡ back old_key e.port es b). a.other (rw t z) }

  pub altered_zero : (c : ℕ) → eqb e.port p ≡ false → Altered p (e ∷ es) zero c → Altered p es zero c
  altered_zero c t a = record { there = rw t at a.there; other = λ (z : c ≡ back old_key p es zero). a.other (rw t z) }

  pub altered_suc : (b c : ℕ) → eqb e.port p ≡ false → Altered p (e ∷ es) (suc b) c → Altered p es (suc b) c
  altered_suc b c t a = record { there = rw t at a.there; other = λ (z : c ≡ back old_key p es (suc b)). a.other (rw t z) }

  pub altered_old : (c : ℕ) → eqb e.port p ≡ true → Altered p (e ∷ es) zero c → c ≡ e.old → ⊥
  altered_old c t a z = a.other (rw t z)

-- The text of the lines seen, behind a base, by their counts.

module _ (size : ℕ) where
  abbrev pub line_now : Seen → ℕ → Line
  line_now e n = cond (eqb e.old n) e.line (with_digit size e.line (capital n))

  -- each is a frame's, of a port that there is
  abbrev pub Sound : List Seen → Type 0
  Sound [] = Unit {0}
  Sound (e ∷ es) = (e.port < 64) × (digit_place size e.line < length e.line.bytes) × Sound es

  pub now_length : (e : Seen) (n : ℕ) → length (line_text (line_now e n)) ≡ length (line_text e.line)
  now_length e n = go (eqb e.old n)
    where
      go : (t : Bool) → length (line_text (cond t e.line (with_digit size e.line (capital n)))) ≡ length (line_text e.line)
      go true = refl
      go false =
          let a = length-append (set e.line.bytes (digit_place size e.line) (capital n)) e.line.end in
          let b = length-set e.line.bytes (digit_place size e.line) (capital n) in
          let c = length-append e.line.bytes e.line.end in
          omega arith

  now_set : (e : Seen) (n c : ℕ) → digit_place size e.line < length e.line.bytes → (c ≡ e.old → ⊥) → set (line_text (line_now e n)) (digit_place size e.line) (capital c) ≡ line_text (line_now e c)
  now_set e n c h z = rw (ne_eqb e.old c (λ (y : e.old ≡ c). z (sym y))) (go (eqb e.old n))
    where
      go : (t : Bool) → set (line_text (cond t e.line (with_digit size e.line (capital n)))) (digit_place size e.line) (capital c) ≡ set e.line.bytes (digit_place size e.line) (capital c) ++ e.line.end
      go true = set-append_left e.line.bytes e.line.end (digit_place size e.line) (capital c) h
      go false =
          set-append_left (set e.line.bytes (digit_place size e.line) (capital n)) e.line.end (digit_place size e.line) (capital c)
          (let w = length-set e.line.bytes (digit_place size e.line) (capital n) in omega arith)
          ∙ ap (λ (l : List ℕ). l ++ e.line.end) (set-set e.line.bytes (digit_place size e.line) (capital n) (capital c))

module _ (size : ℕ) (base : List ℕ) where
  abbrev pub length_in : List Seen → ℕ
  length_in [] = length base
  length_in (e ∷ es) = length_in es + length (line_text e.line)

  abbrev pub place_key : List Seen → Seen → ℕ
  place_key es e = length_in es + digit_place size e.line

  abbrev pub text_in : List Seen → List ℕ → List ℕ
  text_in [] ns = base
  text_in (e ∷ es) [] = base
  text_in (e ∷ es) (n ∷ ns) = text_in es ns ++ line_text (line_now size e n)

  pub text_length : (es : List Seen) (ns : List ℕ) → length ns ≡ length es → length (text_in es ns) ≡ length_in es
  text_length [] ns h = refl
  text_length (e ∷ es) [] h = absurd (omega arith)
  text_length (e ∷ es) (n ∷ ns) h =
      let a = length-append (text_in es ns) (line_text (line_now size e n)) in
      let b = text_length es ns (omega arith) in
      let c = now_length size e n in
      omega arith

  place_in : (p : ℕ) (es : List Seen) (b : ℕ) → Sound size es → b < many_in p es → back place_key p es b < length_in es
  place_in p [] b s h = absurd (not-suc-le-zero h)
  place_in p (e ∷ es) zero s h = go (eqb e.port p) refl (place_in p es zero s.2)
    where
      go : (t : Bool) → eqb e.port p ≡ t → (0 < many_in p es → back place_key p es 0 < length_in es) → back place_key p (e ∷ es) 0 < length_in (e ∷ es)
      go true t r = rw t (let a = s.1 in let w = length-append e.line.bytes e.line.end in omega arith)
      go false t r = rw t (let a = r (rw t at h) in omega arith)
  place_in p (e ∷ es) (suc b) s h = go (eqb e.port p) refl (place_in e.port es b s.2) (place_in p es (suc b) s.2)
    where
      go : (t : Bool) → eqb e.port p ≡ t → (b < many_in e.port es → back place_key e.port es b < length_in es) → (suc b < many_in p es → back place_key p es (suc b) < length_in es)
          → back place_key p (e ∷ es) (suc b) < length_in (e ∷ es)
      go true t r q = rw t (let a = r (le_of_suc-le-suc (rw t at h)) in omega arith)
      go false t r q = rw t (let a = q (rw t at h) in omega arith)

  -- a byte before the last line
  set_before : (e : Seen) (es : List Seen) (n : ℕ) (ns ms : List ℕ) (k v : ℕ) → k < length (text_in es ns) → text_in es ms ≡ set (text_in es ns) k v
      → text_in es ms ++ line_text (line_now size e n) ≡ set (text_in es ns ++ line_text (line_now size e n)) k v
  set_before e es n ns ms k v h r = ap (λ (l : List ℕ). l ++ line_text (line_now size e n)) r ∙ sym (set-append_left (text_in es ns) (line_text (line_now size e n)) k v h)

  pub text_set : (p : ℕ) (es : List Seen) (ns : List ℕ) (b c : ℕ) → length ns ≡ length es → Sound size es → Altered p es b c
      → text_in es (set ns (index_back p es b) c) ≡ set (text_in es ns) (back place_key p es b) (capital c)
  text_set p [] ns b c h s a = absurd (not-suc-le-zero a.there)
  text_set p (e ∷ es) [] b c h s a = absurd (omega arith)
  text_set p (e ∷ es) (n ∷ ns) zero c h s a = go (eqb e.port p) refl (λ (x : Altered p es zero c). text_set p es ns zero c (omega arith) s.2 x)
    where
      l : length (text_in es ns) ≡ length_in es
      l = text_length es ns (omega arith)

      go : (t : Bool) → eqb e.port p ≡ t → (Altered p es zero c → text_in es (set ns (index_back p es zero) c) ≡ set (text_in es ns) (back place_key p es zero) (capital c))
          → text_in (e ∷ es) (set (n ∷ ns) (index_back p (e ∷ es) zero) c) ≡ set (text_in (e ∷ es) (n ∷ ns)) (back place_key p (e ∷ es) zero) (capital c)
      go true t r =
          rw (t, ← l)
          (sym (set_behind (text_in es ns) (line_text (line_now size e n)) (digit_place size e.line) (capital c)
          ∙ ap (λ (x : List ℕ). text_in es ns ++ x) (now_set size e n c s.1 (altered_old p e es c t a))))
      go false t r =
          let x = altered_zero p e es c t a in
          rw t (set_before e es n ns (set ns (index_back p es zero) c) (back place_key p es zero) (capital c) (let w = place_in p es zero s.2 x.there in let y = l in omega arith) (r x))
  text_set p (e ∷ es) (n ∷ ns) (suc b) c h s a =
      go (eqb e.port p) refl (λ (x : Altered e.port es b c). text_set e.port es ns b c (omega arith) s.2 x) (λ (x : Altered p es (suc b) c). text_set p es ns (suc b) c (omega arith) s.2 x)
    where
      l : length (text_in es ns) ≡ length_in es
      l = text_length es ns (omega arith)

      go : (t : Bool) → eqb e.port p ≡ t → (Altered e.port es b c → text_in es (set ns (index_back e.port es b) c) ≡ set (text_in es ns) (back place_key e.port es b) (capital c))
          → (Altered p es (suc b) c → text_in es (set ns (index_back p es (suc b)) c) ≡ set (text_in es ns) (back place_key p es (suc b)) (capital c))
          → text_in (e ∷ es) (set (n ∷ ns) (index_back p (e ∷ es) (suc b)) c) ≡ set (text_in (e ∷ es) (n ∷ ns)) (back place_key p (e ∷ es) (suc b)) (capital c)
      go true t r q =
          let x = altered_here p e es b c t a in
          rw t (set_before e es n ns (set ns (index_back e.port es b) c) (back place_key e.port es b) (capital c) (let w = place_in e.port es b s.2 x.there in let y = l in omega arith) (r x))
      go false t r q =
          let x = altered_suc p e es b c t a in
          rw t (set_before e es n ns (set ns (index_back p es (suc b)) c) (back place_key p es (suc b)) (capital c) (let w = place_in p es (suc b) s.2 x.there in let y = l in omega arith) (q x))

  pub text_set_if : (t : Bool) (p : ℕ) (es : List Seen) (ns : List ℕ) (b c key : ℕ) → length ns ≡ length es → Sound size es → key ≡ back place_key p es b → (t ≡ true → Altered p es b c)
      → set_if t key (capital c) (text_in es ns) ≡ text_in es (set_if t (index_back p es b) c ns)
  text_set_if true p es ns b c key h s k a = rw k (sym (text_set p es ns b c h s (a refl)))
  text_set_if false p es ns b c key h s k a = refl

-- The counts of a port.

abbrev pub counts_in : ℕ → List Seen → List ℕ → List ℕ
counts_in p [] ns = []
counts_in p (e ∷ es) [] = []
counts_in p (e ∷ es) (n ∷ ns) = cond (eqb e.port p) (counts_in e.port es ns ++ (n ∷ [])) (counts_in p es ns)

pub counts_length : (p : ℕ) (es : List Seen) (ns : List ℕ) → length ns ≡ length es → length (counts_in p es ns) ≡ many_in p es
counts_length p [] ns h = refl
counts_length p (e ∷ es) [] h = absurd (omega arith)
counts_length p (e ∷ es) (n ∷ ns) h = go (eqb e.port p) (counts_length e.port es ns (omega arith)) (counts_length p es ns (omega arith))
  where
    go : (t : Bool) → length (counts_in e.port es ns) ≡ many_in e.port es → length (counts_in p es ns) ≡ many_in p es
        → length (cond t (counts_in e.port es ns ++ (n ∷ [])) (counts_in p es ns)) ≡ cond t (suc (many_in e.port es)) (many_in p es)
    go true r q = let w = length-append (counts_in e.port es ns) (n ∷ []) in omega arith
    go false r q = q

pub counts_set : (p : ℕ) (es : List Seen) (ns : List ℕ) (b c : ℕ) → length ns ≡ length es → b < many_in p es
    → counts_in p es (set ns (index_back p es b) c) ≡ set (counts_in p es ns) (many_in p es - suc b) c
counts_set p [] ns b c h k = absurd (not-suc-le-zero k)
counts_set p (e ∷ es) [] b c h k = absurd (omega arith)
counts_set p (e ∷ es) (n ∷ ns) zero c h k = go (eqb e.port p) refl (counts_set p es ns zero c (omega arith))
  where
    go : (t : Bool) → eqb e.port p ≡ t → (0 < many_in p es → counts_in p es (set ns (index_back p es zero) c) ≡ set (counts_in p es ns) (many_in p es - 1) c)
        → counts_in p (e ∷ es) (set (n ∷ ns) (index_back p (e ∷ es) zero) c) ≡ set (counts_in p (e ∷ es) (n ∷ ns)) (many_in p (e ∷ es) - 1) c
    go true t r =
        let w = counts_length e.port es ns (omega arith) in
        let z : suc (many_in e.port es) - 1 ≡ many_in e.port es = omega arith in
        rw (t, t, z) (sym (set_at (counts_in e.port es ns) n [] c (many_in e.port es) w))
    go false t r = rw (t, t) (r (rw t at k))
counts_set p (e ∷ es) (n ∷ ns) (suc b) c h k = go (eqb e.port p) refl (counts_set e.port es ns b c (omega arith)) (counts_set p es ns (suc b) c (omega arith))
  where
    go : (t : Bool) → eqb e.port p ≡ t → (b < many_in e.port es → counts_in e.port es (set ns (index_back e.port es b) c) ≡ set (counts_in e.port es ns) (many_in e.port es - suc b) c)
        → (suc b < many_in p es → counts_in p es (set ns (index_back p es (suc b)) c) ≡ set (counts_in p es ns) (many_in p es - suc (suc b)) c)
        → counts_in p (e ∷ es) (set (n ∷ ns) (index_back p (e ∷ es) (suc b)) c) ≡ set (counts_in p (e ∷ es) (n ∷ ns)) (many_in p (e ∷ es) - suc (suc b)) c
    go true t r q =
        let w = counts_length e.port es ns (omega arith) in
        let l : b < many_in e.port es = le_of_suc-le-suc (rw t at k) in
        let z : suc (many_in e.port es) - suc (suc b) ≡ many_in e.port es - suc b = omega arith in
        rw (t, t, z) (ap (λ (x : List ℕ). x ++ (n ∷ [])) (r l) ∙ sym (set-append_left (counts_in e.port es ns) (n ∷ []) (many_in e.port es - suc b) c (omega arith)))
    go false t r q = rw (t, t) (q (rw t at k))

-- those of another port stay
pub counts_other : (q p : ℕ) (es : List Seen) (ns : List ℕ) (b c : ℕ) → eqb p q ≡ false → counts_in q es (set ns (index_back p es b) c) ≡ counts_in q es ns
counts_other q p [] ns b c z = refl
counts_other q p (e ∷ es) [] b c z = refl
counts_other q p (e ∷ es) (n ∷ ns) zero c z = go (eqb e.port p) refl (λ (x : ℕ) (y : eqb p x ≡ false). counts_other x p es ns zero c y)
  where
    go : (t : Bool) → eqb e.port p ≡ t → ((x : ℕ) → eqb p x ≡ false → counts_in x es (set ns (index_back p es zero) c) ≡ counts_in x es ns)
        → counts_in q (e ∷ es) (set (n ∷ ns) (index_back p (e ∷ es) zero) c) ≡ counts_in q (e ∷ es) (n ∷ ns)
    go true t r = let o : eqb e.port q ≡ false = rw (← eqb-true e.port p t) at z in rw (t, o) refl
    go false t r = rw (t, r e.port (eqb_turned e.port p t), r q z) refl
counts_other q p (e ∷ es) (n ∷ ns) (suc b) c z =
    go (eqb e.port p) refl (λ (y : eqb e.port q ≡ false). counts_other q e.port es ns b c y) (λ (x : ℕ) (y : eqb p x ≡ false). counts_other x p es ns (suc b) c y)
  where
    go : (t : Bool) → eqb e.port p ≡ t → (eqb e.port q ≡ false → counts_in q es (set ns (index_back e.port es b) c) ≡ counts_in q es ns)
        → ((x : ℕ) → eqb p x ≡ false → counts_in x es (set ns (index_back p es (suc b)) c) ≡ counts_in x es ns)
        → counts_in q (e ∷ es) (set (n ∷ ns) (index_back p (e ∷ es) (suc b)) c) ≡ counts_in q (e ∷ es) (n ∷ ns)
    go true t s r = let o : eqb e.port q ≡ false = rw (← eqb-true e.port p t) at z in rw (t, o) (s o)
    go false t s r = rw (t, r e.port (eqb_turned e.port p t), r q z) refl

counts_set_if : (t : Bool) (p : ℕ) (es : List Seen) (ns : List ℕ) (b c : ℕ) → length ns ≡ length es → (t ≡ true → b < many_in p es)
    → counts_in p es (set_if t (index_back p es b) c ns) ≡ set_back t (suc b) c (counts_in p es ns)
counts_set_if true p es ns b c h k = let w = counts_length p es ns h in rw w (counts_set p es ns b c h (k refl))
counts_set_if false p es ns b c h k = refl

other_set_if : (t : Bool) (q p : ℕ) (es : List Seen) (ns : List ℕ) (b c : ℕ) → eqb p q ≡ false → counts_in q es (set_if t (index_back p es b) c ns) ≡ counts_in q es ns
other_set_if true q p es ns b c z = counts_other q p es ns b c z
other_set_if false q p es ns b c z = refl

-- What the port's next line lets be restored.

abbrev pub restored_news : ℕ → Follow → Follow → List Seen → List ℕ → List ℕ
restored_news p f g es ns =
    set_if (restores_third f g) (index_back p es 0) (count_back f g.v 1)
    (set_if (restores_second f g) (index_back p es 1) (count_back f g.v 2) (set_if (restores_first f g) (index_back p es 2) (count_back f g.v 3) ns))

pub length_set_if : (t : Bool) (i c : ℕ) (ns : List ℕ) → length (set_if t i c ns) ≡ length ns
length_set_if true i c ns = length-set ns i c
length_set_if false i c ns = refl

module _ (has : Bool) (p : ℕ) (es : List Seen) (ns : List ℕ) (h : length ns ≡ length es) (g : Follow) (small : g.v < 16) where
  abbrev f : Follow
  f = follow_in has p es

  abbrev ns₁ : List ℕ
  ns₁ = set_if (restores_first f g) (index_back p es 2) (count_back f g.v 3) ns

  abbrev ns₂ : List ℕ
  ns₂ = set_if (restores_second f g) (index_back p es 1) (count_back f g.v 2) ns₁

  h₁ : length ns₁ ≡ length es
  h₁ = length_set_if (restores_first f g) (index_back p es 2) (count_back f g.v 3) ns ∙ h

  h₂ : length ns₂ ≡ length es
  h₂ = length_set_if (restores_second f g) (index_back p es 1) (count_back f g.v 2) ns₁ ∙ h₁

  pub news_length : length (restored_news p f g es ns) ≡ length es
  news_length = length_set_if (restores_third f g) (index_back p es 0) (count_back f g.v 1) ns₂ ∙ h₂

  pub news_text : (size : ℕ) (base : List ℕ) → Sound size es → restored_in f g (keys_in (place_key size base) p es) (text_in size base es ns) ≡ text_in size base es (restored_news p f g es ns)
  unfolding restored_in
  news_text size base s =
      let k = keyed (place_key size base) p es in
      let key = keys_in (place_key size base) p es in
      let first = text_set_if size base (restores_first f g) p es ns 2 (count_back f g.v 3) key.first h s k.first_is (altered_first p es f g (known has p es) small) in
      let second = text_set_if size base (restores_second f g) p es ns₁ 1 (count_back f g.v 2) key.second h₁ s k.second_is (altered_second p es f g (known has p es) small) in
      let third = text_set_if size base (restores_third f g) p es ns₂ 0 (count_back f g.v 1) key.third h₂ s k.third_is (altered_third p es f g (known has p es) small) in
      ap (λ (x : List ℕ). set_if (restores_third f g) key.third (capital (count_back f g.v 1)) (set_if (restores_second f g) key.second (capital (count_back f g.v 2)) x)) first
      ∙ (ap (set_if (restores_third f g) key.third (capital (count_back f g.v 1))) second ∙ third)

  pub news_counts : counts_in p es (restored_news p f g es ns) ≡ restored_back f g (counts_in p es ns)
  unfolding restored_back
  news_counts =
      let k = known has p es in
      counts_set_if (restores_third f g) p es ns₂ 0 (count_back f g.v 1) h₂ (λ (t : restores_third f g ≡ true). (altered_third p es f g k small t).there)
      ∙ (ap (set_back (restores_third f g) 1 (count_back f g.v 1))
      (counts_set_if (restores_second f g) p es ns₁ 1 (count_back f g.v 2) h₁ (λ (t : restores_second f g ≡ true). (altered_second p es f g k small t).there)
      ∙ ap (set_back (restores_second f g) 2 (count_back f g.v 2))
      (counts_set_if (restores_first f g) p es ns 2 (count_back f g.v 3) h (λ (t : restores_first f g ≡ true). (altered_first p es f g k small t).there))))

pub news_other : (q p : ℕ) (es : List Seen) (ns : List ℕ) (f g : Follow) → eqb p q ≡ false → counts_in q es (restored_news p f g es ns) ≡ counts_in q es ns
news_other q p es ns f g z =
    other_set_if (restores_third f g) q p es
    (set_if (restores_second f g) (index_back p es 1) (count_back f g.v 2) (set_if (restores_first f g) (index_back p es 2) (count_back f g.v 3) ns)) 0 (count_back f g.v 1) z
    ∙ (other_set_if (restores_second f g) q p es (set_if (restores_first f g) (index_back p es 2) (count_back f g.v 3) ns) 1 (count_back f g.v 2) z
    ∙ other_set_if (restores_first f g) q p es ns 2 (count_back f g.v 3) z)

-- And at the end.

abbrev pub ended_news : Bool → ℕ → List Seen → List ℕ → List ℕ
ended_news has zero es ns = ns
ended_news has (suc n) es ns = let ms = ended_news has n es ns in set_if (restores_last (follow_in has n es)) (index_back n es 1) (count_back (follow_in has n es) (follow_in has n es).first 2) ms

pub ended_length : (has : Bool) (n : ℕ) (es : List Seen) (ns : List ℕ) → length (ended_news has n es ns) ≡ length ns
ended_length has zero es ns = refl
ended_length has (suc n) es ns =
    length_set_if (restores_last (follow_in has n es)) (index_back n es 1) (count_back (follow_in has n es) (follow_in has n es).first 2) (ended_news has n es ns) ∙ ended_length has n es ns

-- a port that has not come yet
pub ended_later : (has : Bool) (n q : ℕ) (es : List Seen) (ns : List ℕ) → n ≤ q → counts_in q es (ended_news has n es ns) ≡ counts_in q es ns
ended_later has zero q es ns h = refl
ended_later has (suc n) q es ns h =
    other_set_if (restores_last (follow_in has n es)) q n es (ended_news has n es ns) 1 (count_back (follow_in has n es) (follow_in has n es).first 2) (ne_eqb n q (λ (e : n ≡ q). omega arith))
    ∙ ended_later has n q es ns (omega arith)

less_not : (q n : ℕ) → q < suc n → (n ≡ q → ⊥) → q < n
less_not q n h z = ⊎_elim (λ (l : n ≤ q). absurd (z (omega arith))) (λ (l : q < n). l) (le_or_lt n q)

ended_last : (has : Bool) (n : ℕ) (es : List Seen) (ns : List ℕ) → length ns ≡ length es
    → counts_in n es (set_if (restores_last (follow_in has n es)) (index_back n es 1) (count_back (follow_in has n es) (follow_in has n es).first 2) (ended_news has n es ns)) ≡ finished (follow_in has n es) (counts_in n es ns)
unfolding finished
ended_last has n es ns h =
    counts_set_if (restores_last (follow_in has n es)) n es (ended_news has n es ns) 1 (count_back (follow_in has n es) (follow_in has n es).first 2) (ended_length has n es ns ∙ h)
    (λ (x : restores_last (follow_in has n es) ≡ true). (altered_last n es (follow_in has n es) (known has n es) x).there)
    ∙ ap (set_back (restores_last (follow_in has n es)) 2 (count_back (follow_in has n es) (follow_in has n es).first 2)) (ended_later has n n es ns (omega arith))

pub ended_counts : (has : Bool) (n q : ℕ) (es : List Seen) (ns : List ℕ) → length ns ≡ length es → q < n → counts_in q es (ended_news has n es ns) ≡ finished (follow_in has q es) (counts_in q es ns)
ended_counts has zero q es ns h k = absurd (not-suc-le-zero k)
ended_counts has (suc n) q es ns h k = go (eqb n q) refl (ended_counts has n q es ns h)
  where
    go : (t : Bool) → eqb n q ≡ t → (q < n → counts_in q es (ended_news has n es ns) ≡ finished (follow_in has q es) (counts_in q es ns))
        → counts_in q es (ended_news has (suc n) es ns) ≡ finished (follow_in has q es) (counts_in q es ns)
    go true t r = rw (← eqb-true n q t) (ended_last has n es ns h)
    go false t r =
        other_set_if (restores_last (follow_in has n es)) q n es (ended_news has n es ns) 1 (count_back (follow_in has n es) (follow_in has n es).first 2) t
        ∙ r (less_not q n k (eqb-false n q t))
