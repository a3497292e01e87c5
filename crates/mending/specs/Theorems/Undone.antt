-- From the mended recording and the notes the torn one is told again.
use Rattle.std.specs.Prelude.{◌≡◌, Bool, true, false, cond, ◌||◌, ◌⊎◌, eqb, ltb, take}
use Rattle.std.proofs.Math.Path.{refl, ap}
use Rattle.std.proofs.Common.{sym, ◌∙◌, inl, inr, length-set, get_or-set_other}
use mathlib.Core.List.{List, [], ◌∷◌, ◌++◌, append_assoc}
use Prim.Native.Nat.{ℕ, zero, suc, ◌+◌, ◌-◌, ◌/◌, ◌%◌, ◌^◌, ◌≤◌, ◌<◌}
use native.Mathlib.Omega.{arith}
use Rattle.std.proofs.Math.ListN.{get_or, length, set}
use Rattle.std.proofs.Math.Seq.{set-get_or, set-set}
use Rattle.ground.specs.Finite.{below, below_at}
use Rattle.mending.specs.Laws.Automaton.{nothing}
use Rattle.mending.specs.Laws.Digits.{NoTab, capital_digit, digit_count, digit_no_end, digit_no_tab, digit_some, digit_within, digits_no_tab, high_digit}
use Rattle.mending.specs.Following.{has_count}
use Rattle.mending.specs.Laws.Lines.{Fits, Read, fate_other, fits_followed, fits_next, followed_left, next_count, read_of}
use Rattle.mending.specs.Laws.Lines.{Read as R}
use Rattle.mending.specs.Laws.Opened.{lines_ended, mended_lines_lem, notes_are, counted_in, ports_in, size_in}
use Rattle.mending.specs.Laws.Texts.{Ended, Stands, lines_le, text_with}
use Rattle.mending.specs.Lines.{Fate, Judged, Line, capital, digit_in, digit_place, fate_by, judged, judged_by, left_by, line_text, lines_with, mended_lines, out_by, record_of, text_of, with_digit}
use Rattle.mending.specs.Lines.{Fate as F}
use Rattle.mending.specs.Mending.{Opened, h4_with, mended_of, note_text, notes_from, notes_of, opening_of}
use Rattle.mending.specs.Told.{LARGEST}
use Rattle.mending.specs.Undone.{Note, before, before_last, behind, has_tab, note_of, notes_read, owed, owed_by, size_by, told_again, again_from, with_old}
use Rattle.text.specs.Ascii.{ascii}
use Rattle.text.specs.Fields.{are_digits, digit_of}
use Rattle.text.specs.Laws.Lines.{Free, free_append, free_line}
use Rattle.text.specs.Output.{digits_before, number_text}
use Rattle.text.specs.Text.{LINE-END, TAB, lines_of}
use Rattle.text.specs.Theorems.Decimal.{number_value}

-- A note's line read

before_is : (x y : List ℕ) → NoTab x → before (x ++ (TAB ∷ y)) ≡ x
before_is [] y f = refl
before_is (b ∷ x) y f = rw f.0 (ap (λ (l : List ℕ). b ∷ l) (before_is x y f.1))

behind_is : (x y : List ℕ) → NoTab x → behind (x ++ (TAB ∷ y)) ≡ y
behind_is [] y f = refl
behind_is (b ∷ x) y f = rw f.0 (behind_is x y f.1)

has_tab_lem : (x y : List ℕ) → has_tab (x ++ (TAB ∷ y)) ≡ true
has_tab_lem [] y = refl
has_tab_lem (b ∷ x) y = go (eqb b TAB) (has_tab_lem x y)
  where
    go : (t : Bool) → has_tab (x ++ (TAB ∷ y)) ≡ true → (t || has_tab (x ++ (TAB ∷ y))) ≡ true
    go true e = refl
    go false e = e

before_last_lem : (x y : List ℕ) → has_tab y ≡ false → before_last (x ++ (TAB ∷ y)) ≡ x
before_last_lem [] y e = rw e
before_last_lem (b ∷ x) y e = rw (has_tab_lem x y) (ap (λ (l : List ℕ). b ∷ l) (before_last_lem x y e))

abbrev note_line : ℕ → List ℕ → List ℕ → List ℕ → List ℕ
note_line n field old new = number_text n ++ (TAB ∷ (field ++ (TAB ∷ (old ++ (TAB ∷ new)))))

note_text_lem : (n : ℕ) (field old new rest : List ℕ) → note_text n field old new ++ rest ≡ note_line n field old new ++ (LINE-END ∷ rest)
note_text_lem n field old new rest = simp append_assoc

-- numbers are digits
decimal_test : ℕ → Bool
decimal_test d = ltb (digit_of (48 + d)) 10

decimal_tests : below 10 decimal_test ≡ true
unfolding decimal_test digit_of
decimal_tests = refl

decimal_digit : (d : ℕ) → d < 10 → ltb (digit_of (48 + d)) 10 ≡ true
unfolding decimal_test
decimal_digit d h = below_at 10 decimal_test decimal_tests d h

before_digits : (most n : ℕ) (text : List ℕ) → are_digits 10 text ≡ true → are_digits 10 (digits_before most n text) ≡ true
before_digits zero n text t = t
before_digits (suc most) n text t = go (ltb 0 n) (before_digits most (n / 10) ((48 + n % 10) ∷ text) (rw (decimal_digit (n % 10) (omega arith)) t))
  where
    go : (b : Bool) → are_digits 10 (digits_before most (n / 10) ((48 + n % 10) ∷ text)) ≡ true → are_digits 10 (cond b (digits_before most (n / 10) ((48 + n % 10) ∷ text)) text) ≡ true
    go true e = e
    go false e = t

number_digits : (n : ℕ) → are_digits 10 (number_text n) ≡ true
unfolding number_text
number_digits n = before_digits 19 (n / 10) ((48 + n % 10) ∷ []) (rw (decimal_digit (n % 10) (omega arith)) refl)

digits_free : (base : ℕ) (l : List ℕ) → base ≤ 16 → are_digits base l ≡ true → Free l
digits_free base [] h t = tt
digits_free base (b ∷ l) h t =
    let d = borrow.Author.Tests.ltb-true (digit_of b) base (Rattle.ground.specs.Truth.and_left (ltb (digit_of b) base) (are_digits base l) t) in
    (digit_no_end b (omega arith), digits_free base l h (Rattle.ground.specs.Truth.and_right (ltb (digit_of b) base) (are_digits base l) t))

-- a note, and what may stand in it
module _ (n : ℕ) (field old new : List ℕ) (h : n < 10 ^ 20) (f : NoTab field) (w : has_tab new ≡ false) where
  abbrev noted : Note
  noted = record { number = n; field = field; old = old }

  note_read_lem : note_of (note_line n field old new) ≡ noted
  unfolding note_of
  note_read_lem =
      let d = digits_no_tab 10 (number_text n) (omega arith) (number_digits n) in
      let y : List ℕ = field ++ (TAB ∷ (old ++ (TAB ∷ new))) in
      rw (before_is (number_text n) y d, behind_is (number_text n) y d, before_is field (old ++ (TAB ∷ new)) f, behind_is field (old ++ (TAB ∷ new)) f, before_last_lem old new w, number_value n h)

  note_first : (rest : List ℕ) → Free field → Free old → Free new → notes_read (lines_of (note_text n field old new ++ rest)) ≡ noted ∷ notes_read (lines_of rest)
  note_first rest a b c =
      let x : Free (note_line n field old new) =
      free_append (number_text n) (TAB ∷ (field ++ (TAB ∷ (old ++ (TAB ∷ new))))) (digits_free 10 (number_text n) (omega arith) (number_digits n)) (refl, free_append field (TAB ∷ (old ++ (TAB ∷ new))) a (refl, free_append old (TAB ∷ new) b (refl, c))) in
      ap (λ (t : List ℕ). notes_read (lines_of t)) (note_text_lem n field old new rest)
      ∙ (ap notes_read (free_line (note_line n field old new) rest x) ∙ ap (λ (q : Note). q ∷ notes_read (lines_of rest)) note_read_lem)

-- What became of the lines

module _ (size : ℕ) where
  -- a digit was set over another one
  pub record Set (l : Line) (old new : ℕ) : Type 0 where
    pub old_is : old ≡ digit_in size l
    pub some : 1 < digit_place size l
    pub within : digit_place size l < length l.bytes
    pub high : digit_of (get_or l.bytes (digit_place size l - 1) 0) < 16
    pub old_digit : digit_of old < 16
    pub new_digit : digit_of new < 16

  abbrev RightBy : Line → Fate → Type 0
  RightBy l F.Kept = Unit {0}
  RightBy l (F.Restored old new) = Set l old new
  RightBy l F.Dropped = Unit {0}

  abbrev torn_of : List Judged → List Line
  torn_of [] = []
  torn_of (j ∷ js) = j.line ∷ torn_of js

  abbrev Rights : List Judged → Type 0
  Rights [] = Unit {0}
  Rights (j ∷ js) = RightBy j.line j.fate × Stands j.line (torn_of js) × Rights js

  -- the old digits in their place again
  old_again : (l : Line) (old new : ℕ) → Set l old new → with_old size (with_digit size l new) (h4_with size l old) ≡ l
  unfolding digit_place
  old_again l old new s =
      let i = length l.bytes - (size + size + 4) in
      let some : 1 < i = s.some in
      let z : length (set l.bytes i new) - (size + size + 4) - 1 ≡ i - 1 = ap (λ (n : ℕ). n - (size + size + 4) - 1) (length-set l.bytes i new) in
      let k : suc (i - 1) ≡ i = omega arith in
      let high = get_or l.bytes (i - 1) 0 in
      let a : set (set l.bytes i new) (i - 1) high ≡ set l.bytes i new =
      ap (λ (n : ℕ). set (set l.bytes i new) (i - 1) n) (sym (get_or-set_other l.bytes i (i - 1) new 0 (λ q. omega arith))) ∙ set-get_or (set l.bytes i new) (i - 1) 0 in
      let b : set (set l.bytes i new) i old ≡ l.bytes = set-set l.bytes i new old ∙ (ap (set l.bytes i) s.old_is ∙ set-get_or l.bytes i 0) in
      ap (λ (x : List ℕ). record { bytes = x; end = l.end })
      (ap (λ (n : ℕ). set (set (set l.bytes i new) n high) (suc n) old) z ∙ (ap (λ (n : ℕ). set (set (set l.bytes i new) (i - 1) high) n old) k ∙ (ap (λ (x : List ℕ). set x i old) a ∙ b)))

  -- the notes of lines numbered from n
  abbrev notes_on : ℕ → List Judged → List Note
  notes_on n js = notes_read (lines_of (notes_from size n js))

  -- the first of them has that number or a higher one
  abbrev Later : ℕ → List Note → Type 0
  Later n [] = Unit {0}
  Later n (note ∷ notes) = n ≤ note.number

  later_more : (n : ℕ) (notes : List Note) → Later (suc n) notes → Later n notes
  later_more n [] h = tt
  later_more n (note ∷ notes) h = omega arith

  -- a line that no note names
  unnoted_line : (n : ℕ) (notes : List Note) (l : Line) (ls : List Line) → Later (suc n) notes → again_from size n notes (l ∷ ls) ≡ line_text l ++ again_from size (suc n) notes ls
  unnoted_line n [] l ls h = refl
  unnoted_line n (note ∷ notes) l ls h =
      let e : note.number - n ≡ suc (note.number - suc n) = omega arith in
      rw e (append_assoc (line_text l) (text_of (take (note.number - suc n) ls)) _)

  owed_kept : (l : Line) (f : Fate) (js : List Judged) → owed_by f l.end ≡ [] → owed (record { line = l; fate = f } ∷ js) ≡ owed js
  owed_kept l f [] e = e
  owed_kept l f (j ∷ js) e = refl

  word_free : (NoTab (ascii "line")) × (Free (ascii "line")) × (NoTab (ascii "H4")) × (Free (ascii "H4"))
  word_free = ((refl, (refl, (refl, (refl, tt)))), (refl, (refl, (refl, (refl, tt)))), (refl, (refl, tt)), (refl, (refl, tt)))

  -- the notes of a line and of those behind it
  kept_notes : (n : ℕ) (l : Line) (js : List Judged) → notes_on n (record { line = l; fate = F.Kept } ∷ js) ≡ notes_on (suc n) js
  kept_notes n l js = refl

  dropped_notes : (n : ℕ) (l : Line) (js : List Judged) → n < 10 ^ 20 → Free l.bytes → notes_on n (record { line = l; fate = F.Dropped } ∷ js) ≡ record { number = n; field = ascii "line"; old = l.bytes } ∷ notes_on (suc n) js
  dropped_notes n l js h f = note_first n (ascii "line") l.bytes [] h word_free.0 refl (notes_from size (suc n) js) word_free.1 f tt

  set_notes : (n : ℕ) (l : Line) (old new : ℕ) (js : List Judged) → n < 10 ^ 20 → Set l old new
      → notes_on n (record { line = l; fate = F.Restored old new } ∷ js) ≡ record { number = n; field = ascii "H4"; old = h4_with size l old } ∷ notes_on (suc n) js
  set_notes n l old new js h s =
      let high = get_or l.bytes (digit_place size l - 1) 0 in
      note_first n (ascii "H4") (h4_with size l old) (h4_with size l new) h word_free.2 (rw (digit_no_tab high s.high, digit_no_tab new s.new_digit)) (notes_from size (suc n) js) word_free.3
      (digit_no_end high s.high, (digit_no_end old s.old_digit, tt)) (digit_no_end high s.high, (digit_no_end new s.new_digit, tt))

  later_by : (n : ℕ) (l : Line) (f : Fate) (js : List Judged) → n < 10 ^ 20 → RightBy l f → Free l.bytes → Later (suc n) (notes_on (suc n) js) → Later n (notes_on n (record { line = l; fate = f } ∷ js))
  later_by n l F.Kept js h r f k = later_more n (notes_on (suc n) js) k
  later_by n l (F.Restored old new) js h r f k = rw (set_notes n l old new js h r) (omega arith)
  later_by n l F.Dropped js h r f k = rw (dropped_notes n l js h f) (omega arith)

  later : (n : ℕ) (js : List Judged) → Rights js → n + length js ≤ 10 ^ 20 → Later n (notes_on n js)
  unfolding lines_of
  later n [] r h = tt
  later n (j ∷ js) r h = later_by n j.line j.fate js (omega arith) r.0 r.1.0 (later (suc n) js r.2 (omega arith))

  -- line by line
  again_by : (n : ℕ) (l : Line) (f : Fate) (js : List Judged) → n < 10 ^ 20 → RightBy l f → Stands l (torn_of js) → Later (suc n) (notes_on (suc n) js)
      → again_from size (suc n) (notes_on (suc n) js) (mended_lines size js) ≡ text_of (torn_of js) ++ owed js
      → again_from size n (notes_on n (record { line = l; fate = f } ∷ js)) (out_by size l f ++ mended_lines size js) ≡ (line_text l ++ text_of (torn_of js)) ++ owed (record { line = l; fate = f } ∷ js)
  again_by n l F.Kept js h r s k i =
      unnoted_line n (notes_on (suc n) js) l (mended_lines size js) k
      ∙ (ap (λ (t : List ℕ). line_text l ++ t) i ∙ (sym (append_assoc (line_text l) (text_of (torn_of js)) (owed js)) ∙ ap (λ (t : List ℕ). (line_text l ++ text_of (torn_of js)) ++ t) (sym (owed_kept l F.Kept js refl))))
  again_by n l (F.Restored old new) js h r s k i =
      let z : n - n ≡ 0 = omega arith in
      ap (λ (t : List Note). again_from size n t (with_digit size l new ∷ mended_lines size js)) (set_notes n l old new js h r)
      ∙ (rw z (ap (λ (x : Line). line_text x ++ again_from size (suc n) (notes_on (suc n) js) (mended_lines size js)) (old_again l old new r))
      ∙ (ap (λ (t : List ℕ). line_text l ++ t) i ∙ (sym (append_assoc (line_text l) (text_of (torn_of js)) (owed js)) ∙ ap (λ (t : List ℕ). (line_text l ++ text_of (torn_of js)) ++ t) (sym (owed_kept l (F.Restored old new) js refl)))))
  again_by n l F.Dropped js h r s k i =
      let z : n - n ≡ 0 = omega arith in
      ap (λ (t : List Note). again_from size n t (mended_lines size js)) (dropped_notes n l js h s.0)
      ∙ (rw z (ap (λ (t : List ℕ). l.bytes ++ (LINE-END ∷ t)) i) ∙ go s.1)
    where
      go : (l.end ≡ LINE-END ∷ []) ⊎ ((l.end ≡ []) × (0 < length l.bytes) × (torn_of js ≡ []))
          → l.bytes ++ (LINE-END ∷ (text_of (torn_of js) ++ owed js)) ≡ (line_text l ++ text_of (torn_of js)) ++ owed (record { line = l; fate = F.Dropped } ∷ js)
      go (inl e) =
          sym (append_assoc l.bytes (LINE-END ∷ []) (text_of (torn_of js) ++ owed js))
          ∙ (ap (λ (end : List ℕ). (l.bytes ++ end) ++ (text_of (torn_of js) ++ owed js)) (sym e)
          ∙ (sym (append_assoc (line_text l) (text_of (torn_of js)) (owed js)) ∙ ap (λ (t : List ℕ). (line_text l ++ text_of (torn_of js)) ++ t) (sym (owed_kept l F.Dropped js (ap (owed_by F.Dropped) e)))))
      go (inr e) = last js e.0 e.2
        where
          last : (ks : List Judged) → l.end ≡ [] → torn_of ks ≡ [] → l.bytes ++ (LINE-END ∷ (text_of (torn_of ks) ++ owed ks)) ≡ (line_text l ++ text_of (torn_of ks)) ++ owed (record { line = l; fate = F.Dropped } ∷ ks)
          last [] e0 e2 =
              sym (ap (λ (t : List ℕ). t ++ (LINE-END ∷ [])) (nothing (line_text l) ∙ (ap (λ (end : List ℕ). l.bytes ++ end) e0 ∙ nothing l.bytes)))
              ∙ ap (λ (t : List ℕ). (line_text l ++ []) ++ t) (sym (ap (owed_by F.Dropped) e0))
          last (j ∷ ks) e0 e2 = let z : ◌≡◌ {A = ℕ} 0 1 = cc in absurd (omega arith)

  again_on : (js : List Judged) → Rights js → (n : ℕ) → n + length js ≤ 10 ^ 20 → again_from size n (notes_on n js) (mended_lines size js) ≡ text_of (torn_of js) ++ owed js
  unfolding lines_of
  again_on [] r n h = refl
  again_on (j ∷ js) r n h =
      again_by n j.line j.fate js (omega arith) r.0 r.1 (later (suc n) js r.2 (omega arith)) (again_on js r.2 (suc n) (omega arith))

-- Lines that are judged

module _ (ports size : ℕ) where
  torn_is : (ls : List Line) (left : ℕ → List ℕ) → torn_of size (judged_by ports size left ls) ≡ ls
  torn_is [] left = refl
  torn_is (l ∷ ls) left = ap (λ (t : List Line). l ∷ t) (torn_is ls (left_by left (record_of ports size l)))

  right_by : (left : ℕ → List ℕ) (l : Line) (ls : List Line) → Fits ports size left (l ∷ ls) → Read ports size l → RightBy size l (fate_by size left l (record_of ports size l))
  right_by left l ls h (R.other e) = rw (fate_other size left l (record_of ports size l) e) tt
  right_by left l ls h (R.frame p h4 flag place next e) = rw e (go (eqb (h4 % 16) (get_or (left p) 0 0)))
    where
      go : (t : Bool) → RightBy size l (cond t F.Kept (F.Restored (digit_in size l) (capital (get_or (left p) 0 0))))
      go true = tt
      go false =
          let n = next_count ports size left l ls h p h4 flag place next e in
          let c = capital_digit (get_or (left p) 0 0) n.1 in
          let d = digit_count ports size l p h4 flag place next e in
          let m = n.1 in
          record {
            old_is = refl;
            some = digit_some ports size l p h4 flag place next e;
            within = digit_within ports size l p h4 flag place next e;
            high = high_digit ports size l p h4 flag place next e;
            old_digit = omega arith;
            new_digit = omega arith;
          }

  rights : (ls : List Line) (left : ℕ → List ℕ) → Fits ports size left ls → Ended ls → Rights size (judged_by ports size left ls)
  rights [] left h d = tt
  rights (l ∷ ls) left h d = (
    right_by left l ls h (read_of ports size l),
    (d.0.0, rw (torn_is ls (left_by left (record_of ports size l))) d.0.1),
    rights ls (left_by left (record_of ports size l)) (fits_next ports size left l ls h) d.1,
  )

judged_length : (ports size : ℕ) (left : ℕ → List ℕ) (ls : List Line) → length (judged_by ports size left ls) ≡ length ls
judged_length ports size left [] = refl
judged_length ports size left (l ∷ ls) = ap suc (judged_length ports size (left_by left (record_of ports size l)) ls)

-- Of every recording that is answered 0, of fewer than 10 to the 20th bytes: a line's number is written with at most 20 digits. Every text that can be lent is
-- shorter (`undone_lent`).
pub undone : (t : List ℕ) (o : Opened t) → length t < 10 ^ 20 → told_again (mended_of t) (notes_of t) ≡ t ++ owed (judged (has_count o.settings.kind) o.settings.ports o.settings.size o.rest)
unfolding told_again judged
undone t o h =
    let ports = ports_in t o in
    let size = size_in t o in
    let has = counted_in t o in
    let js = judged_by ports size (followed_left ports size has o.rest) o.rest in
    let fit = fits_followed ports size has o.rest in
    let ended = lines_ended t o in
    let right = rights ports size o.rest (followed_left ports size has o.rest) fit ended.1 in
    let few : 2 + length js ≤ 10 ^ 20 =
    (let a = judged_length ports size (followed_left ports size has o.rest) o.rest in let b : suc (length o.rest) ≤ length t = rw o.lines at (lines_le t) in omega arith) in
    let sized : size_by (opening_of (lines_with (mended_of t))) ≡ size = ap (λ (ls : List Line). size_by (opening_of ls)) (mended_lines_lem t o) ∙ ap size_by o.opening in
    let text : line_text o.first ++ text_of o.rest ≡ t = ap text_of (sym o.lines) ∙ text_with t in
    let told : again_from (size_by (opening_of (lines_with (mended_of t)))) 1 (notes_read (lines_of (notes_of t))) (lines_with (mended_of t)) ≡ again_from size 1 (notes_on size 2 js) (o.first ∷ mended_lines size js) =
    rw (sized, mended_lines_lem t o, notes_are t o) in
    told
    ∙ (unnoted_line size 1 (notes_on size 2 js) o.first (mended_lines size js) (later size 2 js right few)
    ∙ (ap (λ (x : List ℕ). line_text o.first ++ x) (again_on size js right 2 few ∙ ap (λ (ls : List Line). text_of ls ++ owed js) (torn_is ports size o.rest (followed_left ports size has o.rest)))
    ∙ (sym (append_assoc (line_text o.first) (text_of o.rest) (owed js)) ∙ ap (λ (x : List ℕ). x ++ owed js) text)))

-- A length is a number of 64 bits, so this is of every recording that is lent and answered 0.
pub undone_lent : (t : List ℕ) (o : Opened t) → length t ≤ LARGEST → told_again (mended_of t) (notes_of t) ≡ t ++ owed (judged (has_count o.settings.kind) o.settings.ports o.settings.size o.rest)
undone_lent t o h = undone t o (omega arith)
