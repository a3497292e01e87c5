-- A text and its lines with their ends: joined they are the text, and the lines of joined lines are these again.
use Rattle.std.specs.Prelude.{◌≡◌, refl, Bool, true, false, cond, List, [], ◌∷◌, ◌++◌, ◌⊎◌, ℕ, zero, suc, ◌≤◌, ◌<◌, eqb}
use Rattle.std.proofs.Common.{sym, ap, ◌∙◌, append_assoc, inl, inr, arith, eqb-true}
use lib.ListN.{length, set}
use Rattle.mending.specs.Laws.Automaton.{nothing}
use Rattle.mending.specs.Lines.{Line, line_text, lines_in, lines_with, text_of}
use Rattle.text.specs.Laws.Lines.{Free}
use Rattle.text.specs.Text.{LINE-END, ahead, lines_of, parted}

abbrev pub line_of : List ℕ → List ℕ → Line
line_of bytes end = record { bytes = bytes; end = end }

-- the lines are those of the text
abbrev pub bytes_of : List Line → List (List ℕ)
bytes_of [] = []
bytes_of (l ∷ ls) = l.bytes ∷ bytes_of ls

bytes_in_lem : (ls : List (List ℕ)) (t : List ℕ) → bytes_of (lines_in ls t) ≡ ls
bytes_in_lem [] t = refl
bytes_in_lem (l ∷ ls) t = ap (λ (r : List (List ℕ)). l ∷ r) (bytes_in_lem ls (lib.ListN.drop (suc (length l)) t))

pub bytes_with : (t : List ℕ) → bytes_of (lines_with t) ≡ lines_of t
unfolding lines_with
bytes_with t = bytes_in_lem (lines_of t) t

-- a byte more at the front
abbrev ahead_line : ℕ → List Line → List Line
ahead_line b [] = line_of (b ∷ []) [] ∷ []
ahead_line b (l ∷ ls) = line_of (b ∷ l.bytes) l.end ∷ ls

pub with_none : lines_with [] ≡ []
unfolding lines_with lines_of
with_none = refl

with_more : (b : ℕ) (t : List ℕ) → lines_with (b ∷ t) ≡ cond (eqb b LINE-END) (line_of [] (b ∷ []) ∷ lines_with t) (ahead_line b (lines_with t))
unfolding lines_with lines_of
with_more b [] = go (eqb b LINE-END)
  where
    go : (u : Bool) → lines_in (cond u ([] ∷ []) ((b ∷ []) ∷ [])) (b ∷ []) ≡ cond u (line_of [] (b ∷ []) ∷ []) (line_of (b ∷ []) [] ∷ [])
    go true = refl
    go false = refl
with_more b (x ∷ t) = go (eqb b LINE-END) (eqb x LINE-END) (parted LINE-END [] t)
  where
    go : (u y : Bool) (ps : List (List ℕ))
        → lines_in (cond u ([] ∷ cond y ([] ∷ ps) (ahead x ps)) (ahead b (cond y ([] ∷ ps) (ahead x ps)))) (b ∷ x ∷ t)
        ≡ cond u (line_of [] (b ∷ []) ∷ lines_in (cond y ([] ∷ ps) (ahead x ps)) (x ∷ t)) (ahead_line b (lines_in (cond y ([] ∷ ps) (ahead x ps)) (x ∷ t)))
    go true y ps = refl
    go false true ps = refl
    go false false [] = refl
    go false false (p ∷ ps) = refl

-- joined they are the text
text_ahead : (b : ℕ) (ls : List Line) → text_of (ahead_line b ls) ≡ b ∷ text_of ls
text_ahead b [] = refl
text_ahead b (l ∷ ls) = refl

pub text_with : (t : List ℕ) → text_of (lines_with t) ≡ t
text_with [] = ap text_of with_none
text_with (b ∷ t) = ap text_of (with_more b t) ∙ go (eqb b LINE-END) (text_with t)
  where
    go : (u : Bool) → text_of (lines_with t) ≡ t → text_of (cond u (line_of [] (b ∷ []) ∷ lines_with t) (ahead_line b (lines_with t))) ≡ b ∷ t
    go true e = ap (λ (r : List ℕ). b ∷ r) e
    go false e = text_ahead b (lines_with t) ∙ ap (λ (r : List ℕ). b ∷ r) e

-- each line has no end in it and one behind it, but for the last, which is not empty where it has none
abbrev pub Stands : Line → List Line → Type 0
Stands l ls = Free l.bytes × ((l.end ≡ LINE-END ∷ []) ⊎ ((l.end ≡ []) × (0 < length l.bytes) × (ls ≡ [])))

abbrev pub Ended : List Line → Type 0
Ended [] = Unit {0}
Ended (l ∷ ls) = Stands l ls × Ended ls

ended_ahead : (b : ℕ) (ls : List Line) → eqb b LINE-END ≡ false → Ended ls → Ended (ahead_line b ls)
ended_ahead b [] e h = (((e, tt), inr (refl, omega arith, refl)), tt)
ended_ahead b (l ∷ ls) e h = (((e, h.0.0), go h.0.1), h.1)
  where
    go : (l.end ≡ LINE-END ∷ []) ⊎ ((l.end ≡ []) × (0 < length l.bytes) × (ls ≡ [])) → (l.end ≡ LINE-END ∷ []) ⊎ ((l.end ≡ []) × (0 < suc (length l.bytes)) × (ls ≡ []))
    go (inl x) = inl x
    go (inr x) = inr (x.0, omega arith, x.2)

pub with_ended : (t : List ℕ) → Ended (lines_with t)
with_ended [] = rw with_none tt
with_ended (b ∷ t) = rw (with_more b t) (go (eqb b LINE-END) refl (with_ended t))
  where
    go : (u : Bool) → eqb b LINE-END ≡ u → Ended (lines_with t) → Ended (cond u (line_of [] (b ∷ []) ∷ lines_with t) (ahead_line b (lines_with t)))
    go true e h = ((tt, inl (ap (λ (n : ℕ). n ∷ []) (eqb-true b LINE-END e))), h)
    go false e h = ended_ahead b (lines_with t) e h

-- the lines of joined lines

with_line : (bytes rest : List ℕ) → Free bytes → lines_with (bytes ++ (LINE-END ∷ rest)) ≡ line_of bytes (LINE-END ∷ []) ∷ lines_with rest
with_line [] rest f = with_more LINE-END rest
with_line (b ∷ bytes) rest f = with_more b (bytes ++ (LINE-END ∷ rest)) ∙ rw f.0 (ap (ahead_line b) (with_line bytes rest f.1))

with_last : (bytes : List ℕ) → Free bytes → 0 < length bytes → lines_with bytes ≡ line_of bytes [] ∷ []
with_last [] f h = absurd (omega arith)
with_last (b ∷ []) f h = with_more b [] ∙ rw f.0 (ap (ahead_line b) with_none)
with_last (b ∷ c ∷ bytes) f h = with_more b (c ∷ bytes) ∙ rw f.0 (ap (ahead_line b) (with_last (c ∷ bytes) f.1 (omega arith)))

ended_line : (l : Line) (rest : List ℕ) → Free l.bytes → l.end ≡ LINE-END ∷ [] → lines_with (line_text l ++ rest) ≡ l ∷ lines_with rest
ended_line l rest f e =
    let x : line_text l ++ rest ≡ l.bytes ++ (LINE-END ∷ rest) = ap (λ (end : List ℕ). (l.bytes ++ end) ++ rest) e ∙ append_assoc l.bytes (LINE-END ∷ []) rest in
    ap lines_with x ∙ (with_line l.bytes rest f ∙ ap (λ (end : List ℕ). line_of l.bytes end ∷ lines_with rest) (sym e))

last_line : (l : Line) (ls : List Line) → Free l.bytes → (l.end ≡ []) × (0 < length l.bytes) × (ls ≡ []) → lines_with (line_text l ++ text_of ls) ≡ l ∷ ls
last_line l [] f h =
    let x : (l.bytes ++ l.end) ++ [] ≡ l.bytes = nothing (l.bytes ++ l.end) ∙ (ap (λ (end : List ℕ). l.bytes ++ end) h.0 ∙ nothing l.bytes) in
    ap lines_with x ∙ (with_last l.bytes f h.1 ∙ ap (λ (end : List ℕ). line_of l.bytes end ∷ []) (sym h.0))
last_line l (m ∷ ls) f h = let e = h.2 in let z : ◌≡◌ {A = ℕ} 0 1 = cc in absurd (omega arith)

pub lines_text : (ls : List Line) → Ended ls → lines_with (text_of ls) ≡ ls
lines_text [] h = with_none
lines_text (l ∷ ls) h = go h.0.1 (lines_text ls h.1)
  where
    go : (l.end ≡ LINE-END ∷ []) ⊎ ((l.end ≡ []) × (0 < length l.bytes) × (ls ≡ [])) → lines_with (text_of ls) ≡ ls → lines_with (line_text l ++ text_of ls) ≡ l ∷ ls
    go (inl e) r = ended_line l (text_of ls) h.0.0 e ∙ ap (λ (t : List Line). l ∷ t) r
    go (inr e) r = last_line l ls h.0.0 e

-- a text has no more lines than bytes
ahead_length : (b : ℕ) (ls : List Line) → length (ahead_line b ls) ≤ suc (length ls)
ahead_length b [] = omega arith
ahead_length b (l ∷ ls) = omega arith

pub lines_le : (t : List ℕ) → length (lines_with t) ≤ length t
lines_le [] = rw with_none (omega arith)
lines_le (b ∷ t) = rw (with_more b t) (go (eqb b LINE-END) (lines_le t))
  where
    go : (u : Bool) → length (lines_with t) ≤ length t → length (cond u (line_of [] (b ∷ []) ∷ lines_with t) (ahead_line b (lines_with t))) ≤ suc (length t)
    go true h = omega arith
    go false h = let k = ahead_length b (lines_with t) in omega arith

-- a byte set in a line
pub free_set : (l : List ℕ) (i d : ℕ) → Free l → eqb d LINE-END ≡ false → Free (set l i d)
free_set [] i d f e = tt
free_set (b ∷ l) zero d f e = (e, f.1)
free_set (b ∷ l) (suc i) d f e = (f.0, free_set l i d f.1 e)
