-- Bytes with no line end among them, and the lines of what follows them.
use Rattle.std.specs.Prelude.{◌≡◌, refl, Bool, true, false, List, [], ◌∷◌, ◌++◌, ℕ, suc, ◌+◌, ◌<◌, eqb, length, take}
use Rattle.std.proofs.Common.{ap, le_of_suc-le-suc, not-suc-le-zero, arith, eqb-true}
use Rattle.ground.specs.Finding.{index_after, index_of}
use Rattle.text.specs.Text.{LINE-END, ahead, lines_of}

abbrev pub Free : List ℕ → Type 0
Free [] = Unit {0}
Free (b ∷ l) = (eqb b LINE-END ≡ false) × Free l

pub free_append : (x y : List ℕ) → Free x → Free y → Free (x ++ y)
free_append [] y f g = g
free_append (b ∷ x) y f g = (f.0, free_append x y f.1 g)

-- up to the first line end
pub free_take : (l : List ℕ) → Free (take (index_of LINE-END l) l)
unfolding index_of index_after
free_take [] = tt
free_take (b ∷ l) = go (eqb b LINE-END) refl (free_take l)
  where
    go : (t : Bool) → eqb b LINE-END ≡ t → Free (take (index_of LINE-END l) l) → Free (take (index_after t (index_of LINE-END l)) (b ∷ l))
    go true e f = tt
    go false e f = (e, f)

-- and with it
pub with_end_lem : (l : List ℕ) → index_of LINE-END l < length l → take (index_of LINE-END l + 1) l ≡ take (index_of LINE-END l) l ++ (LINE-END ∷ [])
unfolding index_of index_after
with_end_lem [] h = absurd (not-suc-le-zero h)
with_end_lem (b ∷ l) h = go (eqb b LINE-END) refl (with_end_lem l)
  where
    go : (t : Bool) → eqb b LINE-END ≡ t → (index_of LINE-END l < length l → take (index_of LINE-END l + 1) l ≡ take (index_of LINE-END l) l ++ (LINE-END ∷ []))
        → take (index_of LINE-END (b ∷ l) + 1) (b ∷ l) ≡ take (index_of LINE-END (b ∷ l)) (b ∷ l) ++ (LINE-END ∷ [])
    go true e rest = rw e (ap (λ (n : ℕ). n ∷ []) (eqb-true b LINE-END e))
    go false e rest =
        let k : index_of LINE-END l < length l = le_of_suc-le-suc (rw e at h) in
        let n : suc (index_of LINE-END l) + 1 ≡ suc (index_of LINE-END l + 1) = omega arith in
        rw (e, n) (ap (λ (r : List ℕ). b ∷ r) (rest k))

pub free_line : (l rest : List ℕ) → Free l → lines_of (l ++ (LINE-END ∷ rest)) ≡ l ∷ lines_of rest
unfolding lines_of
free_line [] rest f = refl
free_line (b ∷ l) rest f = rw f.0 (ap (ahead b) (free_line l rest f.1))

-- the last line lacks its end
pub last_line : (b : ℕ) (l : List ℕ) → Free (b ∷ l) → lines_of (b ∷ l) ≡ (b ∷ l) ∷ []
unfolding lines_of
last_line b [] f = rw f.0
last_line b (a ∷ l) f = rw f.0 (ap (ahead b) (last_line a l f.1))
