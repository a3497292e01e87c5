-- A text parted at its marks, piece by piece.
use Rattle.std.specs.Prelude.{◌≡◌, refl, Bool, true, false, cond, List, [], ◌∷◌, ℕ, suc, ◌≤◌, ◌<◌, eqb, length, take, drop}
use Rattle.std.proofs.Common.{le_of_suc-le-suc, not-suc-le-zero, arith}
use Rattle.ground.specs.Finding.{index_of, index_after}
use Rattle.text.specs.Text.{TAB, ahead, fields_of, parted}

pub index_le : (m : ℕ) (l : List ℕ) → index_of m l ≤ length l
unfolding index_of index_after
index_le m [] = omega arith
index_le m (b ∷ l) = go (eqb b m) (index_le m l)
  where
    go : (t : Bool) → index_of m l ≤ length l → index_after t (index_of m l) ≤ suc (length l)
    go true h = omega arith
    go false h = omega arith

-- up to the first mark, and behind it
pub parted_more : (m : ℕ) (z : List (List ℕ)) (l : List ℕ) → index_of m l < length l
    → parted m z l ≡ take (index_of m l) l ∷ parted m z (drop (suc (index_of m l)) l)
unfolding index_of index_after
parted_more m z [] h = absurd (not-suc-le-zero h)
parted_more m z (b ∷ l) h = go (eqb b m) refl (parted_more m z l)
  where
    go : (t : Bool) → eqb b m ≡ t → (index_of m l < length l → parted m z l ≡ take (index_of m l) l ∷ parted m z (drop (suc (index_of m l)) l))
        → parted m z (b ∷ l) ≡ take (index_of m (b ∷ l)) (b ∷ l) ∷ parted m z (drop (suc (index_of m (b ∷ l))) (b ∷ l))
    go true e rest = rw e
    go false e rest = let k : index_of m l < length l = le_of_suc-le-suc (rw e at h) in rw (e, rest k)

-- no mark
pub parted_none : (m : ℕ) (l : List ℕ) → index_of m l ≡ length l → parted m ([] ∷ []) l ≡ l ∷ []
unfolding index_of index_after
parted_none m [] h = refl
parted_none m (b ∷ l) h = go (eqb b m) refl (parted_none m l)
  where
    go : (t : Bool) → eqb b m ≡ t → (index_of m l ≡ length l → parted m ([] ∷ []) l ≡ l ∷ []) → parted m ([] ∷ []) (b ∷ l) ≡ (b ∷ l) ∷ []
    go true e rest = let k = rw e at h in absurd (omega arith)
    go false e rest = let k = rw e at h in rw (e, rest (omega arith))

-- a line has a field
pub fields_some : (l : List ℕ) → (a : List ℕ) × (b : List (List ℕ)) × (fields_of l ≡ a ∷ b)
unfolding fields_of
fields_some [] = ([], [], refl)
fields_some (x ∷ l) = go (eqb x TAB) (fields_some l)
  where
    go : (t : Bool) → (a : List ℕ) × (b : List (List ℕ)) × (parted TAB ([] ∷ []) l ≡ a ∷ b)
        → (a : List ℕ) × (b : List (List ℕ)) × (cond t ([] ∷ parted TAB ([] ∷ []) l) (ahead x (parted TAB ([] ∷ []) l)) ≡ a ∷ b)
    go true f = ([], parted TAB ([] ∷ []) l, refl)
    go false (a, b, e) = (x ∷ a, b, rw e refl)
