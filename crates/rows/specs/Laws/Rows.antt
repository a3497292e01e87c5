-- A row after another was put.
use Rattle.std.specs.Prelude.{◌≡◌, refl, ◌≢◌, List, [], ◌∷◌, ℕ, zero, suc, ◌≤◌, ◌<◌, length, get_or, replicate}
use Rattle.std.proofs.Common.{not-suc-le-zero, le_of_suc-le-suc, length-set, get_or-set_same, get_or-set_other}
use Rattle.std.proofs.Math.ListN.{get_or-eq_default}
use Rattle.std.proofs.Math.Seq.{set_out}
use Rattle.rows.specs.Rows.{row_in, put_row}

-- which default a list is read with makes no difference within it
pub get_or_within : {A : Type 0} (l : List A) (k : ℕ) (d e : A) → k < length l → get_or l k d ≡ get_or l k e
get_or_within [] k d e h = absurd (not-suc-le-zero h)
get_or_within (x ∷ xs) zero d e h = refl
get_or_within (x ∷ xs) (suc k) d e h = get_or_within xs k d e (le_of_suc-le-suc h)

pub row_within : (s : List (List ℕ)) (k : ℕ) → k < length s → get_or s k [] ≡ row_in s k
unfolding row_in
row_within s k h = get_or_within s k [] (replicate 16 0) h

pub row_beyond : (s : List (List ℕ)) (k : ℕ) → length s ≤ k → replicate 16 0 ≡ row_in s k
unfolding row_in
row_beyond s k h = rw (get_or-eq_default s (replicate 16 0) {n = k} h)

pub put_beyond : (s : List (List ℕ)) (k : ℕ) (row : List ℕ) → length s ≤ k → s ≡ put_row s k row
unfolding put_row
put_beyond s k row h = rw (set_out s k row h)

-- A row reads as what was put there, and every other row as before.
pub row_same : (s : List (List ℕ)) (k : ℕ) (row : List ℕ) → k < length s → row_in (put_row s k row) k ≡ row
unfolding row_in put_row
row_same s k row h = get_or-set_same s k row (replicate 16 0) h

pub row_other : (s : List (List ℕ)) (k : ℕ) (row : List ℕ) (m : ℕ) → m ≢ k → row_in (put_row s k row) m ≡ row_in s m
unfolding row_in put_row
row_other s k row m d = get_or-set_other s k m row (replicate 16 0) d

pub length_put_row : (s : List (List ℕ)) (k : ℕ) (row : List ℕ) → length (put_row s k row) ≡ length s
unfolding put_row
length_put_row s k row = length-set s k row
