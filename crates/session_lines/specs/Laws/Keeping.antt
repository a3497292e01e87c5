-- Bytes kept in one part and the next.
use Rattle.std.specs.Prelude.{◌≡◌, refl, List, [], ◌∷◌, ◌++◌, ℕ}
use Rattle.session_lines.specs.declared.kept.Kept.{Kept}
use Rattle.session_lines.specs.Kept.{keep_all, keep_of}

pub keep_append : (k : Kept) (x y : List ℕ) → keep_all k (x ++ y) ≡ keep_all (keep_all k x) y
keep_append k [] y = refl
keep_append k (b ∷ x) y = keep_append (keep_of k b) x y
