-- Bytes kept one by one.
use mathlib.Core.Path.{◌≡◌}
use mathlib.Core.List.{List, [], ◌∷◌}
use Prim.Native.Nat.{ℕ, ◌+◌, ◌<◌}
use native.Mathlib.Numerals.{add-one}
use lib.ListN.{length, take, get_or}
use lib.Seq.{take-suc}
use Rattle.session_lines.specs.declared.kept.Kept.{Kept}
use Rattle.session_lines.specs.Kept.{keep_all, keep_of}
use Rattle.session_lines.specs.Laws.Keeping.{keep_append}

pub keep_turn : (k₀ k : Kept) (input : List ℕ) (i : ℕ) → i < length input → k ≡ keep_all k₀ (take i input) → keep_of k (get_or input i 0) ≡ keep_all k₀ (take (i + 1) input)
keep_turn k₀ k input i h e = rw (e, add-one, take-suc input i 0 h, keep_append k₀ (take i input) (get_or input i 0 ∷ []))
