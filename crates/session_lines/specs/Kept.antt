-- The line that the input has begun and not ended.
use Rattle.std.specs.Prelude.{List, [], ◌∷◌, ℕ, ◌+◌, replicate, set, take, if◌then◌else◌}
use Rattle.ground.specs.Plain.{◌<?◌}
use Rattle.session_lines.specs.declared.kept.Kept.{Kept}

unfoldable pub nothing_kept : Kept
nothing_kept = record { bytes = replicate 81 0; count = 0 }

-- a byte more, as long as there is room
unfoldable pub keep_of : Kept → ℕ → Kept
keep_of k b = if k.count <? 81 then (record { bytes = set k.bytes k.count b; count = k.count + 1 }) else k

abbrev pub keep_all : Kept → List ℕ → Kept
keep_all k [] = k
keep_all k (b ∷ l) = keep_all (keep_of k b) l

-- the bytes of the line so far, at most 81 of them
unfoldable pub line_in : Kept → List ℕ
line_in k = take k.count k.bytes
