-- A text as its bytes in ASCII.
use Rattle.std.specs.Prelude.{List, ℕ}
use mathlib.Core.List as L
use Prim.Native.Char.{code}
use Prim.Native.String.{String, [], ◌∷◌}

abbrev pub ascii : String → List ℕ
ascii [] = L.[]
ascii (c ∷ text) = L.◌∷◌ (code c) (ascii text)
