-- 'Lines of text, fields parted by tabs.' (01, 'Session')
use Rattle.std.specs.Prelude.{List, [], ◌∷◌, ℕ, ◌+◌, length, take, drop, Option, Some, None, if◌then◌else◌, ◌==◌}
use Rattle.std.specs.Borrow.{Bor}
use Rattle.ground.specs.Finding.{index_of}
use Rattle.ground.specs.Plain.{◌<?◌}
use Rattle.ground.specs.Types.{Bytes}

abbrev pub TAB : ℕ
TAB = 9

abbrev pub LINE-END : ℕ
LINE-END = 10

-- a byte more at the front of the first piece
abbrev pub ahead : ℕ → List (List ℕ) → List (List ℕ)
ahead b [] = (b ∷ []) ∷ []
ahead b (p ∷ ps) = (b ∷ p) ∷ ps

-- a text parted at each mark; an empty text has the pieces z
abbrev pub parted : (mark : ℕ) (z : List (List ℕ)) (text : Bytes) → List (List ℕ)
parted mark z [] = z
parted mark z (b ∷ text) = if b == mark then [] ∷ parted mark z text else ahead b (parted mark z text)

-- the fields of a line; an empty line has one, which is empty
unfoldable pub fields_of : Bytes → List (List ℕ)
fields_of line = parted TAB ([] ∷ []) line

-- the first field of a line and what stands behind its tab, if there is one
unfoldable pub first_part : Bytes → Option (List ℕ × List ℕ)
first_part line = if index_of TAB line <? length line then Some (take (index_of TAB line) line, drop (index_of TAB line + 1) line) else None

-- these parts where they are lent
abbrev pub lent_parts : Option (Bor (List ℕ) × Bor (List ℕ)) → Option (List ℕ × List ℕ)
lent_parts (Some (field, rest)) = Some (field.now, rest.now)
lent_parts None = None

-- the lines of an input; the last one may lack its end, and behind the last end there is none
unfoldable pub lines_of : Bytes → List (List ℕ)
lines_of input = parted LINE-END [] input
