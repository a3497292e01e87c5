-- The first line of a recording (2026-05): 'the group's settings in the first line'.
use Rattle.std.specs.Prelude.{Bool, List, [], ◌∷◌, ℕ, ◌+◌, length, if◌then◌else◌, Option, Some, None}
use Rattle.ground.specs.Plain.{◌≤?◌}
use Rattle.ground.specs.Types.{Bytes}
use Rattle.recording.specs.declared.opening.Opening.{Opening}
use Rattle.recording.specs.declared.opening.Opening.TheVariants.{Settings, Malformed, Unfinished, End}
use Rattle.recording.specs.declared.line.Found.{Found}
use Rattle.recording.specs.declared.line.Found.TheVariants.{Nothing, Open, TooLong, Ends}
use Rattle.recording.specs.declared.pairs.Awaited.{Awaited}
use Rattle.recording.specs.declared.pairs.Awaited.TheVariants.{Name, Kind, Time}
use Rattle.recording.specs.declared.pairs.Awaited.TheVariants as A
use Rattle.recording.specs.declared.pairs.Pairs.{Pairs}
use Rattle.recording.specs.declared.pairs.Settings as S
use Rattle.recording.specs.Line.{MOST, first_line, found_of}
use Rattle.recording.specs.Pairs.{first_pairs, pairs_from, settings_of}
use Rattle.text.specs.Fields.{number_of}
use Rattle.text.specs.Text.{fields_of}

-- settings and the place of the next line; the pairs are whole where a name might follow
abbrev pub opened_by : (awaited : Awaited) (s : S.Settings) (next : ℕ) → Opening
opened_by Name s next = Settings s next
opened_by Kind s next = Malformed
opened_by (Time t i) s next = Malformed
opened_by A.Nothing s next = Malformed

unfoldable pub opened : Pairs → ℕ → Opening
opened p next = opened_by p.awaited (settings_of p) next

unfoldable pub settings_by : (ports size window : Option ℕ) (pairs : List (List ℕ)) (next : ℕ) → Opening
settings_by (Some ports) (Some size) (Some window) pairs next = opened (pairs_from (first_pairs ports size window) pairs) next
settings_by (Some ports) (Some size) None pairs next = Malformed
settings_by (Some ports) None window pairs next = Malformed
settings_by None size window pairs next = Malformed

-- ports, P and W in decimal, and the pairs
abbrev pub opening_by : ℕ → List (List ℕ) → Opening
opening_by next [] = Malformed
opening_by next (a ∷ []) = Malformed
opening_by next (a ∷ b ∷ []) = Malformed
opening_by next (ports ∷ size ∷ window ∷ pairs) = settings_by (number_of 9 ports) (number_of 9 size) (number_of 9 window) pairs next

unfoldable pub line_opening : ℕ → Bytes → Opening
line_opening next line = if length line ≤? MOST then opening_by next (fields_of line) else Malformed

-- what is left of a text from a place on; its last line may lack its end
abbrev pub opening_found : (at : ℕ) (last : Bool) (rest : Bytes) (found : Found) → Opening
opening_found at last rest Nothing = End
opening_found at last rest Open = if last then line_opening (at + length rest) rest else Unfinished
opening_found at last rest TooLong = Malformed
opening_found at last rest (Ends end) = line_opening (end + 1) (first_line rest)

unfoldable pub opening_in : (at : ℕ) (last : Bool) (rest : Bytes) → Opening
opening_in at last rest = opening_found at last rest (found_of at rest)
