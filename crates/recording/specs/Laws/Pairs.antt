-- The pairs of a first line as the code has them.
use Rattle.std.specs.Prelude.{List, [], ℕ, Option, Some, None}
use Rattle.std.specs.Borrow.{Bor}
use Rattle.recording.specs.declared.opening.Opening.{Opening}
use Rattle.recording.specs.declared.opening.Opening.TheVariants as O
use Rattle.recording.specs.declared.pairs.Awaited.{Awaited}
use Rattle.recording.specs.declared.pairs.Awaited.TheVariants.{Name, Kind, Time, Nothing}
use Rattle.recording.specs.declared.pairs.Pairs.{Pairs}
use Rattle.recording.specs.declared.pairs.Settings.{Settings}
use Rattle.recording.specs.Pairs.{settings_of}
use Rattle.text.specs.Text.{fields_of}

-- the fields of the rest of a line, if there is one
abbrev pub fields_in : Option (Bor (List ℕ)) → List (List ℕ)
fields_in (Some rest) = fields_of rest.now
fields_in None = []

-- the settings, where no pair is left half
abbrev pub settings_if : Awaited → Settings → Option Settings
settings_if Name s = Some s
settings_if Kind s = None
settings_if (Time t i) s = None
settings_if Nothing s = None

abbrev pub settings_told : Pairs → Option Settings
settings_told p = settings_if p.awaited (settings_of p)

abbrev pub opening_with : Option Settings → ℕ → Opening
opening_with (Some s) next = O.Settings s next
opening_with None next = O.Malformed
