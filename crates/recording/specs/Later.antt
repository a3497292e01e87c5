-- What is read of a text, where the text begins at a place of a longer one: the places that it names are later by that place.
use Rattle.std.specs.Prelude.{ℕ, ◌+◌}
use Rattle.recording.specs.declared.record.Record.{Record}
use Rattle.recording.specs.declared.record.Record.TheVariants.{Frame, Malformed, Long, Unfinished, End}
use Rattle.recording.specs.declared.opening.Opening.{Opening}
use Rattle.recording.specs.declared.opening.Opening.TheVariants as O

abbrev pub later : ℕ → Record → Record
later at (Frame port h4 flag place next) = Frame port h4 flag (at + place) (at + next)
later at (Malformed next) = Malformed (at + next)
later at Long = Long
later at Unfinished = Unfinished
later at End = End

abbrev pub opens_later : ℕ → Opening → Opening
opens_later at (O.Settings settings next) = O.Settings settings (at + next)
opens_later at O.Malformed = O.Malformed
opens_later at O.Unfinished = O.Unfinished
opens_later at O.End = O.End
