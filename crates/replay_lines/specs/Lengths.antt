-- What a recording's first line asks to be lent (2026-05), told before its replay begins: so a host other than the program can lend what any group asks for.
use Rattle.std.specs.Prelude.{ℕ, Bool, true, ◌&&◌, List, if◌then◌else◌}
use Rattle.recording.specs.declared.opening.Opening.{Opening}
use Rattle.recording.specs.Opening.{opening_in}
use Rattle.recording.specs.declared.opening.Opening.TheVariants as O
use Rattle.recording.specs.declared.pairs.Settings.{Settings as GroupSettings}
use Rattle.replay_lines.specs.declared.lengths.Lengths.{Lengths}
use Rattle.replay_lines.specs.Replay.{output_of}
use Rattle.replay_lines.specs.Turn.{is_sized, store_in, times_fit}

-- settings that some store is enough for
unfoldable pub in_range : GroupSettings → Bool
in_range s = is_sized s && times_fit s

-- 13 and 4 come with no lengths
abbrev pub no_lengths : ℕ → Lengths
no_lengths answer = record { store = 0; out = 0; answer = answer }

abbrev pub lengths_with : GroupSettings → Lengths
lengths_with s = record { store = store_in s; out = output_of s.kind s.ports s.size; answer = 0 }

unfoldable pub lengths_in : GroupSettings → Lengths
lengths_in s = if in_range s then lengths_with s else no_lengths 4

abbrev pub lengths_by : Opening → Lengths
lengths_by (O.Settings s next) = lengths_in s
lengths_by O.Malformed = no_lengths 13
lengths_by O.Unfinished = no_lengths 13
lengths_by O.End = no_lengths 13

-- of the first line of a text, which may lack its end
unfoldable pub lengths_of : List ℕ → Lengths
lengths_of text = lengths_by (opening_in 0 true text)
