-- Wrong readings of 2026-05, each as a definition with a run on which it breaks what the request says.
use Rattle.std.specs.Prelude.{◌≡◌, refl, List, [], ◌∷◌, ◌++◌, ℕ, replicate, take, Option, Some, None, true, false}
use Rattle.recording.specs.declared.pairs.Settings.{Settings}
use Rattle.recording.specs.declared.record.Record.TheVariants.{Frame, Malformed}
use Rattle.recording.specs.declared.opening.Opening.{Opening}
use Rattle.recording.specs.Opening.{line_opening, opening_by}
use Rattle.recording.specs.declared.opening.Opening.TheVariants as O
use Rattle.recording.specs.Record.{flag_in, line_record}
use Rattle.text.specs.Ascii.{ascii}
use Rattle.text.specs.Fields.{number_of}
use Rattle.text.specs.Text.{fields_of}
use Rattle.recording.specs.Opened.{recording_open}

-- The flag as a number: then `00` is a flag, and 2 as well. The request has a flag, 0 or 1.
wrong_flag : List ℕ → Option ℕ
wrong_flag field = number_of 9 field

flag_breaks : (wrong_flag (ascii "00") ≡ Some 0) × (flag_in (ascii "00") ≡ None) × (flag_in (ascii "1") ≡ Some true)
unfolding recording_open wrong_flag
flag_breaks = (refl, refl, refl)

-- a line of one port and P 1, and lines that are none: a port too high, a payload of two bytes, a carriage return
lines_read : (line_record 1 1 0 10 (ascii "0\tf0\t0\tAb") ≡ Frame 0 240 false 7 10) × (line_record 1 1 0 10 (ascii "1\tf0\t0\tAb") ≡ Malformed 10)
    × (line_record 1 1 0 12 (ascii "0\tf0\t0\tAbAb") ≡ Malformed 12) × (line_record 1 1 0 11 (ascii "0\tf0\t0\tAb\r") ≡ Malformed 11)
unfolding recording_open
lines_read = (refl, refl, refl, refl)

-- A pair that is not read: then a group with times replays as one with none. `hold-off` and `wait-to-restore` have a number for each port.
wrong_pairs : ℕ → List ℕ → Opening
wrong_pairs next line = opening_by next (take 3 (fields_of line))

-- A list for fewer ports, the others taken as zeros.
wrong_list : ℕ → List ℕ → Opening
wrong_list next line = opening_by next (fields_of line ++ (ascii "0" ∷ []))

-- two ports, P 1 and W 16
abbrev two : List ℕ → List ℕ → Settings
two hold restore = record { hold_off = hold; restore = restore; kind = 0; ports = 2; size = 1; window = 16 }

abbrev zeros : ℕ → List ℕ
zeros n = replicate n 0

pairs_break : (wrong_pairs 0 (ascii "2\t1\t16\thold-off\t5\t7") ≡ O.Settings (two (zeros 64) (zeros 64)) 0)
    × (line_opening 0 (ascii "2\t1\t16\thold-off\t5\t7") ≡ O.Settings (two (5 ∷ 7 ∷ zeros 62) (zeros 64)) 0)
unfolding recording_open wrong_pairs
pairs_break = (refl, refl)

list_breaks : (wrong_list 0 (ascii "2\t1\t16\thold-off\t5") ≡ O.Settings (two (5 ∷ zeros 63) (zeros 64)) 0) × (line_opening 0 (ascii "2\t1\t16\thold-off\t5") ≡ O.Malformed)
unfolding recording_open wrong_list
list_breaks = (refl, refl)

-- the kinds, both lists in either order, and what is no pair: a list for one port too many, a pair twice, a name that no pair has, a kind that the product does not have
pairs_read : (line_opening 0 (ascii "2\t1\t16\twait-to-restore\t1\t002\tkind\tH4\thold-off\t5000\t999999999") ≡ O.Settings (two (5000 ∷ 999999999 ∷ zeros 62) (1 ∷ 2 ∷ zeros 62)) 0)
    × (line_opening 0 (ascii "2\t1\t16\tkind\tFIXED") ≡ O.Settings (record { hold_off = zeros 64; restore = zeros 64; kind = 2; ports = 2; size = 1; window = 16 }) 0)
    × (line_opening 0 (ascii "2\t1\t16\tkind\tVC12") ≡ O.Settings (record { hold_off = zeros 64; restore = zeros 64; kind = 1; ports = 2; size = 1; window = 16 }) 0)
    × (line_opening 0 (ascii "2\t1\t16\tkind\tVC-12") ≡ O.Malformed)
    × (line_opening 0 (ascii "2\t1\t16\thold-off\t5\t5\t5") ≡ O.Malformed) × (line_opening 0 (ascii "2\t1\t16\thold-off\t5\t5\thold-off\t5\t5") ≡ O.Malformed)
    × (line_opening 0 (ascii "2\t1\t16\tholdoff\t5\t5") ≡ O.Malformed) × (line_opening 0 (ascii "2\t1\t16\tkind\tK4") ≡ O.Malformed) × (line_opening 0 (ascii "2\t1\t16\t") ≡ O.Malformed)
unfolding recording_open
pairs_read = (refl, refl, refl, refl, refl, refl, refl, refl, refl)
