-- A recording's lines (request 2026-05), place by place: three ports, P 2, and a text that begins at 100. Each figure is counted on the line as it stands.
use Rattle.std.specs.Prelude.{◌≡◌, Bool, true, false, List, [], ◌∷◌, ◌++◌, ℕ, ◌+◌, ◌-◌, ◌≤◌, ◌<◌, length, replicate}
use Rattle.std.proofs.Common.{arith, le-leb, le-ltb, lt-ltb, ne_eqb}
use Rattle.std.proofs.lemmas.Bool.{lt-leb}
use Rattle.ground.specs.Plain.{◌<?◌}
use Rattle.ground.specs.Finding.{index_of}
use Rattle.recording.specs.declared.pairs.Settings.{Settings}
use Rattle.recording.specs.declared.record.Record.TheVariants.{End, Frame, Long, Malformed, Unfinished}
use Rattle.recording.specs.declared.opening.Opening.{Opening}
use Rattle.recording.specs.Opening.{line_opening, opening_by, opening_in}
use Rattle.recording.specs.declared.opening.Opening.TheVariants as O
use Rattle.recording.specs.Pairs.{first_pairs, pairs_from, settings_of}
use Rattle.recording.specs.Record.{last_record, line_record, record_by, record_in}
use Rattle.text.specs.Ascii.{ascii}
use Rattle.text.specs.Text.{LINE-END, fields_of}
use Rattle.pinned.specs.Opened.{all_open}
use Rattle.tables.specs.Rows.{Pinned, pins, row, same}

a_frame : Pinned
unfolding all_open
a_frame =
    pins "A frame's line, here of eleven bytes with its payload of four digits at 107, with its end and without (request 2026-05)"
    (row "with its end" (record_in 3 2 100 (ascii "2\tf0\t1\tAb0C\nx")) (Frame 2 240 true 107 112) same
    ∷ row "without it the line is not finished" (record_in 3 2 100 (ascii "2\tf0\t1\tAb0C")) Unfinished same
    ∷ row "as the last line it is one" (last_record 3 2 100 (ascii "2\tf0\t1\tAb0C")) (Frame 2 240 true 107 111) same
    ∷ row "no line" (record_in 3 2 100 []) End same
    ∷ row "no last line" (last_record 3 2 100 []) End same
    ∷ row "numbers of nine digits" (record_in 3 2 100 (ascii "000000002\t0F\t0\tffff\n")) (Frame 2 15 false 115 120) same
    ∷ [])

no_frames : Pinned
unfolding all_open
no_frames =
    pins "Lines that are none, each passed over to its end: no field, one, two, three and five fields, a port above, no port, three digits of H4, no H4, a flag of 2, a payload of three digits, a port of ten digits (request 2026-05)"
    (row "no field" (record_in 3 2 100 (ascii "\n")) (Malformed 101) same
    ∷ row "one field" (record_in 3 2 100 (ascii "2\n")) (Malformed 102) same
    ∷ row "two fields" (record_in 3 2 100 (ascii "2\tf0\n")) (Malformed 105) same
    ∷ row "three fields" (record_in 3 2 100 (ascii "2\tf0\t1\n")) (Malformed 107) same
    ∷ row "five fields" (record_in 3 2 100 (ascii "2\tf0\t1\tAb0C\t\n")) (Malformed 113) same
    ∷ row "port 3 of three" (record_in 3 2 100 (ascii "3\tf0\t1\tAb0C\n")) (Malformed 112) same
    ∷ row "no port" (record_in 3 2 100 (ascii "x\tf0\t1\tAb0C\n")) (Malformed 112) same
    ∷ row "three digits of H4" (record_in 3 2 100 (ascii "2\t0f0\t1\tAb0C\n")) (Malformed 113) same
    ∷ row "H4 that is no hex" (record_in 3 2 100 (ascii "2\tfg\t1\tAb0C\n")) (Malformed 112) same
    ∷ row "a flag of 2" (record_in 3 2 100 (ascii "2\tf0\t2\tAb0C\n")) (Malformed 112) same
    ∷ row "a payload of three digits" (record_in 3 2 100 (ascii "2\tf0\t1\tAb0\n")) (Malformed 111) same
    ∷ row "a port of ten digits" (record_in 3 2 100 (ascii "0000000002\tf0\t1\tAb0C\n")) (Malformed 121) same
    ∷ [])

in_a_row : Pinned
unfolding all_open
in_a_row =
    pins "A line is read with more than a line behind it, and the next from the next place on (request 2026-05)"
    (row "the first" (record_in 3 2 5 (ascii "0\t1a\t0\t0000\n1\t2b\t1\tffff\n")) (Frame 0 26 false 12 17) same
    ∷ row "the second" (record_in 3 2 17 (ascii "1\t2b\t1\tffff\n")) (Frame 1 43 true 24 29) same
    ∷ [])

-- the first line

abbrev settings : (kind : ℕ) (hold restore : List ℕ) (ports size window : ℕ) → Settings
settings kind hold restore ports size window =
    record { hold_off = hold ++ replicate (64 - length hold) 0; restore = restore ++ replicate (64 - length restore) 0; kind = kind; ports = ports; size = size; window = window }

first_lines : Pinned
unfolding all_open
first_lines =
    pins "The first line: ports, P and W, then pairs; it is read to its end (request 2026-05; of VC-12, 2026-01)."
    (row "with its end" (opening_in 50 false (ascii "3\t2\t32\nx")) (O.Settings (settings 0 [] [] 3 2 32) 57) same
    ∷ row "without it" (opening_in 50 false (ascii "3\t2\t32")) O.Unfinished same
    ∷ row "as the last line" (opening_in 50 true (ascii "3\t2\t32")) (O.Settings (settings 0 [] [] 3 2 32) 56) same
    ∷ row "no last line" (opening_in 50 true []) O.End same
    ∷ row "no line" (opening_in 50 false []) O.End same
    ∷ row "numbers of nine digits" (opening_in 0 false (ascii "000000003\t000000002\t000000032\n")) (O.Settings (settings 0 [] [] 3 2 32) 30) same
    ∷ row "VC-12 with hold-offs" (opening_in 0 false (ascii "3\t136\t32\tkind\tVC12\thold-off\t1\t2\t3\n")) (O.Settings (settings 1 (1 ∷ 2 ∷ 3 ∷ []) [] 3 136 32) 34) same
    ∷ [])

no_first_lines : Pinned
unfolding all_open
no_first_lines =
    pins "First lines that are none: no field, one and two; each number none; a pair left half, and kinds that are none (request 2026-05)"
    (row "no field" (opening_in 0 false (ascii "\n")) O.Malformed same
    ∷ row "one" (opening_in 0 false (ascii "3\n")) O.Malformed same
    ∷ row "two" (opening_in 0 false (ascii "3\t2\n")) O.Malformed same
    ∷ row "ports that are no number" (opening_in 0 false (ascii "x\t2\t32\n")) O.Malformed same
    ∷ row "P that is none" (opening_in 0 false (ascii "3\tx\t32\n")) O.Malformed same
    ∷ row "W that is none" (opening_in 0 false (ascii "3\t2\tx\n")) O.Malformed same
    ∷ row "kind with none behind it" (opening_in 0 false (ascii "1\t2\t32\tkind\n")) O.Malformed same
    ∷ row "vc12 in small letters" (opening_in 0 false (ascii "1\t136\t32\tkind\tvc12\n")) O.Malformed same
    ∷ row "VC1" (opening_in 0 false (ascii "1\t136\t32\tkind\tVC1\n")) O.Malformed same
    ∷ row "kind twice" (opening_in 0 false (ascii "1\t136\t32\tkind\tVC12\tkind\tVC12\n")) O.Malformed same
    ∷ row "hold-off with none behind it" (opening_in 0 false (ascii "1\t2\t32\thold-off\n")) O.Malformed same
    ∷ row "wait-to-restore with none behind it" (opening_in 0 false (ascii "1\t2\t32\twait-to-restore\n")) O.Malformed same
    ∷ [])

-- The pairs in any order: one port with a kind, a hold-off of 4 and a wait-to-restore of 6
abbrev K : List (List ℕ)
K = ascii "kind" ∷ ascii "FIXED" ∷ []

abbrev H : List (List ℕ)
H = ascii "hold-off" ∷ ascii "4" ∷ []

abbrev R : List (List ℕ)
R = ascii "wait-to-restore" ∷ ascii "6" ∷ []

-- one port, P 2 and W 32
abbrev one : List (List ℕ) → Opening
one pairs = opening_by 7 (ascii "1" ∷ ascii "2" ∷ ascii "32" ∷ pairs)

abbrev all : Opening
all = O.Settings (settings 2 (4 ∷ []) (6 ∷ []) 1 2 32) 7

any_order : Pinned
unfolding all_open
any_order =
    pins "The pairs in any order: one port with a kind, a hold-off of 4 and a wait-to-restore of 6 (request 2026-05)."
    (row "kind, hold-off, wait-to-restore" (one (K ++ H ++ R)) all same
    ∷ row "kind, wait-to-restore, hold-off" (one (K ++ R ++ H)) all same
    ∷ row "hold-off, kind, wait-to-restore" (one (H ++ K ++ R)) all same
    ∷ row "hold-off, wait-to-restore, kind" (one (H ++ R ++ K)) all same
    ∷ row "wait-to-restore, kind, hold-off" (one (R ++ K ++ H)) all same
    ∷ row "wait-to-restore, hold-off, kind" (one (R ++ H ++ K)) all same
    ∷ [])

at_most_once : Pinned
unfolding all_open
at_most_once =
    pins "Each pair at most once, whatever stands between the two (request 2026-05)"
    (row "kind twice" (one (K ++ K)) O.Malformed same
    ∷ row "with hold-off between" (one (K ++ H ++ K)) O.Malformed same
    ∷ row "with wait-to-restore between" (one (K ++ R ++ K)) O.Malformed same
    ∷ row "hold-off twice" (one (H ++ H)) O.Malformed same
    ∷ row "with kind between the two hold-offs" (one (H ++ K ++ H)) O.Malformed same
    ∷ row "with wait-to-restore between the two hold-offs" (one (H ++ R ++ H)) O.Malformed same
    ∷ row "wait-to-restore twice" (one (R ++ R)) O.Malformed same
    ∷ row "with kind between the two" (one (R ++ K ++ R)) O.Malformed same
    ∷ row "with hold-off between the two" (one (R ++ H ++ R)) O.Malformed same
    ∷ [])

for_each_port : Pinned
unfolding all_open
for_each_port =
    pins "A number for each port, and not for each byte of P; a number has at most nine digits (request 2026-05)"
    (row "two ports with both times" (opening_by 7 (ascii "2" ∷ ascii "3" ∷ ascii "32" ∷ ascii "hold-off" ∷ ascii "5" ∷ ascii "6" ∷ ascii "wait-to-restore" ∷ ascii "7" ∷ ascii "8" ∷ [])) (O.Settings (settings 0 (5 ∷ 6 ∷ []) (7 ∷ 8 ∷ []) 2 3 32) 7) same
    ∷ row "a hold-off of nine digits" (one (ascii "hold-off" ∷ ascii "000000005" ∷ [])) (O.Settings (settings 0 (5 ∷ []) [] 1 2 32) 7) same
    ∷ row "of ten" (one (ascii "hold-off" ∷ ascii "0000000005" ∷ [])) O.Malformed same
    ∷ row "a wait-to-restore of nine digits" (one (ascii "wait-to-restore" ∷ ascii "000000005" ∷ [])) (O.Settings (settings 0 [] (5 ∷ []) 1 2 32) 7) same
    ∷ row "of ten digits" (one (ascii "wait-to-restore" ∷ ascii "0000000005" ∷ [])) O.Malformed same
    ∷ row "one that is no number" (one (ascii "wait-to-restore" ∷ ascii "x" ∷ [])) O.Malformed same
    ∷ row "a hold-off that is none" (one (ascii "hold-off" ∷ ascii "x" ∷ [])) O.Malformed same
    ∷ row "kind H5 with H4 behind it" (one (ascii "kind" ∷ ascii "H5" ∷ ascii "H4" ∷ [])) O.Malformed same
    ∷ row "kind H5 with a number behind it" (one (ascii "kind" ∷ ascii "H5" ∷ ascii "5" ∷ [])) O.Malformed same
    ∷ row "no hold-off, with H4 behind it" (one (ascii "hold-off" ∷ ascii "x" ∷ ascii "H4" ∷ [])) O.Malformed same
    ∷ row "no hold-off, with a number behind it" (one (ascii "hold-off" ∷ ascii "x" ∷ ascii "5" ∷ [])) O.Malformed same
    ∷ row "no wait-to-restore, with H4 behind it" (one (ascii "wait-to-restore" ∷ ascii "x" ∷ ascii "H4" ∷ [])) O.Malformed same
    ∷ row "no wait-to-restore, with a number behind it" (one (ascii "wait-to-restore" ∷ ascii "x" ∷ ascii "5" ∷ [])) O.Malformed same
    ∷ row "no port, hold-off and then kind" (opening_by 7 (ascii "0" ∷ ascii "1" ∷ ascii "16" ∷ ascii "hold-off" ∷ ascii "kind" ∷ ascii "H4" ∷ [])) (O.Settings (settings 0 [] [] 0 1 16) 7) same
    ∷ row "no port, wait-to-restore and then kind" (opening_by 7 (ascii "0" ∷ ascii "1" ∷ ascii "16" ∷ ascii "wait-to-restore" ∷ ascii "kind" ∷ ascii "H4" ∷ [])) (O.Settings (settings 0 [] [] 0 1 16) 7) same
    ∷ [])

last_port : Pinned
unfolding all_open
last_port =
    pins "The number of the last of 64 ports is kept (request 2026-05)"
    (row "its hold-off" (settings_of (pairs_from (first_pairs 64 1 16) (ascii "hold-off" ∷ replicate 64 (ascii "7")))).hold_off (replicate 64 7) same
    ∷ row "its wait-to-restore" (settings_of (pairs_from (first_pairs 64 1 16) (ascii "wait-to-restore" ∷ replicate 64 (ascii "7")))).restore (replicate 64 7) same
    ∷ [])

-- 'Lines hold at most 8,192 bytes.' The first line too, whether it has ended or not.
pub opening_within : (next : ℕ) (line : List ℕ) → length line ≤ 8192 → line_opening next line ≡ opening_by next (fields_of line)
unfolding all_open
opening_within next line b = rw (le-leb (length line) 8192 b)

pub opening_above : (next : ℕ) (line : List ℕ) → 8192 < length line → line_opening next line ≡ O.Malformed
unfolding all_open
opening_above next line b = rw (lt-leb (length line) 8192 b)

pub opening_open : (at : ℕ) (rest : List ℕ) → 0 < length rest → length rest ≤ 8192 → (index_of LINE-END rest <? length rest) ≡ false
    → opening_in at false rest ≡ O.Unfinished
unfolding all_open
opening_open at rest some b e = rw (ne_eqb (length rest) 0 (λ z. omega arith), e, le-ltb 8192 (length rest) b)

pub opening_long : (at : ℕ) (last : Bool) (rest : List ℕ) → 8192 < length rest → (index_of LINE-END rest <? length rest) ≡ false → opening_in at last rest ≡ O.Malformed
unfolding all_open
opening_long at last rest b e = rw (ne_eqb (length rest) 0 (λ z. omega arith), e, lt-ltb 8192 (length rest) b)

-- 'Lines hold at most 8,192 bytes.' (request 2026-05) Any other line too is read by its fields up to that, and is malformed above it, whether it has ended or not.
pub line_within : (ports size at next : ℕ) (line : List ℕ) → length line ≤ 8192
    → line_record ports size at next line ≡ record_by ports size (at + length line) next (fields_of line)
unfolding all_open
line_within ports size at next line b = rw (le-leb (length line) 8192 b)

pub line_above : (ports size at next : ℕ) (line : List ℕ) → 8192 < length line → line_record ports size at next line ≡ Malformed next
unfolding all_open
line_above ports size at next line b = rw (lt-leb (length line) 8192 b)

-- one that has no end yet, and so may still be a line or not
pub open_within : (ports size at : ℕ) (rest : List ℕ) → 0 < length rest → length rest ≤ 8192 → (index_of LINE-END rest <? length rest) ≡ false
    → record_in ports size at rest ≡ Unfinished
unfolding all_open
open_within ports size at rest some b e = rw (ne_eqb (length rest) 0 (λ z. omega arith), e, le-ltb 8192 (length rest) b)

pub open_above : (ports size at : ℕ) (rest : List ℕ) → 8192 < length rest → (index_of LINE-END rest <? length rest) ≡ false → record_in ports size at rest ≡ Long
unfolding all_open
open_above ports size at rest b e = rw (ne_eqb (length rest) 0 (λ z. omega arith), e, lt-ltb 8192 (length rest) b)
