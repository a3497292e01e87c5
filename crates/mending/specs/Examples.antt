-- Recordings torn and mended, worked out apart from the definitions.
use Rattle.std.specs.Prelude.{◌≡◌, refl, Bool, true, false, List, [], ◌∷◌, ◌++◌, ℕ, length, replicate}
use Rattle.recording.specs.Record.{is_frame}
use Rattle.mending.specs.Follow.{beginning, following}
use Rattle.mending.specs.Following.{followed}
use Rattle.mending.specs.Lines.{record_of}
use Rattle.mending.specs.Mending.{mend_answer, mended_of, notes_of, read_answer}
use Rattle.mending.specs.Undone.{told_again}
use Rattle.text.specs.Ascii.{ascii}
use Rattle.mending.specs.Opened.{mending_open}

-- Counts of one port, by the request's sentences and by the automaton

record Row : Type 0 where
  torn : List ℕ
  mended : List ℕ

abbrev row : List ℕ → List ℕ → Row
row torn mended = record { torn = torn; mended = mended }

abbrev as_it_is : List ℕ → Row
as_it_is torn = row torn torn

table : List Row
table =
    row (5 ∷ 6 ∷ 0 ∷ 8 ∷ []) (5 ∷ 6 ∷ 7 ∷ 8 ∷ [])
    ∷ row (5 ∷ 0 ∷ 0 ∷ 0 ∷ 9 ∷ []) (5 ∷ 6 ∷ 7 ∷ 8 ∷ 9 ∷ [])
    ∷ as_it_is (5 ∷ 0 ∷ 0 ∷ 0 ∷ 0 ∷ 9 ∷ [])
    ∷ as_it_is (5 ∷ 0 ∷ 1 ∷ 2 ∷ 3 ∷ 4 ∷ [])
    ∷ row (5 ∷ 1 ∷ 9 ∷ 3 ∷ 4 ∷ 5 ∷ []) (5 ∷ 1 ∷ 2 ∷ 3 ∷ 4 ∷ 5 ∷ [])
    ∷ row (5 ∷ 0 ∷ 9 ∷ 2 ∷ []) (5 ∷ 0 ∷ 1 ∷ 2 ∷ [])
    ∷ row (5 ∷ 9 ∷ 9 ∷ 9 ∷ 9 ∷ 9 ∷ 9 ∷ 11 ∷ []) (5 ∷ 6 ∷ 7 ∷ 8 ∷ 9 ∷ 9 ∷ 10 ∷ 11 ∷ [])
    ∷ row (5 ∷ 7 ∷ 8 ∷ 10 ∷ 10 ∷ 12 ∷ []) (5 ∷ 7 ∷ 8 ∷ 9 ∷ 10 ∷ 12 ∷ [])
    ∷ as_it_is (0 ∷ 2 ∷ 0 ∷ 2 ∷ 0 ∷ 2 ∷ [])
    ∷ as_it_is (5 ∷ 6 ∷ 9 ∷ [])
    ∷ as_it_is (1 ∷ 1 ∷ [])
    ∷ as_it_is (15 ∷ 0 ∷ 1 ∷ [])
    ∷ row (15 ∷ 9 ∷ 1 ∷ []) (15 ∷ 0 ∷ 1 ∷ [])
    ∷ row (14 ∷ 3 ∷ 0 ∷ []) (14 ∷ 15 ∷ 0 ∷ [])
    ∷ as_it_is []
    ∷ []

abbrev torn_in : List Row → List (List ℕ)
torn_in [] = []
torn_in (r ∷ rs) = followed r.torn ∷ following beginning [] r.torn ∷ torn_in rs

abbrev mended_in : List Row → List (List ℕ)
mended_in [] = []
mended_in (r ∷ rs) = r.mended ∷ r.mended ∷ mended_in rs

counts : torn_in table ≡ mended_in table
unfolding mending_open table
counts = refl

-- Texts

abbrev both_for : List ℕ → List (List ℕ)
both_for text = mended_of text ∷ notes_of text ∷ []

abbrev both_of : List ℕ → List ℕ → List (List ℕ)
both_of mended notes = mended ∷ notes ∷ []

-- two ports, each restored by its own lines
two_ports : both_for (ascii "2\t1\t16\n0\t05\t0\tAA\n1\t29\t0\tBB\n0\t10\t0\tAA\n1\t2f\t0\tBB\n1\t2B\t0\tBB\n0\t17\t0\tAA\n")
    ≡ both_of (ascii "2\t1\t16\n0\t05\t0\tAA\n1\t29\t0\tBB\n0\t16\t0\tAA\n1\t2A\t0\tBB\n1\t2B\t0\tBB\n0\t17\t0\tAA\n") (ascii "4\tH4\t10\t16\n5\tH4\t2f\t2A\n")
unfolding mending_open
two_ports = refl

-- a line dropped between good ones: the count goes on
dropped_between : both_for (ascii "1\t1\t16\n0\t00\t0\tAA\nx\n0\t01\t0\tAA\n") ≡ both_of (ascii "1\t1\t16\n0\t00\t0\tAA\n0\t01\t0\tAA\n") (ascii "3\tline\tx\t\n")
unfolding mending_open
dropped_between = refl

-- an empty line, and one with tabs
dropped_whole : both_for (ascii "1\t1\t16\n\n0\t01\t0\tAA\t\r\n") ≡ both_of (ascii "1\t1\t16\n") (ascii "2\tline\t\t\n3\tline\t0\t01\t0\tAA\t\r\t\n")
unfolding mending_open
dropped_whole = refl

-- a flagged line counts, and is restored
flagged : both_for (ascii "1\t1\t16\n0\t00\t0\tAA\n0\t07\t1\tAA\n0\t02\t0\tAA\n") ≡ both_of (ascii "1\t1\t16\n0\t00\t0\tAA\n0\t01\t1\tAA\n0\t02\t0\tAA\n") (ascii "3\tH4\t07\t01\n")
unfolding mending_open
flagged = refl

-- small letters stay, a restored digit is a capital
letters : both_for (ascii "1\t1\t16\n0\tfa\t0\taa\n0\tfc\t0\taa\n0\tfc\t0\taa\n") ≡ both_of (ascii "1\t1\t16\n0\tfa\t0\taa\n0\tfB\t0\taa\n0\tfc\t0\taa\n") (ascii "3\tH4\tfc\tfB\n")
unfolding mending_open
letters = refl

-- a fixed group, with P 2: it is followed as H4 is
fixed_group : both_for (ascii "1\t2\t16\tkind\tFIXED\n0\t05\t0\tAABB\n0\t5f\t0\tCCDD\n0\t07\t0\tEEFF\n")
    ≡ both_of (ascii "1\t2\t16\tkind\tFIXED\n0\t05\t0\tAABB\n0\t56\t0\tCCDD\n0\t07\t0\tEEFF\n") (ascii "3\tH4\t5f\t56\n")
unfolding mending_open
fixed_group = refl

-- VC-12 (request 2026-01): two ports, P 136. A line that is none is dropped, and no byte of the others is altered, though their second digits would break a count of H4
abbrev vc12_line : List ℕ → List ℕ
vc12_line front = front ++ replicate 272 65 ++ ascii "\n"

abbrev vc12_group : List ℕ → List ℕ
vc12_group dropped =
    ascii "2\t136\t32\tkind\tVC12\n" ++ vc12_line (ascii "0\t03\t0\t") ++ vc12_line (ascii "0\t0f\t0\t") ++ dropped ++ vc12_line (ascii "1\t02\t0\t") ++ vc12_line (ascii "0\t05\t1\t")

vc12_group_lem : both_for (vc12_group (ascii "0\t02\t0\tAA\n")) ≡ both_of (vc12_group []) (ascii "4\tline\t0\t02\t0\tAA\t\n")
unfolding mending_open
vc12_group_lem = refl

-- behind F comes 0; three are restored at once
wrapped : both_for (ascii "1\t1\t16\n0\t0E\t0\tAA\n0\t13\t0\tAA\n0\t2F\t0\tAA\n0\t3F\t0\tAA\n0\t02\t0\tAA\n")
    ≡ both_of (ascii "1\t1\t16\n0\t0E\t0\tAA\n0\t1F\t0\tAA\n0\t20\t0\tAA\n0\t31\t0\tAA\n0\t02\t0\tAA\n") (ascii "3\tH4\t13\t1F\n4\tH4\t2F\t20\n5\tH4\t3F\t31\n")
unfolding mending_open
wrapped = refl

-- Lines of 8,192 and of 8,193 bytes: no payload within range makes a line so long, so both are dropped. By their length alone the first may be a frame's and the second never.
abbrev frame_line : List ℕ → List ℕ
frame_line port = port ++ ascii "\t05\t0\t" ++ replicate 8184 65

long_lines : both_for (ascii "1\t1\t16\n" ++ frame_line (ascii "0") ++ ascii "A\n" ++ frame_line (ascii "10") ++ ascii "A\n0\t00\t0\tAA\n")
    ≡ both_of (ascii "1\t1\t16\n0\t00\t0\tAA\n") (ascii "2\tline\t" ++ frame_line (ascii "0") ++ ascii "A\t\n3\tline\t" ++ frame_line (ascii "10") ++ ascii "A\t\n")
unfolding mending_open
long_lines = refl

abbrev is_frame_of : (ports size : ℕ) (bytes : List ℕ) → Bool
is_frame_of ports size bytes = is_frame (record_of ports size (record { bytes = bytes; end = [] }))

longest : (is_frame_of 11 4092 (frame_line (ascii "10")) ≡ true) × (is_frame_of 11 4092 (frame_line (ascii "010")) ≡ false) × (length (frame_line (ascii "10")) ≡ 8192) × (length (frame_line (ascii "010")) ≡ 8193)
unfolding mending_open
longest = (refl, refl, refl, refl)

-- no last end, the line kept and dropped
no_end_kept : both_for (ascii "1\t1\t16\n0\t00\t0\tAA") ≡ both_of (ascii "1\t1\t16\n0\t00\t0\tAA") []
unfolding mending_open
no_end_kept = refl

no_end_dropped : both_for (ascii "1\t1\t16\n0\t00\t0\tAA\n0\t0") ≡ both_of (ascii "1\t1\t16\n0\t00\t0\tAA\n") (ascii "3\tline\t0\t0\t\n")
unfolding mending_open
no_end_dropped = refl

-- the torn recording told again; a dropped last line gets an end
abbrev again : List ℕ → List ℕ
again text = told_again (mended_of text) (notes_of text)

told_again_lem : (again (ascii "1\t1\t16\n0\tfa\t0\taa\nx\t\ty\n0\tfc\t0\taa\n0\tfc\t0\taa") ≡ ascii "1\t1\t16\n0\tfa\t0\taa\nx\t\ty\n0\tfc\t0\taa\n0\tfc\t0\taa")
    × (again (ascii "1\t1\t16\n\n0\t0") ≡ ascii "1\t1\t16\n\n0\t0\n")
unfolding mending_open
told_again_lem = (refl, refl)

-- First lines

abbrev answers : List (List ℕ) → List ℕ
answers [] = []
answers (t ∷ ts) = read_answer t ∷ answers ts

-- 13 comes before 4
first_lines : answers (ascii "x" ∷ [] ∷ ascii "\n1\t1\t16\n" ∷ ascii "1\t1\t16\t" ∷ ascii "65\t1\t16" ∷ ascii "2\t1\t16\thold-off\t1\t5001" ∷ ascii "2\t1\t16\thold-off\t1\t5001\t7" ∷ ascii "2\t1\t16\thold-off\t1\t5000" ∷ ascii "1\t1\t16\tkind\tFIXED" ∷ ascii "1\t136\t32\tkind\tVC12" ∷ ascii "1\t135\t32\tkind\tVC12" ∷ ascii "1\t1\t16\tkind\tfixed" ∷ ascii "1\t1\t16\tspeed\t1" ∷ replicate 8193 49 ∷ [])
    ≡ 13 ∷ 13 ∷ 13 ∷ 13 ∷ 4 ∷ 4 ∷ 13 ∷ 0 ∷ 0 ∷ 0 ∷ 4 ∷ 13 ∷ 13 ∷ 13 ∷ []
unfolding mending_open
first_lines = refl

-- 9 comes behind both, and is for either length
lengths : (mend_answer (ascii "x") 1 1 ≡ 13) × (mend_answer (ascii "65\t1\t16") 1 1 ≡ 4) × (mend_answer (ascii "1\t1\t16\nx") 8 10 ≡ 9) × (mend_answer (ascii "1\t1\t16\nx") 7 9 ≡ 9) × (mend_answer (ascii "1\t1\t16\nx") 7 10 ≡ 0)
unfolding mending_open
lengths = (refl, refl, refl, refl, refl)
