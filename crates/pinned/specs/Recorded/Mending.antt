-- Mending (request 2026-11), whole and clause by clause: a recording of one port and P 1 whose first line has 7 bytes and each frame's line 10; one line of one byte is dropped and one count restored.
use Rattle.std.specs.Prelude.{List, [], ◌++◌, ◌∷◌, ℕ, ◌+◌, replicate}
use Rattle.c_recordings.specs.Mends.{lengths_answer_c, mend_answer_c, mended_c, mended_length_c, notes_c, notes_length_c}
use Rattle.pinned.specs.Opened.{all_open}
use Rattle.mending.specs.Mending.{mend_answer, read_answer}
use Rattle.mending.specs.Told.{lengths_of, mended_left, notes_left, told}
use Rattle.text.specs.Ascii.{ascii}
use Rattle.tables.specs.Rows.{Pinned, pins, row, same}

abbrev recording : List ℕ
recording = ascii "1\t1\t16\n0\t05\t0\tAB\nx\n0\t2f\t0\tAB\n0\t07\t0\tAB\n"

abbrev mended : List ℕ
mended = ascii "1\t1\t16\n0\t05\t0\tAB\n0\t26\t0\tAB\n0\t07\t0\tAB\n"

abbrev notes : List ℕ
notes = ascii "3\tline\tx\t\n4\tH4\t2f\t26\n"

-- two ports with P 3 of a fixed group, a line of each torn, one of them flagged: the first line has 18 bytes with its end and each other line 14
abbrev fixed : List ℕ
fixed = ascii "2\t3\t16\tkind\tFIXED\n1\t0F\t0\t00aa01\n0\t13\t0\t00bb01\n1\te9\t1\t00cc01\n0\t1b\t0\t00dd01\n0\t15\t0\t00ee01\n1\t01\t0\t00ff01\n"

abbrev fixed_mended : List ℕ
fixed_mended = ascii "2\t3\t16\tkind\tFIXED\n1\t0F\t0\t00aa01\n0\t13\t0\t00bb01\n1\te0\t1\t00cc01\n0\t14\t0\t00dd01\n0\t15\t0\t00ee01\n1\t01\t0\t00ff01\n"

abbrev fixed_notes : List ℕ
fixed_notes = ascii "4\tH4\te9\te0\n5\tH4\t1b\t14\n"

-- buffers that are lent
abbrev lent : ℕ → List ℕ
lent n = replicate n 7

lengths : Pinned
unfolding all_open
lengths =
    pins "How many bytes the mended recording and its notes have, and none under a refusal (request 2026-11)."
    (row "one line dropped and one count restored" (lengths_of recording) (record { mended = 37; notes = 21; answer = 0 }) same
    ∷ row "no first line" (lengths_of (ascii "x")) (record { mended = 0; notes = 0; answer = 13 }) same
    ∷ row "a first line out of range" (lengths_of (ascii "65\t1\t16")) (record { mended = 0; notes = 0; answer = 4 }) same
    ∷ [])

largest : Pinned
largest =
    pins "A length of more than a size_t holds is told as the largest number (request 2026-11)"
    (row "one less" (told 18446744073709551614) 18446744073709551614 same
    ∷ row "the largest" (told 18446744073709551615) 18446744073709551615 same
    ∷ row "one more" (told 18446744073709551616) 18446744073709551615 same
    ∷ [])

left : Pinned
unfolding all_open
left =
    pins "Buffers of exactly these lengths are written, and of any other left as they were, with 9 (request 2026-11)."
    (row "its answer" (mend_answer recording 37 21) 0 same
    ∷ row "the mended recording" (mended_left recording (lent 37) (lent 21)) mended same
    ∷ row "the notes" (notes_left recording (lent 37) (lent 21)) notes same
    ∷ row "36 bytes for the recording are 9" (mend_answer recording 36 21) 9 same
    ∷ row "36 bytes for the recording are 9, and stay" (mended_left recording (lent 36) (lent 21)) (lent 36) same
    ∷ row "36 bytes for the recording are 9, and the notes stay" (notes_left recording (lent 36) (lent 21)) (lent 21) same
    ∷ row "22 bytes for the notes are 9" (mend_answer recording 37 22) 9 same
    ∷ row "22 bytes for the notes are 9, and the recording stays" (mended_left recording (lent 37) (lent 22)) (lent 37) same
    ∷ row "22 bytes for the notes are 9, and stay" (notes_left recording (lent 37) (lent 22)) (lent 22) same
    ∷ [])

in_c : Pinned
unfolding all_open
in_c =
    pins "In C the caller's lengths and buffers stay under a refusal (request 2026-11)"
    (row "lengths are answered 0" (lengths_answer_c recording) 0 same
    ∷ row "the recording's" (mended_length_c recording 5) 37 same
    ∷ row "the notes'" (notes_length_c recording 6) 21 same
    ∷ row "no first line is 13" (lengths_answer_c (ascii "x")) 13 same
    ∷ row "no first line is 13, and leaves the recording's length" (mended_length_c (ascii "x") 5) 5 same
    ∷ row "no first line leaves the notes' length" (notes_length_c (ascii "x") 6) 6 same
    ∷ row "mending is answered 0" (mend_answer_c recording (lent 37) (lent 21)) 0 same
    ∷ row "the recording" (mended_c recording (lent 37) (lent 21)) mended same
    ∷ row "the notes" (notes_c recording (lent 37) (lent 21)) notes same
    ∷ row "a first line out of range is 4" (mend_answer_c (ascii "65\t1\t16") (lent 1) (lent 2)) 4 same
    ∷ row "a first line out of range is 4, and leaves the recording" (mended_c (ascii "65\t1\t16") (lent 1) (lent 2)) (lent 1) same
    ∷ row "a first line out of range leaves the notes" (notes_c (ascii "65\t1\t16") (lent 1) (lent 2)) (lent 2) same
    ∷ [])

two_ports : Pinned
unfolding all_open
two_ports =
    pins "A fixed group is followed as H4 is, each port by its own lines, flagged ones too, and behind F comes 0 (request 2026-11)"
    (row "its lengths are answered 0" (lengths_answer_c fixed) 0 same
    ∷ row "the recording's" (mended_length_c fixed 5) 102 same
    ∷ row "the notes'" (notes_length_c fixed 6) 22 same
    ∷ row "the recording" (mended_c fixed (lent 102) (lent 22)) fixed_mended same
    ∷ row "the notes" (notes_c fixed (lent 102) (lent 22)) fixed_notes same
    ∷ [])

-- VC-12 (request 2026-01): a line with a payload of 135 bytes is dropped, and nothing is restored: second digits 0, 0 and 2 would be a count of H4 that broke
abbrev vc12_line : List ℕ → ℕ → List ℕ
vc12_line h4 bytes = ascii "0\t" ++ h4 ++ ascii "\t0\t" ++ replicate (bytes + bytes) 48 ++ ascii "\n"

abbrev vc12 : List ℕ → List ℕ
vc12 torn = ascii "1\t136\t32\tkind\tVC12\n" ++ vc12_line (ascii "00") 136 ++ vc12_line (ascii "00") 136 ++ torn ++ vc12_line (ascii "02") 136

of_vc12_lem : Pinned
unfolding all_open
of_vc12_lem =
    pins "VC-12 (request 2026-01): a line with a payload of 135 bytes is dropped, and nothing is restored: second digits 0, 0 and 2 would be a count of H4 that broke."
    (row "its lengths are answered 0" (lengths_answer_c (vc12 (vc12_line (ascii "01") 135))) 0 same
    ∷ row "the recording's" (mended_length_c (vc12 (vc12_line (ascii "01") 135)) 5) 859 same
    ∷ row "the notes'" (notes_length_c (vc12 (vc12_line (ascii "01") 135)) 6) 286 same
    ∷ row "the recording without the line" (mended_c (vc12 (vc12_line (ascii "01") 135)) (lent 859) (lent 286)) (vc12 []) same
    ∷ [])

empty_lines : Pinned
unfolding all_open
empty_lines =
    pins "An empty line of one byte has a note of nine (request 2026-11)"
    (row "two of them are dropped" (mended_length_c (ascii "1\t1\t16\n\n\n") 5) 7 same
    ∷ row "two of them are dropped, their notes" (notes_length_c (ascii "1\t1\t16\n\n\n") 6) 18 same
    ∷ [])

refused : Pinned
unfolding all_open
refused =
    pins "13: no line, a first line that is empty, one field too few; 4: no port, too many, no window, a payload above 2,340 bytes, a time above 5,000, a payload that is not VC-12's (request 2026-11)"
    (row "no line" (read_answer []) 13 same
    ∷ row "an empty first line" (read_answer (ascii "\n")) 13 same
    ∷ row "two fields" (read_answer (ascii "1\t1\n")) 13 same
    ∷ row "no port" (read_answer (ascii "0\t1\t16\n")) 4 same
    ∷ row "65 ports" (read_answer (ascii "65\t1\t16\n")) 4 same
    ∷ row "W 0" (read_answer (ascii "1\t1\t0\n")) 4 same
    ∷ row "a P of 2,341" (read_answer (ascii "1\t2341\t16\n")) 4 same
    ∷ row "a time of 5,001" (read_answer (ascii "2\t1\t16\twait-to-restore\t5000\t5001")) 4 same
    ∷ row "a time for one of two ports" (read_answer (ascii "2\t1\t16\twait-to-restore\t5000")) 13 same
    ∷ row "the largest group" (read_answer (ascii "64\t2340\t16")) 0 same
    ∷ row "VC-12 with a P of 135" (read_answer (ascii "1\t135\t32\tkind\tVC12")) 4 same
    ∷ row "VC-12 with W 31" (read_answer (ascii "1\t136\t31\tkind\tVC12")) 4 same
    ∷ row "VC-12 with a P of 136 and W 32" (read_answer (ascii "1\t136\t32\tkind\tVC12")) 0 same
    ∷ [])
