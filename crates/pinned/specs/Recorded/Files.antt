-- A recording in files, each closed (request 2026-05): what a host has written is worked out on the lines as they stand, and the theorems on it are used there, so that a statement that lost a part would be seen.
use Rattle.std.specs.Prelude.{◌≡◌, true, false, List, [], ◌∷◌, ◌++◌, ℕ, replicate}
use Rattle.std.proofs.Common.{arith}
use Rattle.pinned.specs.Filled.{nines}
use Rattle.recording.specs.Pairs.{first_pairs, settings_of}
use Rattle.replay_lines.specs.Deeds.{Deed, begins_with, joined, run, with_end}
use Rattle.replay_lines.specs.Deeds.Deed.{Call, Close, Read}
use Rattle.replay_lines.specs.Printing.{all_lines}
use Rattle.replay_lines.specs.Printing.Event.{Refused}
use Rattle.replay_lines.specs.Replay.{STORE}
use Rattle.replay_lines.specs.Runs.{Host}
use Rattle.replay_lines.specs.Theorems.Cuts.{closed_whole, cut_anywhere}
use Rattle.replay_lines.specs.Theorems.Printed.{printed}
use Rattle.replay_lines.specs.Turn.{startable}
use Rattle.text.specs.Ascii.{ascii}
use Rattle.pinned.specs.Opened.{all_open}
use Rattle.tables.specs.Rows.{Pinned, pins, row, same}

stores : Pinned
unfolding all_open
stores =
    pins "'a store above 65,536 bytes in the program': 1 x 2,048 x (31+1) is 65,536, with P 32 it is 67,584 (request 2026-05)"
    (row "31 bytes a frame are taken" (startable (settings_of (first_pairs 1 31 2048)) STORE) true same
    ∷ row "32 are not" (startable (settings_of (first_pairs 1 32 2048)) STORE) false same
    ∷ [])

ends : Pinned
ends =
    pins "The last line of a part has its end put behind it where it lacks one (request 2026-05)."
    (row "nothing stays nothing" (with_end []) [] same
    ∷ row "a line that lacks its end" (with_end (ascii "a")) (ascii "a\n") same
    ∷ row "a line with its end" (with_end (ascii "a\n")) (ascii "a\n") same
    ∷ row "an empty last line" (with_end (ascii "a\n\n")) (ascii "a\n\n") same
    ∷ row "a last line that lacks it" (with_end (ascii "a\nb")) (ascii "a\nb\n") same
    ∷ [])

-- one port, P 1, W 16
abbrev rows : List (List ℕ)
rows = replicate 321 (replicate 16 9)

abbrev host : Host
host = begins_with rows (nines 32) (nines 32) (nines 1219)

-- two files, of which neither ends in a line end
abbrev two_files : List Deed
two_files = Read (ascii "1\t1\t16\nx") ∷ Close ∷ Read (ascii "y") ∷ Close ∷ []

-- an empty file, one cut within its first line and not closed there, an empty one again, and one with its end
abbrev four_files : List Deed
four_files = Close ∷ Read (ascii "1\t1\t") ∷ Call ∷ Read (ascii "16") ∷ Close ∷ Close ∷ Read (ascii "x\n") ∷ Close ∷ []

written : Pinned
unfolding all_open
written =
    pins "Files closed one after the other are one recording, each with its last line ended, and what is said goes on by line (request 2026-05)."
    (row "two files, neither with a line end at its end" (joined two_files) (ascii "1\t1\t16\nx\ny\n") same
    ∷ row "what is said of them" (run host two_files).said (ascii "answer\t13\tline\t2\nanswer\t13\tline\t3\n") same
    ∷ row "four files, two of them empty, one cut within a line" (joined four_files) (ascii "1\t1\t16\nx\n") same
    ∷ row "what is said of the four" (run host four_files).said (ascii "answer\t13\tline\t2\n") same
    ∷ row "two parts that are not closed" (joined (Read (ascii "a") ∷ Call ∷ Read (ascii "b") ∷ [])) (ascii "ab") same
    ∷ [])

-- The theorems used: each side is worked out by itself.

closed_used : (run host two_files).said ≡ ascii "answer\t13\tline\t2\nanswer\t13\tline\t3\n"
unfolding all_open
closed_used = closed_whole rows (nines 32) (nines 32) (nines 1219) (omega arith) (omega arith) (omega arith) (Read (ascii "1\t1\t16\nx") ∷ Close ∷ Read (ascii "y") ∷ [])

-- `x` is not closed: 13 for line 2 is still to come
cut_used : [] ++ ascii "answer\t13\tline\t2\n" ≡ ascii "answer\t13\tline\t2\n"
unfolding all_open
cut_used = cut_anywhere rows (nines 32) (nines 32) (nines 1219) (omega arith) (omega arith) (omega arith) (Read (ascii "1\t1\t16\nx") ∷ Call ∷ []) 0

printed_used : ascii "answer\t13\tline\t2" ∷ ascii "answer\t13\tline\t3" ∷ [] ≡ all_lines (Refused 13 2 ∷ Refused 13 3 ∷ [])
unfolding all_open
printed_used = printed (nines 32) rows (nines 32) (ascii "1\t1\t16\nx\ny")
