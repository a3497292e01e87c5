-- A replay for C, and what a first line asks to be lent (request 2026-05): lengths worked out by hand, a state's bytes by the header, and turns on one port with P 1 and W 16.
use Rattle.std.specs.Prelude.{List, [], ◌∷◌, ◌++◌, ℕ, drop, replicate}
use Rattle.c_recordings.specs.Replays.{begin_answer_c, begin_state_c, bytes_of, lengths_answer_c, out_length_c, replay_of, store_length_c, turn_answer_c, turn_at_c, turn_rows_c, turn_said_c, turn_state_c, turn_store_c, turn_wants_c, turn_written_c}
use Rattle.pinned.specs.Filled.{nines}
use Rattle.pinned.specs.Opened.{all_open}
use Rattle.replay_lines.specs.declared.lengths.Lengths.{Lengths}
use Rattle.replay_lines.specs.declared.replay.Phase.TheVariants.{Settings, Reading, Fetching, Skipping, Ended}
use Rattle.replay_lines.specs.declared.replay.Replay.{Replay}
use Rattle.replay_lines.specs.Lengths.{lengths_of}
use Rattle.text.specs.Ascii.{ascii}
use Rattle.tables.specs.Rows.{Pinned, pins, row, same}

abbrev told : (answer store out : ℕ) → Lengths
told answer store out = record { store = store; out = out; answer = answer }

lengths : Pinned
unfolding all_open
lengths =
    pins "How many bytes of store and output a recording's first line asks for (request 2026-05): ports x W x (P+1) and ports x 16 x P, of VC-12 ports x 32 x P."
    (row "six ports of VC-3" (lengths_of (ascii "6\t756\t64")) (told 0 290688 72576) same
    ∷ row "with lines behind it" (lengths_of (ascii "6\t756\t64\nx\n")) (told 0 290688 72576) same
    ∷ row "two ports of VC-12" (lengths_of (ascii "2\t136\t32\tkind\tVC12\n")) (told 0 8768 8704) same
    ∷ row "the largest group" (lengths_of (ascii "64\t2340\t2048")) (told 0 306839552 2396160) same
    ∷ row "65 ports" (lengths_of (ascii "65\t1\t16")) (told 4 0 0) same
    ∷ row "a time of 5,000" (lengths_of (ascii "1\t1\t16\thold-off\t5000")) (told 0 32 16) same
    ∷ row "a time of 5,001" (lengths_of (ascii "1\t1\t16\thold-off\t5001")) (told 4 0 0) same
    ∷ row "no first line" (lengths_of (ascii "x\n1\t1\t16")) (told 13 0 0) same
    ∷ row "no text" (lengths_of []) (told 13 0 0) same
    ∷ [])

in_c : Pinned
unfolding all_open
in_c =
    pins "The same in C: the caller's numbers stay under a refusal (request 2026-05)."
    (row "they are answered 0" (lengths_answer_c (ascii "1\t1\t16")) 0 same
    ∷ row "the store's" (store_length_c (ascii "1\t1\t16") 5) 32 same
    ∷ row "the output's" (out_length_c (ascii "1\t1\t16") 6) 16 same
    ∷ row "65 ports are 4" (lengths_answer_c (ascii "65\t1\t16")) 4 same
    ∷ row "65 ports are 4, and leave the store's" (store_length_c (ascii "65\t1\t16") 5) 5 same
    ∷ row "65 ports leave the output's" (out_length_c (ascii "65\t1\t16") 6) 6 same
    ∷ [])

-- behind line 258 x 2^32 + 5, with 300 fetches left: two ports of VC-12, P 136, W 512
abbrev replay : Replay
replay = record { phase = Fetching; line = 1108101562373; left = 300; kind = 1; ports = 2; size = 136; window = 512 }

abbrev bytes : List ℕ
bytes = 2 ∷ 0 ∷ 0 ∷ 1 ∷ 2 ∷ 0 ∷ 0 ∷ 0 ∷ 5 ∷ 1 ∷ 44 ∷ 1 ∷ 2 ∷ 0 ∷ 136 ∷ 2 ∷ 0 ∷ []

states : Pinned
unfolding all_open
states =
    pins "A replay's 17 bytes: phase, line, fetches left, kind and ports, P, W, numbers highest byte first; a start lays zeros (include/levelspruce.h)."
    (row "each field at its bytes" (bytes_of replay) bytes same
    ∷ row "each field at its bytes, and back" (replay_of bytes) replay same
    ∷ row "phase 3 is skipping" (replay_of (3 ∷ drop 1 bytes)).phase Skipping same
    ∷ row "phase 4 is ended" (replay_of (4 ∷ drop 1 bytes)).phase Ended same
    ∷ row "phase 1 is reading" (replay_of (1 ∷ drop 1 bytes)).phase Reading same
    ∷ row "any other is the first line's" (replay_of (5 ∷ drop 1 bytes)).phase Settings same
    ∷ row "the largest line number" (replay_of (replicate 17 255)).line 18446744073709551615 same
    ∷ row "a start is answered 0" (begin_answer_c (nines 17)) 0 same
    ∷ row "a start" (begin_state_c (nines 17)) (replicate 17 0) same
    ∷ row "in 16 bytes it is 9" (begin_answer_c (nines 16)) 9 same
    ∷ row "in 16 bytes it is 9, and they stay" (begin_state_c (nines 16)) (nines 16) same
    ∷ [])

abbrev rows : List (List ℕ)
rows = replicate 321 (replicate 16 9)

abbrev text : List ℕ
text = ascii "1\t1\t16\nx\n"

-- the group of the first line, behind so many lines
abbrev standing : ℕ → List ℕ
standing lines = 1 ∷ 0 ∷ 0 ∷ 0 ∷ 0 ∷ 0 ∷ 0 ∷ 0 ∷ lines ∷ 0 ∷ 0 ∷ 0 ∷ 1 ∷ 0 ∷ 1 ∷ 0 ∷ 16 ∷ []

turns : Pinned
unfolding all_open
turns =
    pins "A turn goes on from its place in the text: the first line from place 0 on, the second one from place 7 on; the numbers 5 and 6 are the caller's (request 2026-05)"
    (row "the first line is answered 0" (turn_answer_c (replicate 17 0) text 0 0 rows (nines 32) (nines 16) 1219) 0 same
    ∷ row "the state behind it" (turn_state_c (replicate 17 0) text 0 0 rows (nines 32) (nines 16) 1219) (standing 1) same
    ∷ row "the place behind it" (turn_at_c (replicate 17 0) text 0 0 rows (nines 32) (nines 16) 1219) 7 same
    ∷ row "the store" (turn_store_c (replicate 17 0) text 0 0 rows (nines 32) (nines 16) 1219) (replicate 32 0) same
    ∷ row "nothing written" (turn_written_c (replicate 17 0) text 0 0 rows (nines 32) (nines 16) 1219 5) 0 same
    ∷ row "nothing wanted" (turn_wants_c (replicate 17 0) text 0 0 rows (nines 32) (nines 16) 1219 6) 0 same
    ∷ row "the second line is answered 0" (turn_answer_c (standing 1) text 7 0 rows (nines 32) (nines 16) 1219) 0 same
    ∷ row "the state behind the second" (turn_state_c (standing 1) text 7 0 rows (nines 32) (nines 16) 1219) (standing 2) same
    ∷ row "the place behind the second" (turn_at_c (standing 1) text 7 0 rows (nines 32) (nines 16) 1219) 9 same
    ∷ row "what is said of the second" (turn_said_c (standing 1) text 7 0 rows (nines 32) (nines 16) (nines 1219)) (ascii "answer\t13\tline\t2\n" ++ nines 1202) same
    ∷ row "17 bytes written" (turn_written_c (standing 1) text 7 0 rows (nines 32) (nines 16) 1219 5) 17 same
    ∷ row "at the end more is wanted" (turn_wants_c (standing 2) text 9 0 rows (nines 32) (nines 16) 1219 6) 1 same
    ∷ [])

lasts : Pinned
unfolding all_open
lasts =
    pins "A last line that lacks its end is one where the number for it is any but 0 (request 2026-05)"
    (row "with 0 more is wanted" (turn_wants_c (standing 1) (ascii "x") 0 0 rows (nines 32) (nines 16) 1219 6) 1 same
    ∷ row "with 0 more is wanted, and the place stays" (turn_at_c (standing 1) (ascii "x") 0 0 rows (nines 32) (nines 16) 1219) 0 same
    ∷ row "with 2 the line is taken" (turn_at_c (standing 1) (ascii "x") 0 2 rows (nines 32) (nines 16) 1219) 1 same
    ∷ row "with 2 the line is taken, and answered" (turn_written_c (standing 1) (ascii "x") 0 2 rows (nines 32) (nines 16) 1219 5) 17 same
    ∷ [])

nines_said : Pinned
unfolding all_open
nines_said =
    pins "9 for a state of another length, a place behind the text's end, a store that is too short; nothing is changed (request 2026-05)"
    (row "a state of 16 bytes" (turn_answer_c (replicate 16 0) text 0 0 rows (nines 32) (nines 16) 1219) 9 same
    ∷ row "a place behind the end" (turn_answer_c (replicate 17 0) text 10 0 rows (nines 32) (nines 16) 1219) 9 same
    ∷ row "a place behind the end, and it stays" (turn_at_c (replicate 17 0) text 10 0 rows (nines 32) (nines 16) 1219) 10 same
    ∷ row "a store that is too short" (turn_answer_c (standing 1) text 7 0 rows (nines 31) (nines 16) 1219) 9 same
    ∷ row "the state stays" (turn_state_c (standing 1) text 7 0 rows (nines 31) (nines 16) 1219) (standing 1) same
    ∷ row "the place stays" (turn_at_c (standing 1) text 7 0 rows (nines 31) (nines 16) 1219) 7 same
    ∷ row "the number written stays" (turn_written_c (standing 1) text 7 0 rows (nines 31) (nines 16) 1219 5) 5 same
    ∷ row "the number wanted stays" (turn_wants_c (standing 1) text 7 0 rows (nines 31) (nines 16) 1219 6) 6 same
    ∷ row "the rows stay" (turn_rows_c (standing 1) text 7 0 rows (nines 31) (nines 16) 1219) rows same
    ∷ [])
