-- Changes that fit a board and changes that can be spoken (request 2026-10), and those that differ from them in one thing. The board: NORM 0, NORM 1, EOS 2, no wait.
use Rattle.std.specs.Prelude.{◌≡◌, refl, Bool, true, false, List, [], ◌∷◌, ◌++◌, ℕ, ◌+◌, ◌-◌, length, replicate, take}
use Rattle.std.proofs.Common.{sym, ◌∙◌}
use Rattle.ground.specs.Table.{tabulate}
use Rattle.sender.specs.Board.{board_of}
use Rattle.sender.specs.Calls.Call.{AddSlot}
use Rattle.sender.specs.declared.board.Board.{Board}
use Rattle.sender.specs.declared.board.Row.{Row}
use Rattle.sender.specs.Epochs.{begin_of}
use Rattle.sender.specs.Epochs.SenderCall.{OnTable, StartEpoch}
use Rattle.sender.specs.Numbering.{Demand2}
use Rattle.spoken.specs.Applying.{applied_of}
use Rattle.spoken.specs.Changes.{answer_number, compared_of}
use Rattle.spoken.specs.declared.lists.Change.{Change}
use Rattle.spoken.specs.declared.lists.Changes.{Changes}
use Rattle.spoken.specs.declared.lists.WaitChange.{WaitChange}
use Rattle.spoken.specs.declared.lists.WaitChange.TheVariants.{Same, Opened, Closed}
use Rattle.spoken.specs.Listening.{Moment, known_with}
use Rattle.spoken.specs.Runs.{runs_of, spread}
use Rattle.spoken.specs.Speaking.{speak_answer, speech_bytes, speech_of, spoken_text}
use Rattle.spoken.specs.SpeakingRuns.{runs_speech_bytes, runs_speech_of, runs_text, whole_answer, whole_speech_bytes, whole_speech_of, whole_text}
use Rattle.spoken.specs.Taking.{taken_of}
use Rattle.spoken.specs.Theorems.Listener.{one_table}
use Rattle.text.specs.Ascii.{ascii}
use Rattle.pinned.specs.Opened.{all_open}
use Rattle.tables.specs.Rows.{Pinned, pins, row, same}

abbrev shows : ℕ → ℕ → Row
shows word number = record { word = record { 0 = word }; number = number }

abbrev board : (rows : List Row) (count : ℕ) (wait : Bool) → Board
board rows count wait = record { rows = rows ++ replicate (64 - length rows) (shows 5 255); count = count; wait = wait }

abbrev old : Bool → Board
old wait = board (shows 2 0 ∷ shows 2 1 ∷ shows 3 2 ∷ []) 3 wait

abbrev change : (slot : ℕ) (was now : Row) → Change
change slot was now = record { slot = slot; old = was; new = now }

abbrev changes : List Change → WaitChange → Changes
changes list wait = record { list = list ++ replicate (64 - length list) (change 0 (shows 0 0) (shows 0 0)); count = length list; wait = wait }

-- slot 1 goes IDLE, slot 2 becomes EOS 1
abbrev gone : Change
gone = change 1 (shows 2 1) (shows 5 255)

abbrev moved : Change
moved = change 2 (shows 3 2) (shows 3 1)

-- all of 64 slots are added
abbrev every : Changes
every = record { list = tabulate 64 (λ i. change i (shows 5 255) (shows 1 i)); count = 64; wait = Same }

abbrev applied : Board → Changes → ℕ
applied b cs = answer_number (applied_of b cs).answer

fitting : Pinned
unfolding all_open
fitting =
    pins "Changes fit a board in slot order, each slot below the count, from what the board has to something else, the wait opened where there is none and closed where there is one (request 2026-10)"
    (row "two changes and a wait that opens" (applied_of (old false) (changes (gone ∷ moved ∷ []) Opened)).board (board (shows 2 0 ∷ shows 5 255 ∷ shows 3 1 ∷ []) 3 true) same
    ∷ row "a change and a wait that closes" (applied_of (old true) (changes (moved ∷ []) Closed)).board (board (shows 2 0 ∷ shows 2 1 ∷ shows 3 1 ∷ []) 3 false) same
    ∷ row "none" (applied_of (old true) (changes [] Same)).board (old true) same
    ∷ row "two changes and a wait that opens are answered 0" (applied (old false) (changes (gone ∷ moved ∷ []) Opened)) 0 same
    ∷ row "not in slot order" (applied (old false) (changes (moved ∷ gone ∷ []) Opened)) 2 same
    ∷ row "not in slot order, which leaves the board" (applied_of (old false) (changes (moved ∷ gone ∷ []) Opened)).board (old false) same
    ∷ row "a slot twice" (applied (old false) (changes (gone ∷ gone ∷ []) Opened)) 2 same
    ∷ row "opened where one is open" (applied (old true) (changes (gone ∷ moved ∷ []) Opened)) 2 same
    ∷ row "closed where none is" (applied (old false) (changes (gone ∷ moved ∷ []) Closed)) 2 same
    ∷ row "slot 3 of three" (applied (old false) (changes (change 3 (shows 5 255) (shows 1 3) ∷ []) Same)) 2 same
    ∷ row "from another word" (applied (old false) (changes (change 1 (shows 3 1) (shows 5 255) ∷ []) Same)) 2 same
    ∷ row "from another number" (applied (old false) (changes (change 1 (shows 2 0) (shows 5 255) ∷ []) Same)) 2 same
    ∷ row "to the same" (applied (old false) (changes (change 1 (shows 2 1) (shows 2 1) ∷ []) Same)) 2 same
    ∷ row "to another word alone" (applied (old false) (changes (change 1 (shows 2 1) (shows 3 1) ∷ []) Same)) 0 same
    ∷ row "to another number alone" (applied (old false) (changes (change 1 (shows 2 1) (shows 2 0) ∷ []) Same)) 0 same
    ∷ row "a board of 64" (applied (board [] 64 false) (changes [] Same)) 0 same
    ∷ row "a board of 65" (applied (board [] 65 false) (changes [] Same)) 2 same
    ∷ row "65 changes" (applied (old false) (record { list = replicate 64 gone; count = 65; wait = Same })) 2 same
    ∷ row "none on a board with a wait" (applied (old true) (changes [] Same)) 0 same
    ∷ row "a wait that stays" (applied_of (old false) (changes (moved ∷ []) Same)).board (board (shows 2 0 ∷ shows 2 1 ∷ shows 3 1 ∷ []) 3 false) same
    ∷ row "64 changes" (applied (board [] 64 false) every) 0 same
    ∷ [])

comparing : Pinned
unfolding all_open
comparing =
    pins "Changes are told from one board to the next; boards of 65 slots, which no call returns, are 4 (request 2026-10)"
    (row "two changes and a wait that opens" (compared_of (old false) (board (shows 2 0 ∷ shows 5 255 ∷ shows 3 1 ∷ []) 3 true)).changes (changes (gone ∷ moved ∷ []) Opened) same
    ∷ row "a change and a wait that closes" (compared_of (old true) (board (shows 2 0 ∷ shows 2 1 ∷ shows 3 1 ∷ []) 3 false)).changes (changes (moved ∷ []) Closed) same
    ∷ row "equal boards" (compared_of (old true) (old true)).changes (changes [] Same) same
    ∷ row "a wait alone" (answer_number (compared_of (old true) (old false)).answer) 0 same
    ∷ row "counts that differ" (answer_number (compared_of (old true) (board [] 2 true)).answer) 4 same
    ∷ row "counts that differ, which tell nothing" (compared_of (old true) (board [] 2 false)).changes (changes [] Same) same
    ∷ row "65 slots" (answer_number (compared_of (board [] 65 true) (board [] 65 true)).answer) 4 same
    ∷ row "64 slots" (answer_number (compared_of (board [] 64 true) (board [] 64 true)).answer) 0 same
    ∷ [])

abbrev told : Changes → ℕ
told cs = answer_number (speak_answer cs (replicate 2188 0))

speaking : Pinned
unfolding all_open
speaking =
    pins "What no board shows is not spoken: a slot above 63, slots that do not rise, nothing changed, words that no board shows are 2; a text that is too short is 9, whatever the changes (request 2026-10)"
    (row "two changes and a wait" (told (changes (gone ∷ moved ∷ []) Opened)) 0 same
    ∷ row "not in slot order" (told (changes (moved ∷ gone ∷ []) Opened)) 2 same
    ∷ row "slot 63" (told (changes (change 63 (shows 2 1) (shows 5 255) ∷ []) Same)) 0 same
    ∷ row "slot 64" (told (changes (change 64 (shows 2 1) (shows 5 255) ∷ []) Same)) 2 same
    ∷ row "nothing changed" (told (changes (change 1 (shows 2 1) (shows 2 1) ∷ []) Same)) 2 same
    ∷ row "from FIXED" (told (changes (change 1 (shows 0 1) (shows 2 1) ∷ []) Same)) 2 same
    ∷ row "to the word 4" (told (changes (change 1 (shows 2 1) (shows 4 1) ∷ []) Same)) 2 same
    ∷ row "65 changes" (told (record { list = replicate 64 gone; count = 65; wait = Same })) 2 same
    ∷ row "a text too short" (answer_number (speak_answer (changes (moved ∷ gone ∷ []) Opened) (replicate 2187 0))) 9 same
    ∷ row "bytes written" (speech_of (changes [] Closed) (replicate 2188 0)).written 12 same
    ∷ row "none under 2" (speech_of (changes (change 64 (shows 2 1) (shows 5 255) ∷ []) Closed) (replicate 2188 0)).written 0 same
    ∷ row "the bytes" (take 13 (speech_bytes (changes [] Closed) (replicate 2188 7))) (ascii "wait\tclosed\n" ++ (7 ∷ [])) same
    ∷ row "numbers of three digits" (spoken_text (changes (change 12 (shows 1 10) (shows 15 109) ∷ []) Same)) (ascii "slot\t12\twas\tADD\t10\tnow\tDNU\t109\n") same
    ∷ row "64 changes" (told every) 0 same
    ∷ row "none under 9" (speech_of (changes [] Closed) (replicate 2187 0)).written 0 same
    ∷ row "none under 9, which leaves the bytes" (take 2 (speech_bytes (changes [] Closed) (replicate 2187 7))) (7 ∷ 7 ∷ []) same
    ∷ row "2 leaves them" (take 2 (speech_bytes (changes (moved ∷ gone ∷ []) Same) (replicate 2188 7))) (7 ∷ 7 ∷ []) same
    ∷ [])

-- four slots are added
abbrev few : Changes
few = changes (tabulate 4 (λ i. change i (shows 5 255) (shows 1 i))) Same

-- five slots carry, and the first of them is removed: each number falls by one
abbrev shifted : Changes
shifted = changes (change 0 (shows 2 0) (shows 5 255) ∷ (tabulate 3 (λ i. change (i + 1) (shows 2 (i + 1)) (shows 2 i)) ++ (change 4 (shows 3 4) (shows 3 3) ∷ []))) Opened

in_runs : Pinned
unfolding all_open
in_runs =
    pins "Runs go over no gap, are of one old and one new word, of numbers that rise by one or are alike, and as long as they can be (request 2026-10)"
    (row "four slots added" (runs_text few) (ascii "slots\t0\tto\t3\twas\tIDLE\tnow\tADD\t0\tto\t3\n") same
    ∷ row "the first of five removed" (runs_text shifted) (ascii "slot\t0\twas\tNORM\t0\tnow\tIDLE\t255\nslots\t1\tto\t3\twas\tNORM\t1\tto\t3\tnow\tNORM\t0\tto\t2\nslot\t4\twas\tEOS\t4\tnow\tEOS\t3\nwait\topen\n") same
    ∷ row "no run" (runs_text (changes (gone ∷ moved ∷ []) Opened)) (spoken_text (changes (gone ∷ moved ∷ []) Opened)) same
    ∷ row "over a gap" (runs_text (changes (change 1 (shows 2 1) (shows 15 1) ∷ change 3 (shows 2 2) (shows 15 2) ∷ []) Same)) (ascii "slot\t1\twas\tNORM\t1\tnow\tDNU\t1\nslot\t3\twas\tNORM\t2\tnow\tDNU\t2\n") same
    ∷ row "numbers that fall" (runs_text (changes (change 1 (shows 2 2) (shows 15 2) ∷ change 2 (shows 2 1) (shows 15 1) ∷ []) Same)) (ascii "slot\t1\twas\tNORM\t2\tnow\tDNU\t2\nslot\t2\twas\tNORM\t1\tnow\tDNU\t1\n") same
    ∷ row "a run that ends where numbers stop rising" (runs_text (changes (change 4 (shows 5 63) (shows 1 9) ∷ change 5 (shows 5 63) (shows 1 10) ∷ change 6 (shows 5 63) (shows 1 10) ∷ []) Closed)) (ascii "slots\t4\tto\t5\twas\tIDLE\t63\tnow\tADD\t9\tto\t10\nslot\t6\twas\tIDLE\t63\tnow\tADD\t10\nwait\tclosed\n") same
    ∷ row "numbers alike, and then not" (runs_text (changes (change 0 (shows 5 255) (shows 1 7) ∷ change 1 (shows 5 255) (shows 1 7) ∷ change 2 (shows 5 255) (shows 1 8) ∷ []) Same)) (ascii "slots\t0\tto\t1\twas\tIDLE\tnow\tADD\t7\nslot\t2\twas\tIDLE\t255\tnow\tADD\t8\n") same
    ∷ row "another new word" (runs_text (changes (change 0 (shows 2 0) (shows 3 0) ∷ change 1 (shows 2 1) (shows 15 1) ∷ []) Same)) (ascii "slot\t0\twas\tNORM\t0\tnow\tEOS\t0\nslot\t1\twas\tNORM\t1\tnow\tDNU\t1\n") same
    ∷ row "a wait alone" (runs_text (changes [] Opened)) (ascii "wait\topen\n") same
    ∷ row "spread again" (spread (runs_of (take 5 shifted.list))) (take 5 shifted.list) same
    ∷ row "bytes written" (runs_speech_of few (replicate 2188 0)).written 37 same
    ∷ row "none under 9" (runs_speech_of few (replicate 2187 0)).written 0 same
    ∷ row "not in slot order" (answer_number (runs_speech_of (changes (moved ∷ gone ∷ []) Same) (replicate 2188 0)).answer) 2 same
    ∷ row "not in slot order, which leaves the bytes" (take 2 (runs_speech_bytes (changes (moved ∷ gone ∷ []) Same) (replicate 2188 7))) (7 ∷ 7 ∷ []) same
    ∷ row "the bytes" (take 13 (runs_speech_bytes (changes [] Closed) (replicate 2188 7))) (ascii "wait\tclosed\n" ++ (7 ∷ [])) same
    ∷ [])

wholes : Pinned
unfolding all_open
wholes =
    pins "A whole board is told in runs; a word that no board shows, and a count above 64, are 2 (request 2026-10)"
    (row "three slots" (whole_text (old false)) (ascii "slots\t0\tto\t1\tNORM\t0\tto\t1\nslot\t2\tEOS\t2\nwait\t0\n") same
    ∷ row "all IDLE" (whole_text (board [] 4 false)) (ascii "slots\t0\tto\t3\tIDLE\nwait\t0\n") same
    ∷ row "one that is not" (whole_text (board (shows 3 0 ∷ []) 4 false)) (ascii "slot\t0\tEOS\t0\nslots\t1\tto\t3\tIDLE\nwait\t0\n") same
    ∷ row "IDLE slots apart" (whole_text (board (shows 5 255 ∷ shows 15 4 ∷ shows 5 255 ∷ []) 3 true)) (ascii "slot\t0\tIDLE\t255\nslot\t1\tDNU\t4\nslot\t2\tIDLE\t255\nwait\t1\n") same
    ∷ row "numbers with a gap" (whole_text (board (shows 2 0 ∷ shows 2 1 ∷ shows 2 3 ∷ shows 2 4 ∷ []) 4 true)) (ascii "slots\t0\tto\t1\tNORM\t0\tto\t1\nslots\t2\tto\t3\tNORM\t3\tto\t4\nwait\t1\n") same
    ∷ row "no slot" (whole_text (board [] 0 true)) (ascii "wait\t1\n") same
    ∷ row "64 slots" (answer_number (whole_answer (board [] 64 false) (replicate 2188 0))) 0 same
    ∷ row "65 slots" (answer_number (whole_answer (board [] 65 false) (replicate 2188 0))) 2 same
    ∷ row "the word 4" (answer_number (whole_answer (board (shows 2 0 ∷ shows 4 1 ∷ []) 2 false) (replicate 2188 0))) 2 same
    ∷ row "past the count it is not looked at" (answer_number (whole_answer (board (shows 2 0 ∷ shows 4 1 ∷ []) 1 false) (replicate 2188 0))) 0 same
    ∷ row "a text too short" (answer_number (whole_answer (board [] 65 false) (replicate 2187 0))) 9 same
    ∷ row "bytes written" (whole_speech_of (board [] 0 true) (replicate 2188 0)).written 7 same
    ∷ row "none under 2" (whole_speech_of (board [] 65 true) (replicate 2188 0)).written 0 same
    ∷ row "the bytes" (take 8 (whole_speech_bytes (board [] 0 true) (replicate 2188 7))) (ascii "wait\t1\n" ++ (7 ∷ [])) same
    ∷ row "2 leaves them" (take 2 (whole_speech_bytes (board [] 65 true) (replicate 2188 7))) (7 ∷ 7 ∷ []) same
    ∷ [])

-- One who hears the first of two starts, with an add before each: she holds slot 0 as ADD 0 and nothing of slot 1.
abbrev missed : List Moment
missed =
    record { call = OnTable (AddSlot 0); hears = false }
    ∷ record { call = StartEpoch 0 0 0; hears = true }
    ∷ record { call = OnTable (AddSlot 1); hears = false }
    ∷ record { call = StartEpoch 0 0 0; hears = false }
    ∷ []

held : known_with (taken_of (begin_of 0 3 0).sender) (begin_of 0 3 0).sender missed ≡ board (shows 1 0 ∷ []) 3 false
unfolding all_open
held = refl

-- that board is the one of a table, and demand 2 holds of this table
one_table_used : (board (shows 1 0 ∷ []) 3 false ≡ board_of (one_table 0 3 0 missed).source) × Demand2 (one_table 0 3 0 missed).source
one_table_used = (sym held ∙ (one_table 0 3 0 missed).is, (one_table 0 3 0 missed).demand2)
