-- Wrong readings of 2026-11, each as a definition with a recording on which it differs.
use Rattle.std.specs.Prelude.{◌≡◌, refl, Bool, true, false, ◌||◌, List, [], ◌∷◌, ◌++◌, ℕ, zero, suc, ◌-◌, ◌%◌, length, if◌then◌else◌}
use Rattle.ground.specs.Plain.{◌≤?◌}
use Rattle.mending.specs.Following.{count_due, followed, followed_if, good_among, has_count, is_good}
use Rattle.mending.specs.Lines.{Fate, Judged, Line, counts_of, judged, lines_with, record_of}
use Rattle.mending.specs.Lines.{Fate as F}
use Rattle.mending.specs.Mending.{note_by, note_text, notes_from}
use Rattle.recording.specs.declared.record.Record.{Record}
use Rattle.recording.specs.declared.record.Record.TheVariants.{Frame, Malformed, Long, Unfinished, End}
use Rattle.text.specs.Ascii.{ascii}
use Rattle.mending.specs.Opened.{mending_open}

-- Good by the last line plus one, broken or not. The request counts on from the last good one; here mending the mended recording changes it again.
abbrev line_among : ℕ → ℕ → List ℕ → Bool
line_among zero before counts = false
line_among (suc n) before [] = false
line_among (suc n) before (c ∷ cs) = is_good before 1 c || line_among n c cs

abbrev by_line : ℕ → ℕ → ℕ → List ℕ → List ℕ
by_line before last since [] = []
by_line before last since (c ∷ cs) =
    if is_good before 1 c then c ∷ by_line c c 1 cs
    else if line_among (4 - since) c cs then count_due last since ∷ by_line c last (suc since) cs
    else c ∷ by_line c c 1 cs

wrong_line : List ℕ → List ℕ
wrong_line [] = []
wrong_line (c ∷ cs) = c ∷ by_line c c 1 cs

line_breaks : (wrong_line (0 ∷ 0 ∷ 1 ∷ 2 ∷ []) ≡ 0 ∷ 1 ∷ 1 ∷ 2 ∷ []) × (wrong_line (0 ∷ 1 ∷ 1 ∷ 2 ∷ []) ≡ 0 ∷ 1 ∷ 2 ∷ 2 ∷ []) × (followed (0 ∷ 0 ∷ 1 ∷ 2 ∷ []) ≡ 0 ∷ 0 ∷ 1 ∷ 2 ∷ [])
unfolding mending_open wrong_line
line_breaks = (refl, refl, refl)

-- The lines since not counted: good is the last good one plus one, however many broken lines lie between, and a restored one gets the same.
abbrev next_among : ℕ → ℕ → List ℕ → Bool
next_among zero last counts = false
next_among (suc n) last [] = false
next_among (suc n) last (c ∷ cs) = is_good last 1 c || next_among n last cs

abbrev uncounted_from : ℕ → ℕ → List ℕ → List ℕ
uncounted_from last since [] = []
uncounted_from last since (c ∷ cs) =
    if is_good last 1 c then c ∷ uncounted_from c 1 cs
    else if next_among (4 - since) last cs then count_due last 1 ∷ uncounted_from last (suc since) cs
    else c ∷ uncounted_from c 1 cs

wrong_since : List ℕ → List ℕ
wrong_since [] = []
wrong_since (c ∷ cs) = c ∷ uncounted_from c 1 cs

since_breaks : (wrong_since (5 ∷ 6 ∷ 0 ∷ 7 ∷ 8 ∷ []) ≡ 5 ∷ 6 ∷ 7 ∷ 7 ∷ 8 ∷ []) × (followed (5 ∷ 6 ∷ 0 ∷ 7 ∷ 8 ∷ []) ≡ 5 ∷ 6 ∷ 0 ∷ 7 ∷ 8 ∷ [])
    × (wrong_since (5 ∷ 6 ∷ 0 ∷ 8 ∷ []) ≡ 5 ∷ 6 ∷ 0 ∷ 8 ∷ []) × (followed (5 ∷ 6 ∷ 0 ∷ 8 ∷ []) ≡ 5 ∷ 6 ∷ 7 ∷ 8 ∷ [])
unfolding mending_open wrong_since
since_breaks = (refl, refl, refl, refl)

-- Another number of broken lines at most, and the end taken for a good line or not.
abbrev among : Bool → ℕ → ℕ → ℕ → List ℕ → Bool
among at_end zero last since counts = false
among at_end (suc n) last since [] = at_end
among at_end (suc n) last since (c ∷ cs) = is_good last since c || among at_end n last (suc since) cs

abbrev most_from : Bool → ℕ → ℕ → ℕ → List ℕ → List ℕ
most_from at_end most last since [] = []
most_from at_end most last since (c ∷ cs) =
    if is_good last since c then c ∷ most_from at_end most c 1 cs
    else if among at_end (suc most - since) last (suc since) cs then count_due last since ∷ most_from at_end most last (suc since) cs
    else c ∷ most_from at_end most c 1 cs

abbrev most : Bool → ℕ → List ℕ → List ℕ
most at_end n [] = []
most at_end n (c ∷ cs) = c ∷ most_from at_end n c 1 cs

-- Restored at the end: 'or at the end of the recording, nothing is restored'.
wrong_end : List ℕ → List ℕ
wrong_end counts = most true 3 counts

end_breaks : (wrong_end (5 ∷ 6 ∷ 9 ∷ []) ≡ 5 ∷ 6 ∷ 7 ∷ []) × (followed (5 ∷ 6 ∷ 9 ∷ []) ≡ 5 ∷ 6 ∷ 9 ∷ [])
unfolding mending_open wrong_end
end_breaks = (refl, refl)

-- Four restored, and two at most: 'One to three'.
wrong_four : List ℕ → List ℕ
wrong_four counts = most false 4 counts

four_breaks : (wrong_four (5 ∷ 0 ∷ 0 ∷ 0 ∷ 0 ∷ 10 ∷ []) ≡ 5 ∷ 6 ∷ 7 ∷ 8 ∷ 9 ∷ 10 ∷ []) × (followed (5 ∷ 0 ∷ 0 ∷ 0 ∷ 0 ∷ 10 ∷ []) ≡ 5 ∷ 0 ∷ 0 ∷ 0 ∷ 0 ∷ 10 ∷ [])
unfolding mending_open wrong_four
four_breaks = (refl, refl)

wrong_two : List ℕ → List ℕ
wrong_two counts = most false 2 counts

two_breaks : (wrong_two (5 ∷ 0 ∷ 0 ∷ 0 ∷ 9 ∷ []) ≡ 5 ∷ 0 ∷ 0 ∷ 0 ∷ 9 ∷ []) × (followed (5 ∷ 0 ∷ 0 ∷ 0 ∷ 9 ∷ []) ≡ 5 ∷ 6 ∷ 7 ∷ 8 ∷ 9 ∷ [])
unfolding mending_open wrong_two
two_breaks = (refl, refl)

-- Afresh behind the four, which are left: 'afresh at the first broken line'. left: so many lines are passed before one is taken as good.
abbrev behind_four : ℕ → ℕ → ℕ → List ℕ → List ℕ
behind_four left last since [] = []
behind_four zero last since (c ∷ cs) =
    if is_good last since c then c ∷ behind_four 0 c 1 cs
    else if good_among (4 - since) last (suc since) cs then count_due last since ∷ behind_four 0 last (suc since) cs
    else c ∷ behind_four 4 last since cs
behind_four (suc zero) last since (c ∷ cs) = c ∷ behind_four 0 c 1 cs
behind_four (suc (suc left)) last since (c ∷ cs) = c ∷ behind_four (suc left) last since cs

wrong_behind : List ℕ → List ℕ
wrong_behind counts = behind_four 1 0 1 counts

behind_breaks : (wrong_behind (5 ∷ 1 ∷ 9 ∷ 3 ∷ 4 ∷ 5 ∷ []) ≡ 5 ∷ 1 ∷ 9 ∷ 3 ∷ 4 ∷ 5 ∷ []) × (followed (5 ∷ 1 ∷ 9 ∷ 3 ∷ 4 ∷ 5 ∷ []) ≡ 5 ∷ 1 ∷ 2 ∷ 3 ∷ 4 ∷ 5 ∷ [])
unfolding mending_open wrong_behind
behind_breaks = (refl, refl)

-- Afresh at the first of the four, but the other three not judged: the following goes on from the first, so they are lines since.
abbrev unjudged_from : ℕ → ℕ → ℕ → List ℕ → List ℕ
unjudged_from left last since [] = []
unjudged_from zero last since (c ∷ cs) =
    if is_good last since c then c ∷ unjudged_from 0 c 1 cs
    else if good_among (4 - since) last (suc since) cs then count_due last since ∷ unjudged_from 0 last (suc since) cs
    else c ∷ unjudged_from 3 c 1 cs
unjudged_from (suc left) last since (c ∷ cs) = c ∷ unjudged_from left last (suc since) cs

wrong_unjudged : List ℕ → List ℕ
wrong_unjudged [] = []
wrong_unjudged (c ∷ cs) = c ∷ unjudged_from 0 c 1 cs

unjudged_breaks : (wrong_unjudged (5 ∷ 1 ∷ 9 ∷ 3 ∷ 4 ∷ 5 ∷ []) ≡ 5 ∷ 1 ∷ 9 ∷ 3 ∷ 4 ∷ 5 ∷ []) × (followed (5 ∷ 1 ∷ 9 ∷ 3 ∷ 4 ∷ 5 ∷ []) ≡ 5 ∷ 1 ∷ 2 ∷ 3 ∷ 4 ∷ 5 ∷ [])
unfolding mending_open wrong_unjudged
unjudged_breaks = (refl, refl)

-- Fewer than four broken lines at the end left as they are: 'or at the end' the following starts afresh too.
abbrev left_from : ℕ → ℕ → List ℕ → List ℕ
left_from last since [] = []
left_from last since (c ∷ cs) =
    if is_good last since c then c ∷ left_from c 1 cs
    else if good_among (4 - since) last (suc since) cs then count_due last since ∷ left_from last (suc since) cs
    else if 3 ≤? length cs then c ∷ left_from c 1 cs
    else c ∷ cs

wrong_left : List ℕ → List ℕ
wrong_left [] = []
wrong_left (c ∷ cs) = c ∷ left_from c 1 cs

left_breaks : (wrong_left (5 ∷ 0 ∷ 9 ∷ 2 ∷ []) ≡ 5 ∷ 0 ∷ 9 ∷ 2 ∷ []) × (followed (5 ∷ 0 ∷ 9 ∷ 2 ∷ []) ≡ 5 ∷ 0 ∷ 1 ∷ 2 ∷ [])
unfolding mending_open wrong_left
left_breaks = (refl, refl)

-- The lines of all ports together: 'follows the H4 count of each port'.
abbrev counts_by : (Record → List ℕ → List ℕ) → ℕ → ℕ → List Line → List ℕ
counts_by f ports size [] = []
counts_by f ports size (l ∷ ls) = f (record_of ports size l) (counts_by f ports size ls)

abbrev count_any : Record → List ℕ → List ℕ
count_any (Frame p h4 flag place next) counts = h4 % 16 ∷ counts
count_any (Malformed next) counts = counts
count_any Long counts = counts
count_any Unfinished counts = counts
count_any End counts = counts

wrong_together : ℕ → ℕ → List Line → List ℕ
wrong_together ports size ls = followed (counts_by count_any ports size ls)

abbrev interleaved : List Line
interleaved = lines_with (ascii "0\t00\t0\tAA\n1\t01\t0\tAA\n0\t05\t0\tAA\n1\t02\t0\tAA\n0\t02\t0\tAA\n")

together_breaks : (wrong_together 2 1 interleaved ≡ 0 ∷ 1 ∷ 5 ∷ 2 ∷ 2 ∷ []) × (followed (counts_of 2 1 0 interleaved) ≡ 0 ∷ 1 ∷ 2 ∷ []) × (followed (counts_of 2 1 1 interleaved) ≡ 1 ∷ 2 ∷ [])
unfolding mending_open wrong_together
together_breaks = (refl, refl, refl)

-- Dropped lines counted as the port's, with a count that is never good: whose they were is not known. Here a line is restored that no good one follows.
abbrev count_dropped : Record → List ℕ → List ℕ
count_dropped (Frame p h4 flag place next) counts = h4 % 16 ∷ counts
count_dropped (Malformed next) counts = 16 ∷ counts
count_dropped Long counts = 16 ∷ counts
count_dropped Unfinished counts = counts
count_dropped End counts = counts

wrong_dropped : ℕ → ℕ → List Line → List ℕ
wrong_dropped ports size ls = followed (counts_by count_dropped ports size ls)

abbrev torn : List Line
torn = lines_with (ascii "0\t00\t0\tAA\n0\t0\n0\t05\t0\tAA\n0\t03\t0\tAA\n")

dropped_breaks : (wrong_dropped 1 1 torn ≡ 0 ∷ 1 ∷ 2 ∷ 3 ∷ []) × (followed (counts_of 1 1 0 torn) ≡ 0 ∷ 5 ∷ 3 ∷ [])
unfolding mending_open wrong_dropped
dropped_breaks = (refl, refl)

-- Flagged lines not counted: they are lines of the port, and every flag would break its count. Here a good line becomes a broken one.
abbrev count_plain : Record → List ℕ → List ℕ
count_plain (Frame p h4 flag place next) counts = if flag then counts else h4 % 16 ∷ counts
count_plain (Malformed next) counts = counts
count_plain Long counts = counts
count_plain Unfinished counts = counts
count_plain End counts = counts

wrong_plain : ℕ → ℕ → List Line → List ℕ
wrong_plain ports size ls = followed (counts_by count_plain ports size ls)

abbrev flagged : List Line
flagged = lines_with (ascii "0\t00\t0\tAA\n0\t01\t1\tAA\n0\t02\t0\tAA\n0\t02\t0\tAA\n")

plain_breaks : (wrong_plain 1 1 flagged ≡ 0 ∷ 1 ∷ 2 ∷ []) × (followed (counts_of 1 1 0 flagged) ≡ 0 ∷ 1 ∷ 2 ∷ 2 ∷ [])
unfolding mending_open wrong_plain
plain_breaks = (refl, refl)

-- A note for each line that was kept: notes are 'For each line it dropped or altered'.
abbrev wrong_note : ℕ → Line → Fate → List ℕ
wrong_note n l F.Kept = note_text n (ascii "line") l.bytes l.bytes
wrong_note n l (F.Restored old new) = note_by 1 n l (F.Restored old new)
wrong_note n l F.Dropped = note_by 1 n l F.Dropped

abbrev wrong_notes : ℕ → List Judged → List ℕ
wrong_notes n [] = []
wrong_notes n (j ∷ js) = wrong_note n j.line j.fate ++ wrong_notes (suc n) js

notes_break : (notes_from 1 2 (judged true 1 1 (lines_with (ascii "0\t00\t0\tAA\n"))) ≡ []) × (wrong_notes 2 (judged true 1 1 (lines_with (ascii "0\t00\t0\tAA\n"))) ≡ ascii "2\tline\t0\t00\t0\tAA\t0\t00\t0\tAA\n")
unfolding mending_open
notes_break = (refl, refl)

-- VC-12's lines followed by their second digit as if it were a count (request 2026-01): of its byte one bit is K4's, so that a run of three such bytes can read as a count that broke.
wrong_kind : ℕ → List ℕ → List ℕ
wrong_kind kind counts = followed counts

kind_breaks : (wrong_kind 1 (0 ∷ 0 ∷ 2 ∷ []) ≡ 0 ∷ 1 ∷ 2 ∷ []) × (followed_if (has_count 1) (0 ∷ 0 ∷ 2 ∷ []) ≡ 0 ∷ 0 ∷ 2 ∷ [])
    × (followed_if (has_count 0) (0 ∷ 0 ∷ 2 ∷ []) ≡ 0 ∷ 1 ∷ 2 ∷ []) × (followed_if (has_count 2) (0 ∷ 0 ∷ 2 ∷ []) ≡ 0 ∷ 1 ∷ 2 ∷ [])
unfolding mending_open wrong_kind
kind_breaks = (refl, refl, refl, refl)
