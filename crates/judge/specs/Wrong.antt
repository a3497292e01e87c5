-- Wrong readings of 01 and of request 2026-12, each as a definition with a run on which it breaks what 01 says.
use Rattle.std.specs.Prelude.{◌≡◌, refl, true, false, not, ◌&&◌, ◌||◌, List, [], ◌∷◌, ℕ, if◌then◌else◌, ◌==◌}
use Rattle.ground.specs.Counting.Words.{some, last_that}
use Rattle.ground.specs.Table.{tabulate}
use Rattle.packet.specs.Kinds.{fixed_kind}
use Rattle.packet.specs.Words.{DNU, EOS, FIXED, NORM}
use Rattle.judge.specs.declared.seen.Seen.{Seen}
use Rattle.judge.specs.Cause.{applies, blamed_of, cause_of, mark_of}
use Rattle.judge.specs.Lowest.{lowest}
use Rattle.judge.specs.Order.{active_in, port_of}
use Rattle.judge.specs.Seen.{active_seen, lacking_seen, numbered_seen, refused_seen, seen_at}
use Rattle.judge.specs.Verdict.{DOUBTFUL, HELD, SURE, eos_wrong, exact, fixed_exact, fixed_held, gid_differs, highest, judge_of, missing, repeats, takes}
use Rattle.judge.specs.Opened.{judge_open}

abbrev sent : ℕ → ℕ → Seen
sent word number = record { whole = true; good = true; word = word; number = number; gid = 0; here = true }

-- Slip 1: 'Ranking by number and not by place among active members, so a DNU member leaves a hole.' By DNU 0, NORM 1, EOS 2 no port is found for rank 0, so that port 0 stands there, which is DNU; and EOS 2 is not below X.
wrong_port : List Seen → ℕ → ℕ → ℕ
wrong_port ports n r = last_that n (λ i. active_seen (seen_at ports i) && (seen_at ports i).number == r)

abbrev hole : List Seen
hole = sent DNU 0 ∷ sent NORM 1 ∷ sent EOS 2 ∷ []

port_breaks : (active_in hole 3 ≡ 2) × (tabulate 2 (wrong_port hole 3) ≡ 0 ∷ 1 ∷ []) × (tabulate 2 (port_of hole 3) ≡ 1 ∷ 2 ∷ [])
unfolding judge_open wrong_port
port_breaks = (refl, refl, refl)

-- A fixed group (request 2026-12).

-- EOS asked for: no fixed group would ever be sure.
wrong_eos : List Seen → ℕ → ℕ
wrong_eos ports n = if fixed_held ports n || eos_wrong ports n then HELD else SURE

abbrev three : List Seen
three = sent FIXED 2 ∷ sent FIXED 0 ∷ sent FIXED 1 ∷ []

eos_breaks : (wrong_eos three 3 ≡ HELD) × (judge_of fixed_kind three 3 ≡ SURE)
unfolding judge_open wrong_eos
eos_breaks = (refl, refl)

-- Doubtful kept: a gap in the numbers, or a dark port, would give out bytes that are surely not the client's.
wrong_doubt : List Seen → ℕ → ℕ
wrong_doubt ports n =
    if some n (λ i. refused_seen (seen_at ports i)) || some n (λ i. lacking_seen (seen_at ports i)) || repeats ports n then HELD
    else if missing ports n || not (fixed_exact ports n) then DOUBTFUL
    else SURE

abbrev unseen : Seen
unseen = record { whole = false; good = false; word = 0; number = 0; gid = 0; here = false }

abbrev dark : List Seen
dark = sent FIXED 0 ∷ sent FIXED 1 ∷ unseen ∷ []

abbrev gap : List Seen
gap = sent FIXED 0 ∷ sent FIXED 1 ∷ sent FIXED 3 ∷ []

doubt_breaks : (wrong_doubt gap 3 ≡ DOUBTFUL) × (judge_of fixed_kind gap 3 ≡ HELD) × (wrong_doubt dark 3 ≡ DOUBTFUL) × (judge_of fixed_kind dark 3 ≡ HELD)
unfolding judge_open wrong_doubt
doubt_breaks = (refl, refl, refl, refl)

-- By 01 the same packets are held, since no port has EOS: the kind decides.
kind_breaks : judge_of 0 three 3 ≡ HELD
unfolding judge_open
kind_breaks = refl

-- The cause.

-- That of the last clause that holds: with the frames of port 0 gone, and its number at port 1 too, somebody would look for numbers that are not there, and
-- the mark by that cause would give out bytes.
wrong_cause : List Seen → ℕ → ℕ
wrong_cause ports n = if not (exact ports n) then 7 else if missing ports n then 6 else if eos_wrong ports n then 5 else if gid_differs ports n then 4 else if repeats ports n then 3 else cause_of 0 ports n

abbrev gone : List Seen
gone = record { whole = true; good = true; word = NORM; number = 0; gid = 0; here = false } ∷ sent EOS 0 ∷ []

cause_breaks : (wrong_cause gone 2 ≡ 7) × (cause_of 0 gone 2 ≡ 2) × (mark_of 0 7 ≡ DOUBTFUL) × (judge_of 0 gone 2 ≡ HELD) × (blamed_of 0 gone 2 ≡ 0)
unfolding judge_open wrong_cause
cause_breaks = (refl, refl, refl, refl, refl)

-- A fixed group's by 01's order: a refused packet named, where a port has none at all.
abbrev unread : List Seen
unread = record { whole = true; good = false; word = 0; number = 0; gid = 0; here = true } ∷ unseen ∷ []

order_breaks : (cause_of 0 unread 2 ≡ 1) × (cause_of fixed_kind unread 2 ≡ 6) × (blamed_of 0 unread 2 ≡ 0) × (blamed_of fixed_kind unread 2 ≡ 1)
unfolding judge_open
order_breaks = (refl, refl, refl, refl)

-- The port: the first of the two with a number, and not the one that has it once more; or the last one to which the clause applies.
wrong_first : List Seen → ℕ → ℕ
wrong_first ports n = lowest n (λ i. numbered_seen (seen_at ports i) && takes ports n (seen_at ports i).number)

wrong_last : List Seen → ℕ → ℕ
wrong_last ports n = last_that n (applies ports (highest ports n) (cause_of 0 ports n))

abbrev thrice : List Seen
thrice = sent NORM 0 ∷ sent NORM 1 ∷ sent EOS 2 ∷ sent NORM 1 ∷ sent NORM 1 ∷ []

blame_breaks : (cause_of 0 thrice 5 ≡ 3) × (wrong_first thrice 5 ≡ 0) × (wrong_last thrice 5 ≡ 4) × (blamed_of 0 thrice 5 ≡ 3)
unfolding judge_open wrong_first wrong_last
blame_breaks = (refl, refl, refl, refl)
