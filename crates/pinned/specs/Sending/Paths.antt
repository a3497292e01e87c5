-- Plans and checks (request 2026-09), whole: four candidates with delays 0, 100, 16 and 20. With W 20 the spread may be 4 frames, with W 19 it may be 3.
use Rattle.std.specs.Prelude.{Bool, true, false, List, [], ◌∷◌, ◌++◌, ℕ, ◌-◌, length, replicate, take}
use Rattle.paths.specs.Answers.{Answer, Done, Range, answer_of, number_of}
use Rattle.paths.specs.Checking.{Checked, delays_apart, checked_of}
use Rattle.paths.specs.Order.{ranks_of}
use Rattle.paths.specs.Paths.{spread_of}
use Rattle.paths.specs.Planning.{Plan, plan_of, set_of}
use Rattle.pinned.specs.Opened.{all_open}
use Rattle.tables.specs.Rows.{Pinned, pins, row, same}

abbrev delays : List ℕ
delays = 0 ∷ 100 ∷ 16 ∷ 20 ∷ []

abbrev plan : List ℕ → Answer → Plan
plan paths answer = record { paths = paths ++ replicate (64 - length paths) 255; count = length paths; answer = answer }

plans : Pinned
unfolding all_open
plans =
    pins "'k of them with a spread of at most W-16', the tightest such set, or none (request 2026-09). Candidates with delays 0, 100, 16 and 20; with W 20 the spread may be 4 frames, with W 19 it may be 3."
    (row "two with W 20" (plan_of delays 2 20) (plan (2 ∷ 3 ∷ []) Done) same
    ∷ row "two with W 19" (plan_of delays 2 19) (plan [] Done) same
    ∷ row "three with W 36" (plan_of delays 3 36) (plan (0 ∷ 2 ∷ 3 ∷ []) Done) same
    ∷ row "all four with W 116" (plan_of delays 4 116) (plan (0 ∷ 1 ∷ 2 ∷ 3 ∷ []) Done) same
    ∷ row "two of three equal delays" (plan_of (5 ∷ 5 ∷ 5 ∷ []) 2 16) (plan (0 ∷ 1 ∷ []) Done) same
    ∷ row "one of one" (plan_of (7 ∷ []) 1 16) (plan (0 ∷ []) Done) same
    ∷ row "W 15 is out of range" (plan_of (7 ∷ []) 1 15) (plan [] Range) same
    ∷ row "W 15 is out of range, and no set is found for it" (set_of (7 ∷ []) 1 15) [] same
    ∷ [])

abbrev check : Bool → Answer → Checked
check accepted answer = record { accepted = accepted; answer = answer }

checks : Pinned
unfolding all_open
checks =
    pins "The check 'accepts a proposal only if it names k different candidates within that spread, and accepts every such set': a set in any order; one frame too wide; one entry too many, too few; a candidate twice; one that is none; W below 16; a delay above 4,095 (request 2026-09)"
    (row "a set in any order" (checked_of delays 2 20 (3 ∷ 2 ∷ [])) (check true Done) same
    ∷ row "one frame too wide" (checked_of delays 2 19 (3 ∷ 2 ∷ [])) (check false Done) same
    ∷ row "one entry too many" (checked_of delays 1 20 (3 ∷ 2 ∷ [])) (check false Done) same
    ∷ row "one too few" (checked_of delays 3 20 (3 ∷ 2 ∷ [])) (check false Done) same
    ∷ row "a candidate twice" (checked_of delays 2 20 (3 ∷ 3 ∷ [])) (check false Done) same
    ∷ row "one that is no candidate" (checked_of delays 2 2048 (0 ∷ 4 ∷ [])) (check false Done) same
    ∷ row "one alone" (checked_of delays 1 16 (2 ∷ [])) (check true Done) same
    ∷ row "W below 16" (checked_of delays 1 15 (2 ∷ [])) (check false Range) same
    ∷ row "a delay above 4,095" (checked_of (4096 ∷ []) 1 16 (0 ∷ [])) (check false Range) same
    ∷ [])

limits : Pinned
unfolding all_open
limits =
    pins "'k of 0 or above the number of candidates, more than 64 candidates, a delay above 4,095, or W outside 16 to 2,048 is 4': the last that is taken, and the first that is not (request 2026-09)"
    (row "64 candidates, delays of 4,095, W 2,048" (number_of (answer_of (replicate 64 4095) 64 2048)) 0 same
    ∷ row "65 candidates" (number_of (answer_of (replicate 65 4095) 64 2048)) 4 same
    ∷ row "a delay of 4,096" (number_of (answer_of (4095 ∷ 4096 ∷ []) 1 16)) 4 same
    ∷ row "k of 0" (number_of (answer_of (1 ∷ 2 ∷ []) 0 16)) 4 same
    ∷ row "k of 1" (number_of (answer_of (1 ∷ 2 ∷ []) 1 16)) 0 same
    ∷ row "k of 2 of two" (number_of (answer_of (1 ∷ 2 ∷ []) 2 16)) 0 same
    ∷ row "k of 3 of two" (number_of (answer_of (1 ∷ 2 ∷ []) 3 16)) 4 same
    ∷ row "W 15" (number_of (answer_of (1 ∷ 2 ∷ []) 2 15)) 4 same
    ∷ row "W 2,049" (number_of (answer_of (1 ∷ 2 ∷ []) 2 2049)) 4 same
    ∷ [])

orders : Pinned
unfolding all_open
orders =
    pins "The spread is the greatest delay less the least, whichever comes first; of one delay the lower number comes first (request 2026-09)"
    (row "of three paths" (spread_of delays (3 ∷ 0 ∷ 2 ∷ [])) 20 same
    ∷ row "of two" (spread_of delays (2 ∷ 3 ∷ [])) 4 same
    ∷ row "apart, the lower first" (delays_apart 3 5) 2 same
    ∷ row "apart, the higher first" (delays_apart 5 3) 2 same
    ∷ row "ranks of 20, 0 and 20" (take 4 (ranks_of (20 ∷ 0 ∷ 20 ∷ []))) (1 ∷ 0 ∷ 2 ∷ 0 ∷ []) same
    ∷ row "64 places" (length (ranks_of (20 ∷ []))) 64 same
    ∷ [])
