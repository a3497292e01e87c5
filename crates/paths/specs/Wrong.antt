-- Wrong readings of the request, each as a definition with delays on which it breaks.
use Rattle.std.specs.Prelude.{◌≡◌, refl, Bool, true, false, not, ◌&&◌, ◌||◌, List, [], ◌∷◌, ℕ, ◌+◌, ◌-◌, length, ◌==◌}
use Rattle.ground.specs.Counting.Words.{every}
use Rattle.ground.specs.Circle.{after}
use Rattle.ground.specs.Plain.{◌<?◌, ◌≤?◌}
use Rattle.paths.specs.Checking.{accepts, agree, delays_apart}
use Rattle.paths.specs.Order.{ranks_of, sorted_by}
use Rattle.paths.specs.Paths.{delay_at, path_at}
use Rattle.paths.specs.Planning.{proposed, stretch_from}
use Rattle.paths.specs.Opened.{paths_open}

-- A spread of W in place of W-16: with W 16, delays 0 and 16 are accepted.
wrong_room : List ℕ → ℕ → ℕ → List ℕ → Bool
wrong_room delays k W set = accepts delays k W set

abbrev pair : List ℕ
pair = 0 ∷ 1 ∷ []

room_breaks : (wrong_room (0 ∷ 16 ∷ []) 2 16 pair ≡ true) × (accepts (0 ∷ 16 ∷ []) 2 (16 - 16) pair ≡ false)
unfolding paths_open wrong_room
room_breaks = (refl, refl)

-- Delays counted round 4,096: 4,095 and 0 lie 1 apart there, and here 4,095.
wrong_agree : List ℕ → ℕ → ℕ → ℕ → Bool
wrong_agree delays s i j = not (i == j) && (after 4096 (delay_at delays i) (delay_at delays j) ≤? s || after 4096 (delay_at delays j) (delay_at delays i) ≤? s)

round_breaks : (wrong_agree (4095 ∷ 0 ∷ []) 2032 0 1 ≡ true) × (agree (4095 ∷ 0 ∷ []) 2032 0 1 ≡ false)
unfolding paths_open wrong_agree
round_breaks = (refl, refl)

-- A set with a candidate twice: k entries within the spread, and only one path.
wrong_different : List ℕ → ℕ → ℕ → List ℕ → Bool
wrong_different delays k s set =
    length set == k && every (length set) (λ a. path_at set a <? length delays && every a (λ b. delays_apart (delay_at delays (path_at set b)) (delay_at delays (path_at set a)) ≤? s))

twice_breaks : (wrong_different (5 ∷ 90 ∷ []) 2 0 (0 ∷ 0 ∷ []) ≡ true) × (accepts (5 ∷ 90 ∷ []) 2 0 (0 ∷ 0 ∷ []) ≡ false)
unfolding paths_open wrong_different
twice_breaks = (refl, refl)

-- The k earliest alone: with the first candidate far before the rest it says none where there is a set.
wrong_earliest : List ℕ → ℕ → ℕ → Bool
wrong_earliest delays k s = (stretch_from (sorted_by delays (ranks_of delays)) (k - 1) 0).spread ≤? s

earliest_breaks : (wrong_earliest (0 ∷ 100 ∷ 101 ∷ []) 2 4 ≡ false) × (proposed (0 ∷ 100 ∷ 101 ∷ []) 2 4 ≡ 1 ∷ 2 ∷ [])
unfolding paths_open wrong_earliest
earliest_breaks = (refl, refl)

-- Neighbours each within the spread, but not the ends: 0, 10 and 20 with a spread of 10.
wrong_neighbours : List ℕ → ℕ → List ℕ → Bool
wrong_neighbours delays s set = every (length set - 1) (λ a. agree delays s (path_at set a) (path_at set (a + 1)))

neighbours_breaks : (wrong_neighbours (0 ∷ 10 ∷ 20 ∷ []) 10 (0 ∷ 1 ∷ 2 ∷ []) ≡ true) × (accepts (0 ∷ 10 ∷ 20 ∷ []) 3 10 (0 ∷ 1 ∷ 2 ∷ []) ≡ false)
unfolding paths_open wrong_neighbours
neighbours_breaks = (refl, refl)
