-- Which sets of paths may be joined (request 2026-09): k candidates 'with a spread of at most W-16'.
-- Candidates are numbered as they are handed over, from 0. A set is a list of candidate numbers, in any order.
use Rattle.std.specs.Prelude.{◌≡◌, true, List, ℕ, ◌+◌, ◌-◌, ◌≤◌, ◌<◌, length, get_or}
use Rattle.ground.specs.Counting.Words.{greatest}

-- 'measured delays in frames, 0 to 4,095'; a number that names no candidate counts as 0
abbrev pub delay_at : List ℕ → ℕ → ℕ
delay_at delays i = get_or delays i 0

-- the candidate that entry a of a set names
abbrev pub path_at : List ℕ → ℕ → ℕ
path_at set a = get_or set a 0

-- any two entries differ in delay by at most s: 'plain differences, not counted round 4,096'
abbrev pub InSpread : (delays : List ℕ) (spread : ℕ) (set : List ℕ) → Type 0
InSpread delays s set = (a b : ℕ) → a < length set → b < length set → delay_at delays (path_at set a) ≤ delay_at delays (path_at set b) + s

-- 'it names k different candidates within that spread'
pub record Good (delays : List ℕ) (k W : ℕ) (set : List ℕ) : Type 0 where
  pub many : length set ≡ k
  pub named : (a : ℕ) → a < length set → path_at set a < length delays
  pub different : (a b : ℕ) → a < length set → b < length set → path_at set a ≡ path_at set b → a ≡ b
  pub near : InSpread delays (W - 16) set

-- what is not refused: 'k of 0 or above the number of candidates, more than 64 candidates, a delay above 4,095, or W outside 16 to 2,048 is 4'
pub record Asked (delays : List ℕ) (k W : ℕ) : Type 0 where
  pub one : 1 ≤ k
  pub enough : k ≤ length delays
  pub few : length delays ≤ 64
  pub short : (i : ℕ) → i < length delays → delay_at delays i ≤ 4095
  pub low : 16 ≤ W
  pub high : W ≤ 2048

-- the spread of a set: the most by which one of its delays is above another, which is the greatest less the least
abbrev pub spread_of : List ℕ → List ℕ → ℕ
spread_of delays set =
    greatest (length set) (λ a. true) (λ a. greatest (length set) (λ b. true) (λ b. delay_at delays (path_at set a) - delay_at delays (path_at set b)))
