-- What the planner and the check answer: 4, 'before any search', or 0. That there is no set is a value under 0.
use Rattle.std.specs.Prelude.{Bool, ◌&&◌, List, ℕ, Result, Ok, Err, length, if◌then◌else◌}
use Rattle.ground.specs.Plain.{◌≤?◌}
use Rattle.ground.specs.Counting.Words.{every}
use Rattle.paths.specs.declared.answers.OutOfRange.{OutOfRange}
use Rattle.paths.specs.Paths.{delay_at}

pub data Answer : Type 0 where
  Done : Answer
  Range : Answer

-- 01's number for each answer
abbrev pub number_of : Answer → ℕ
number_of Done = 0
number_of Range = 4

-- 'k of 0 or above the number of candidates, more than 64 candidates .. or W outside 16 to 2,048 is 4'
abbrev pub sized : (n k W : ℕ) → Bool
sized n k W = n ≤? 64 && 1 ≤? k && k ≤? n && 16 ≤? W && W ≤? 2048

-- and so is 'a delay above 4,095', also of a candidate that would not be chosen
unfoldable pub are_short : List ℕ → Bool
are_short delays = every (length delays) (λ i. delay_at delays i ≤? 4095)

abbrev pub in_range : (delays : List ℕ) (k W : ℕ) → Bool
in_range delays k W = sized (length delays) k W && are_short delays

unfoldable pub answer_of : (delays : List ℕ) (k W : ℕ) → Answer
answer_of delays k W = if in_range delays k W then Done else Range

-- what a function returns under an answer: a value, or the refusal alone
abbrev pub told_by : {A : Type 0} → Answer → A → Result A OutOfRange
told_by Done value = Ok value
told_by Range value = Err record {}

-- 01's number for a refusal
abbrev pub refusal_number : OutOfRange → ℕ
refusal_number refusal = number_of Range
