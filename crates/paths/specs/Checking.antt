-- The small check of a proposal.
use Rattle.std.specs.Prelude.{Bool, not, ◌&&◌, List, ℕ, Result, Ok, Err, false, ◌-◌, length, if◌then◌else◌, ◌==◌}
use Rattle.ground.specs.Plain.{◌<?◌, ◌≤?◌}
use Rattle.ground.specs.Counting.Words.{every}
use Rattle.paths.specs.declared.answers.OutOfRange.{OutOfRange}
use Rattle.paths.specs.Answers.{Answer, Done, Range, answer_of, in_range, told_by}
use Rattle.paths.specs.Paths.{delay_at, path_at}

-- how far two delays lie apart
abbrev pub delays_apart : ℕ → ℕ → ℕ
delays_apart x y = if x <? y then y - x else x - y

-- two candidates are different and at most s apart
unfoldable pub agree : (delays : List ℕ) (spread path other : ℕ) → Bool
agree delays s i j = not (i == j) && delays_apart (delay_at delays i) (delay_at delays j) ≤? s

-- entry a agrees with every entry before it
unfoldable pub agrees_with : (delays set : List ℕ) (spread a : ℕ) → Bool
agrees_with delays set s a = every a (λ b. agree delays s (path_at set b) (path_at set a))

abbrev pub entry_fits : (delays set : List ℕ) (spread a : ℕ) → Bool
entry_fits delays set s a = path_at set a <? length delays && agrees_with delays set s a

-- there are k entries, and each names a candidate and agrees with those before it
unfoldable pub accepts : (delays : List ℕ) (k spread : ℕ) (set : List ℕ) → Bool
accepts delays k s set = length set == k && every (length set) (entry_fits delays set s)

-- what the check says; under 4 no set is accepted
pub record Checked : Type 0 where
  pub accepted : Bool
  pub answer : Answer

unfoldable pub checked_of : (delays : List ℕ) (k W : ℕ) (set : List ℕ) → Checked
checked_of delays k W set = record { accepted = in_range delays k W && accepts delays k (W - 16) set; answer = answer_of delays k W }

-- and what `paths::check` returns of it
abbrev pub told : Checked → Result Bool OutOfRange
told c = told_by c.answer c.accepted

-- and back: a refused set is not accepted
abbrev pub checked_back : Result Bool OutOfRange → Checked
checked_back (Ok accepted) = record { accepted = accepted; answer = Done }
checked_back (Err refusal) = record { accepted = false; answer = Range }
