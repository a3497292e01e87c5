-- What the code gives says all that the definitions do: nothing of a refused call is lost, and 01's numbers are the same.
use Rattle.std.specs.Prelude.{◌≡◌, refl, Bool, true, false, List, ℕ}
use Rattle.ground.specs.Refusals.{number_told}
use Rattle.paths.specs.Answers.{Answer, Done, Range, answer_of, in_range, number_of, refusal_number, told_by}
use Rattle.paths.specs.Checking as C
use Rattle.paths.specs.Checking.{checked_back, checked_of}
use Rattle.paths.specs.Planning.{plan_back, plan_of, set_of, told}

pub numbers_same : {T : Type 0} (a : Answer) (given : T) → number_told refusal_number (told_by a given) ≡ number_of a
numbers_same Done given = refl
numbers_same Range given = refl

module _ (delays : List ℕ) (k W : ℕ) where
  pub plan_whole : plan_back (told (plan_of delays k W)) ≡ plan_of delays k W
  unfolding plan_of set_of answer_of
  plan_whole = go (in_range delays k W) refl
    where
      go : (b : Bool) → in_range delays k W ≡ b → plan_back (told (plan_of delays k W)) ≡ plan_of delays k W
      go true e = rw e
      go false e = rw e

  pub checked_whole : (set : List ℕ) → checked_back (C.told (checked_of delays k W set)) ≡ checked_of delays k W set
  unfolding checked_of answer_of
  checked_whole set = go (in_range delays k W) refl
    where
      go : (b : Bool) → in_range delays k W ≡ b → checked_back (C.told (checked_of delays k W set)) ≡ checked_of delays k W set
      go true e = rw e
      go false e = rw e
