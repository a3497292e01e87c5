-- What `paths::check` and `paths::plan` return, in the request's words: 4 for all that is refused, and under 0 exactly the good sets.
use Rattle.std.specs.Prelude.{◌≡◌, Bool, true, false, List, [], ◌∷◌, ℕ, ◌-◌, ◌≤◌, length}
use Rattle.std.specs.Result.{result_unwrap_or}
use Rattle.std.proofs.Math.Path.{refl}
use Rattle.std.proofs.Common.{sym, ap, ◌∙◌, arith}
use Rattle.ground.specs.Truth.{and_left, and_right}
use Rattle.paths.specs.Answers.{Range, answer_of, in_range, number_of}
use Rattle.paths.specs.Checking.{accepts, checked_of, told as checked_told}
use Rattle.paths.specs.Laws.Answers.{asked_in_lem, in_asked, in_done, out_range}
use Rattle.paths.specs.Paths.{Asked, Good, spread_of}
use Rattle.paths.specs.Planning.{nothing, plan_of, planned, proposal_in, set_of, told}
use Rattle.paths.specs.Theorems.Checking.{accepts_good, good_accepts}
use Rattle.paths.specs.Theorems.Planning.{none_says, plan_paths, says_none, sound, tightest_set}

module _ (delays : List ℕ) (k W : ℕ) where
  -- 'Refusals: .. is 4, before any search': 0 exactly where nothing is refused
  pub answer_done : Asked delays k W → number_of (answer_of delays k W) ≡ 0
  answer_done a = in_done delays k W (asked_in_lem delays k W a)

  pub answer_range : (Asked delays k W → ⊥) → number_of (answer_of delays k W) ≡ 4
  answer_range never = go (in_range delays k W) refl
    where
      go : (b : Bool) → in_range delays k W ≡ b → number_of (answer_of delays k W) ≡ 4
      go true e = absurd (never (in_asked delays k W e))
      go false e = out_range delays k W e

  module _ (set : List ℕ) where
    -- 'a small check accepts a proposal only if it names k different candidates within that spread'
    pub check_good : (checked_of delays k W set).accepted ≡ true → Asked delays k W × Good delays k W set
    unfolding checked_of
    check_good e = (
      in_asked delays k W (and_left (in_range delays k W) (accepts delays k (W - 16) set) e),
      accepts_good delays k W set (and_right (in_range delays k W) (accepts delays k (W - 16) set) e),
    )

    -- 'and accepts every such set'
    pub good_checked : Asked delays k W → Good delays k W set → (checked_of delays k W set).accepted ≡ true
    unfolding checked_of
    good_checked a g = rw (asked_in_lem delays k W a) (good_accepts delays k W set g)

    -- its answer is the planner's, whatever the set
    pub check_answers : (checked_of delays k W set).answer ≡ (plan_of delays k W).answer
    unfolding checked_of plan_of
    check_answers = refl

    -- a refusal hands nothing else over, since under 4 no set is accepted
    pub check_refused : (Asked delays k W → ⊥) → (checked_of delays k W set).accepted ≡ false
    unfolding checked_of
    check_refused never = go (in_range delays k W) refl
      where
        go : (b : Bool) → in_range delays k W ≡ b → (checked_of delays k W set).accepted ≡ false
        go true e = absurd (never (in_asked delays k W e))
        go false e = rw e

    -- so that whoever takes false where it is refused has what it says
    pub check_left : result_unwrap_or (checked_told (checked_of delays k W set)) false ≡ (checked_of delays k W set).accepted
    unfolding checked_of answer_of
    check_left = go (in_range delays k W) refl
      where
        go : (b : Bool) → in_range delays k W ≡ b → result_unwrap_or (checked_told (checked_of delays k W set)) false ≡ (checked_of delays k W set).accepted
        go true e = rw e refl
        go false e = rw e refl

    pub check_numbers : number_of (checked_of delays k W set).answer ≡ number_of (answer_of delays k W)
    unfolding checked_of
    check_numbers = refl

  -- and no candidate is named
  pub plan_refused : (Asked delays k W → ⊥) → plan_of delays k W ≡ nothing Range
  unfolding plan_of set_of answer_of
  plan_refused never = go (in_range delays k W) refl
    where
      go : (b : Bool) → in_range delays k W ≡ b → plan_of delays k W ≡ nothing Range
      go true e = absurd (never (in_asked delays k W e))
      go false e = rw e

  -- so that whoever takes no path where it is refused has what it proposes
  pub plan_left : result_unwrap_or (told (plan_of delays k W)) (proposal_in (nothing Range)) ≡ proposal_in (plan_of delays k W)
  unfolding plan_of set_of answer_of
  plan_left = go (in_range delays k W) refl
    where
      go : (b : Bool) → in_range delays k W ≡ b → result_unwrap_or (told (plan_of delays k W)) (proposal_in (nothing Range)) ≡ proposal_in (plan_of delays k W)
      go true e = rw e refl
      go false e = rw e refl

  out_none : in_range delays k W ≡ false → set_of delays k W ≡ []
  unfolding set_of
  out_none e = rw e

  count_is : (plan_of delays k W).count ≡ length (set_of delays k W)
  unfolding plan_of
  count_is = refl

  no_set : set_of delays k W ≡ [] → (plan_of delays k W).count ≡ 0
  no_set e = count_is ∙ ap length e

  set_none : (plan_of delays k W).count ≡ 0 → set_of delays k W ≡ []
  set_none z = go (set_of delays k W) (sym count_is ∙ z)
    where
      go : (l : List ℕ) → length l ≡ 0 → l ≡ []
      go [] e = refl
      go (x ∷ l) e = absurd (omega arith)

  -- a plan that names candidates was asked within range, and names a good set of them
  pub plan_good : ((plan_of delays k W).count ≡ 0 → ⊥) → Asked delays k W × Good delays k W (planned (plan_of delays k W))
  plan_good some = go (in_range delays k W) refl
    where
      go : (b : Bool) → in_range delays k W ≡ b → Asked delays k W × Good delays k W (planned (plan_of delays k W))
      go true e =
          (in_asked delays k W e, rw (plan_paths delays k W) (sound delays k W (in_done delays k W e) (λ (n : set_of delays k W ≡ []). some (no_set n))))
      go false e = absurd (some (no_set (out_none e)))

  -- 'The planner says none exactly if no such set exists.'
  pub plan_none : Asked delays k W → (plan_of delays k W).count ≡ 0 → (set : List ℕ) → Good delays k W set → ⊥
  plan_none a z = none_says delays k W (answer_done a) (set_none z)

  pub none_planned : ((set : List ℕ) → Good delays k W set → ⊥) → (plan_of delays k W).count ≡ 0
  none_planned never = go (in_range delays k W) refl
    where
      go : (b : Bool) → in_range delays k W ≡ b → (plan_of delays k W).count ≡ 0
      go true e = no_set (says_none delays k W (in_done delays k W e) never)
      go false e = no_set (out_none e)

  -- and no good set is tighter
  pub plan_tightest : Asked delays k W → (set : List ℕ) → Good delays k W set → spread_of delays (planned (plan_of delays k W)) ≤ spread_of delays set
  plan_tightest a set g = rw (plan_paths delays k W) (tightest_set delays k W (answer_done a) set g)
