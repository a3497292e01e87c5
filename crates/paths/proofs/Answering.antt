-- Each way out of the planner and of the check.
use mathlib.Core.Path.{◌≡◌, refl, sym, ◌∙◌}
use mathlib.Core.Bool.{Bool, true, false, cond}
use mathlib.Core.List.{List}
use Rattle.std.proofs.Common.{Result, Ok, Err}
use Prim.Native.Nat.{ℕ, ◌+◌, ◌-◌, ◌≤◌, ◌<◌}
use native.Mathlib.Omega.{arith}
use lib.ListN.{length}
use borrow.Author.Tests.{le-leb, lt-leb}
use Rattle.paths.specs.declared.planning.Stretch.{Stretch}
use Rattle.paths.specs.declared.answers.OutOfRange.{OutOfRange}
use Rattle.paths.specs.Answers.{Done, Range, answer_of, in_range, told_by}
use Rattle.paths.specs.Laws.Stretches.{tightest_first}
use Rattle.paths.specs.Order.{ranks_of, sorted_by}
use Rattle.paths.specs.Planning.{listed_plan, nothing, plan_of, proposed, proposed_plan, set_of, tightest, tightest_of, proposal_in}

module _ (delays : List ℕ) (k W : ℕ) where
  -- where it was asked whether all is in range, and nothing refused
  pub asked_in : (r : Result (Unit {0}) OutOfRange) (u : Unit {0}) → r ≡ told_by (answer_of delays k W) (tt {0}) → r ≡ Ok u → in_range delays k W ≡ true
  unfolding answer_of
  asked_in r u e is = go (in_range delays k W) (sym e ∙ is)
    where
      go : (b : Bool) → told_by (cond b Done Range) (tt {0}) ≡ Ok u → b ≡ true
      go true h = refl
      go false h = cc

  pub asked_out : (r : Result (Unit {0}) OutOfRange) (o : OutOfRange) → r ≡ told_by (answer_of delays k W) (tt {0}) → r ≡ Err o → in_range delays k W ≡ false
  unfolding answer_of
  asked_out r o e is = go (in_range delays k W) (sym e ∙ is)
    where
      go : (b : Bool) → told_by (cond b Done Range) (tt {0}) ≡ Err o → b ≡ false
      go true h = cc
      go false h = refl

  module _ {A : Type 0} (value : A) where
    pub told_in : in_range delays k W ≡ true → told_by (answer_of delays k W) value ≡ Ok value
    unfolding answer_of
    told_in e = rw e

    pub told_out : in_range delays k W ≡ false → told_by (answer_of delays k W) value ≡ Err record {}
    unfolding answer_of
    told_out e = rw e

  -- in range a plan is the proposal
  pub plan_in : in_range delays k W ≡ true → proposal_in (plan_of delays k W) ≡ proposal_in (proposed_plan delays k (W - 16))
  unfolding plan_of set_of proposed_plan
  plan_in e = rw e

module _ (delays : List ℕ) (k s : ℕ) (ranks sorted : List ℕ) (t : Stretch) (r : ranks ≡ ranks_of delays) (o : sorted ≡ sorted_by delays ranks)
    (is : t ≡ tightest sorted (k - 1) (length delays + 1 - k)) where
  stretch_is : t ≡ tightest_of delays k
  unfolding tightest_of
  stretch_is = is ∙ rw (o, r)

  -- the stretch ends where the candidates do
  pub stretch_fits : k ≤ length delays → t.first < length delays + 1 - k
  stretch_fits h = rw is (tightest_first sorted (k - 1) (length delays + 1 - k) (omega arith))

  pub proposed_some : t.spread ≤ s → proposal_in (listed_plan ranks (length delays) t.first k) ≡ proposal_in (proposed_plan delays k s)
  unfolding proposed_plan proposed listed_plan
  proposed_some h =
      let l : (tightest_of delays k).spread ≤ s = rw stretch_is at h in
      rw (stretch_is, r, le-leb (tightest_of delays k).spread s l) refl

  pub proposed_none : s < t.spread → proposal_in (nothing Done) ≡ proposal_in (proposed_plan delays k s)
  unfolding proposed_plan proposed
  proposed_none h =
      let l : s < (tightest_of delays k).spread = rw stretch_is at h in
      rw (lt-leb (tightest_of delays k).spread s l) refl
