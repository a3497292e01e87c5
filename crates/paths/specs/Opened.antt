-- All that this crate and those below it define, opened under one name for examples that are computed. A new definition is named here, and nowhere else.
use Rattle.std.specs.Prelude.{ℕ}
use Rattle.ground.specs.Opened.{ground_open}
use Rattle.paths.specs.Answers.{answer_of, are_short}
use Rattle.paths.specs.Checking.{accepts, agree, agrees_with, checked_of}
use Rattle.paths.specs.Order.{candidate_at, rank_of, ranks_of, sorted_by}
use Rattle.paths.specs.Planning.{listed_plan, plan_of, proposed, proposed_plan, set_of, tightest_of}

unfoldable pub paths_open : ℕ
unfolding ground_open answer_of are_short accepts agree agrees_with checked_of candidate_at rank_of ranks_of sorted_by listed_plan plan_of proposed proposed_plan
    set_of tightest_of
paths_open = 0
