-- What a chain over the ports says, as counting over their places.
use Rattle.std.specs.Prelude.{◌≡◌, Bool, List, [], length}
use Rattle.std.specs.List.{count_by, list_all, list_any}
use Rattle.std.proofs.Common.{arith}
use Rattle.std.proofs.Math.Seq.{take-length}
use Rattle.ground.specs.Counting.Laws.Chains.{all_first, any_first, count_first}
use Rattle.ground.specs.Counting.Words.{count, every, some}
use Rattle.judge.specs.declared.seen.Seen.{Seen}
use Rattle.judge.specs.Seen.{seen_at}

module _ (test : Seen → Bool) (ports : List Seen) where
  pub any_is : list_any test ports ≡ some (length ports) (λ k. test (seen_at ports k))
  any_is = rw take-length at (any_first test ports (seen_at [] 0) (length ports) (omega arith))

  pub all_is : list_all test ports ≡ every (length ports) (λ k. test (seen_at ports k))
  all_is = rw take-length at (all_first test ports (seen_at [] 0) (length ports) (omega arith))

  pub count_is : count_by test ports ≡ count (length ports) (λ k. test (seen_at ports k))
  count_is = rw take-length at (count_first test ports (seen_at [] 0) (length ports) (omega arith))
