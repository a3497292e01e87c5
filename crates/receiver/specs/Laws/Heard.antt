-- What is heard: the packet of the lowest port whose packet is whole and good, or nothing.
use Rattle.std.specs.Prelude.{◌≡◌, true, false, List, ℕ, ◌<◌}
use Rattle.std.proofs.Math.Path.{refl}
use Rattle.ground.specs.Counting.Laws.Tests.{some_at}
use Rattle.ground.specs.Counting.Words.{some}
use Rattle.ground.specs.Truth.{cond_by}
use Rattle.std.proofs.Math.ListN.{length}
pub use Rattle.judge.specs.Laws.Lowest.{lowest_first, lowest_holds, lowest_least}
use Rattle.receiver.specs.Heard.{good_at, heard_of, lowest, said_at, silence}
use Rattle.rows.specs.declared.group.Group.{Group}

module _ (g : Group) (s : List (List ℕ)) (n : ℕ) where
  -- where a packet is whole and good and none of a lower port is, it is heard
  pub heard_first : (i : ℕ) → i < n → some i (good_at g s) ≡ false → good_at g s i ≡ true → heard_of g s n ≡ said_at g s i
  unfolding heard_of
  heard_first i b e t = rw (some_at n (good_at g s) i b t, lowest_first n (good_at g s) i b e t) refl

  -- four bytes
  pub heard_long : length (heard_of g s n) ≡ 4
  unfolding heard_of said_at
  heard_long = cond_by (λ l. length l ≡ 4) (some n (good_at g s)) (said_at g s (lowest n (good_at g s))) silence (λ e. refl) (λ e. refl)

  pub heard_none : some n (good_at g s) ≡ false → heard_of g s n ≡ silence
  unfolding heard_of
  heard_none e = rw e refl
