-- 'the runs spread out again are exactly the list of changes, in order', and 'each run is as long as it can be'.
use Rattle.std.specs.Prelude.{◌≡◌, refl, List, [], ◌∷◌, ◌++◌}
use Rattle.std.proofs.Common.{◌∙◌, ap}
use Rattle.ground.specs.Truth.{clash, cond_by}
use Rattle.spoken.specs.Said.{AllEnd, Ends}
use Rattle.spoken.specs.declared.lists.Change.{Change}
use Rattle.spoken.specs.declared.runs.Run.{Run}
use Rattle.spoken.specs.Laws.Runs.{Whole, continues_back, spread_from, spread_single, whole_longer, whole_single}
use Rattle.spoken.specs.Runs.{continues, longer, runs_from, runs_of, single, spread, spread_run}

pub spread_back : (list : List Change) → spread (runs_of list) ≡ list
spread_back [] = refl
spread_back (change ∷ rest) = spread_from (single change) rest (whole_single change) ∙ ap (λ (l : List Change). l ++ rest) (spread_single change)

-- the first run from one that has begun begins as it did
ends_from : (run begun : Run) (rest : List Change) → ((q : Run) → spread_run q ≡ spread_run run ++ (begun.first ∷ []) → ⊥) → Ends run (runs_from begun rest)
ends_from run begun [] h = h
ends_from run begun (next ∷ rest) h =
    cond_by (λ (runs : List Run). Ends run runs) (continues begun next) (runs_from (longer begun next) rest) (begun ∷ runs_from (single next) rest)
    (λ e. ends_from run (longer begun next) rest h) (λ e. h)

all_from : (run : Run) (rest : List Change) → Whole run → AllEnd (runs_from run rest)
all_from run [] w = (tt, tt)
all_from run (next ∷ rest) w =
    cond_by (λ (runs : List Run). AllEnd runs) (continues run next) (runs_from (longer run next) rest) (run ∷ runs_from (single next) rest)
    (λ e. all_from (longer run next) rest (whole_longer run next w e))
    (λ e. (ends_from run (single next) rest (λ q s. clash (continues run next) (continues_back run next w q s) e), all_from (single next) rest (whole_single next)))

pub longest : (list : List Change) → AllEnd (runs_of list)
longest [] = tt
longest (change ∷ rest) = all_from (single change) rest (whole_single change)
