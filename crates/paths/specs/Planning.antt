-- The planner: of the candidates in order, the k in a row with the least spread, of several such the first.
-- So it is always the same set, of the tightest the one with the least delays, and the receiver's window may be smallest.
use Rattle.std.specs.Prelude.{Bool, List, [], ◌∷◌, ◌++◌, ℕ, zero, suc, Result, Ok, Err, ◌+◌, ◌-◌, length, get_or, replicate, take, if◌then◌else◌}
use Rattle.ground.specs.Drawn.{within}
use Rattle.ground.specs.Plain.{◌<?◌, ◌≤?◌}
use Rattle.paths.specs.declared.answers.OutOfRange.{OutOfRange}
use Rattle.paths.specs.declared.planning.Proposal.{Proposal}
use Rattle.paths.specs.declared.planning.Stretch.{Stretch}
use Rattle.paths.specs.Answers.{Answer, Done, Range, answer_of, in_range, told_by}
use Rattle.paths.specs.Order.{ranks_of, sorted_by}

-- from a rank to the one so far after it
abbrev pub stretch_from : (sorted : List ℕ) (far first : ℕ) → Stretch
stretch_from sorted far first = record { first = first; spread = get_or sorted (first + far) 0 - get_or sorted first 0 }

abbrev pub tighter : Stretch → Stretch → Stretch
tighter one other = if other.spread <? one.spread then other else one

-- of the stretches from rank 0 and from each of the first m ranks the tightest, of several the first
abbrev pub tightest : (sorted : List ℕ) (far m : ℕ) → Stretch
tightest sorted far zero = stretch_from sorted far 0
tightest sorted far (suc m) = tighter (tightest sorted far m) (stretch_from sorted far m)

-- the numbers below n at which the test holds, rising
abbrev pub listed : ℕ → (ℕ → Bool) → List ℕ
listed zero f = []
listed (suc n) f = listed n f ++ (if f n then n ∷ [] else [])

-- k in a row are k - 1 ranks from first to last, and begin at the latest where k are left
unfoldable pub tightest_of : List ℕ → ℕ → Stretch
tightest_of delays k = tightest (sorted_by delays (ranks_of delays)) (k - 1) (length delays + 1 - k)

abbrev pub in_stretch : (ranks : List ℕ) (first k path : ℕ) → Bool
in_stretch ranks first k i = within first k (get_or ranks i 0)

unfoldable pub proposed : (delays : List ℕ) (k spread : ℕ) → List ℕ
proposed delays k s =
    if (tightest_of delays k).spread ≤? s then listed (length delays) (in_stretch (ranks_of delays) (tightest_of delays k).first k) else []

-- what the planner proposes; the empty list says none
unfoldable pub set_of : (delays : List ℕ) (k W : ℕ) → List ℕ
set_of delays k W = if in_range delays k W then proposed delays k (W - 16) else []

-- what the planner says; under 4 a plan names no candidate
pub record Plan : Type 0 where
  pub paths : List ℕ
  pub count : ℕ
  pub answer : Answer

abbrev pub proposal_in : Plan → Proposal
proposal_in p = record { paths = p.paths; count = p.count }

-- and what `paths::plan` returns of it
abbrev pub told : Plan → Result Proposal OutOfRange
told p = told_by p.answer (proposal_in p)

-- in a plan's 64 bytes the rest is 255
abbrev pub padded : List ℕ → List ℕ
padded set = set ++ replicate (64 - length set) 255

abbrev pub plan_with : Answer → List ℕ → Plan
plan_with answer set = record { paths = padded set; count = length set; answer = answer }

-- and back: of a refused search the caller knows all that there is
abbrev pub plan_back : Result Proposal OutOfRange → Plan
plan_back (Ok p) = record { paths = p.paths; count = p.count; answer = Done }
plan_back (Err refusal) = plan_with Range []

unfoldable pub plan_of : (delays : List ℕ) (k W : ℕ) → Plan
plan_of delays k W = plan_with (answer_of delays k W) (set_of delays k W)

-- the candidates that a plan names
abbrev pub planned : Plan → List ℕ
planned p = take p.count p.paths

-- for the functions behind it
abbrev pub nothing : Answer → Plan
nothing answer = plan_with answer []

unfoldable pub listed_plan : (ranks : List ℕ) (n first k : ℕ) → Plan
listed_plan ranks n first k = plan_with Done (listed n (in_stretch ranks first k))

unfoldable pub proposed_plan : (delays : List ℕ) (k spread : ℕ) → Plan
proposed_plan delays k s = plan_with Done (proposed delays k s)
