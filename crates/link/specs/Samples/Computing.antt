-- What the runs of a link come to. Everything that they are made of is opened here, for the checker to compute.
use Rattle.std.specs.Prelude.{refl, ◌||◌, List, [], ◌∷◌, ℕ, ◌+◌, ◌*◌, replicate, if◌then◌else◌, ◌==◌}
use Rattle.receiver.specs.Starting.{times_within}
use Rattle.rows.specs.Group.{group_at}
use Rattle.rows.specs.Rows.{rows_for}
use Rattle.link.specs.Demand3.{Times}
use Rattle.link.specs.Link.{Link, road_of}
use Rattle.link.specs.Running.{Moment, fresh, through}
use Rattle.link.specs.Told.{Told}
use Rattle.link.specs.Opened.{link_open}

-- started over rows and a store that hold anything but zeros
abbrev pub started : Link → Moment
started k = fresh (road_of k) [] [] (replicate (rows_for k.ports) (replicate 16 0xFF)) (replicate (k.ports * k.window * (k.payload + 1)) 0xFF)

-- no times, and some
pub no_times : (ports : ℕ) → Times [] ports
unfolding times_within
no_times ports = record { within = refl; fits = refl }

pub some_times : Times (0 ∷ 5000 ∷ []) 2
unfolding times_within
some_times = record { within = refl; fits = refl }

-- of some answers those that are neither 0 nor 12
abbrev pub strange : List ℕ → List ℕ
strange [] = []
strange (n ∷ ns) = if n == 0 || n == 12 then strange ns else n ∷ strange ns

-- what is to be seen of a moment
pub record Outcome : Type 0 where
  pub begun : ℕ
  pub told : List Told
  pub strange : List ℕ

abbrev pub outcome_of : Moment → Outcome
outcome_of m = record { begun = (group_at m.rows).begun; told = m.told; strange = strange m.answers }

-- after all frame times before t
unfoldable pub outcome : Link → ℕ → Outcome
unfolding link_open
outcome k t = outcome_of (through (road_of k) t (started k))
