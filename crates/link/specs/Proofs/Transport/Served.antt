-- What one frame and one fetch do to what stands.
use Rattle.std.specs.Prelude.{◌≡◌, ◌≢◌, ℕ, suc, ◌+◌, ◌/◌, ◌≤◌, ◌<◌}
use Rattle.link.specs.Moments.{Foremost, Ready}
use Rattle.link.specs.Road.{L, Road}
use Rattle.link.specs.Running.{Moment}
use Rattle.link.specs.Proofs.Standing.{Before, First, Later, Owes}

module _ (r : Road) where
  -- port p's next frame comes: it is one further, the others are where they were
  pub record Served (p : ℕ) (coming coming' : ℕ → ℕ) : Type 0 where
    pub below : p < r.ports
    pub next : coming' p ≡ coming p + 1
    pub others : (q : ℕ) → q ≢ p → coming' q ≡ coming q

  -- no two ports that have begun are further apart than the spread, and one frame more within a frame time
  abbrev pub Apart : (ℕ → ℕ) → Type 0
  Apart coming = (p q : ℕ) → p < r.ports → q < r.ports → r.first p < coming p → r.first q < coming q → coming p + L r ≤ coming q + r.window + 1

  -- no port is further behind port p than the spread
  abbrev pub Reach : ℕ → (ℕ → ℕ) → Type 0
  Reach p coming = (q : ℕ) → q < r.ports → coming p + L r ≤ coming q + r.window

  pub data Begun? (m : Moment) (coming : ℕ → ℕ) : Type 0 where
    stays : Before r m coming → Begun? m coming
    comes : (F : ℕ) → Foremost r coming F → Ready r coming → First r m coming (suc (F / L r)) → Begun? m coming

  pub data Gathered? (m : Moment) (coming : ℕ → ℕ) (i : ℕ) : Type 0 where
    waits : First r m coming i → Gathered? m coming i
    gathers : Later r m coming i i → Owes r coming (suc i) → Gathered? m coming i
