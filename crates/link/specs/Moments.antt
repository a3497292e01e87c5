-- The moments of a run, by which demand 3 is said: in frame time t the ports of `done` have been served, those of `rest` are still to come.
use Rattle.std.specs.Prelude.{◌≡◌, ◌⊎◌, List, [], ◌∷◌, ◌++◌, ℕ, zero, suc, ◌+◌, ◌-◌, ◌*◌, ◌≤◌, ◌<◌, length, if◌then◌else◌}
use Rattle.ground.specs.Plain.{◌<?◌, ◌≤?◌}
use Rattle.step.specs.SentRuns.{start_from}
use Rattle.link.specs.Road.{L, Road, times}
use Rattle.link.specs.Running.{Moment, has_begun, through, turns}

-- a run: what stands in a frame time after the ports of a list have been served
abbrev pub Run : Type 0
Run = ℕ → List ℕ → Moment

module _ (r : Road) where
  -- the receiver's own
  abbrev pub reached : Moment → Run
  reached m t done = turns r t done (through r t m)

  -- the position of port p's next frame: its first one, or the one of this frame time, or where it has been served the one after
  unfoldable pub next_at : (t : ℕ) (rest : List ℕ) (port : ℕ) → ℕ
  next_at t rest p = r.first p + (t + 1 - times p rest - (r.delay p + r.first p))

  unfoldable pub coming : (t : ℕ) (rest : List ℕ) (port : ℕ) → ℕ
  coming t rest p = if p <? r.ports then next_at t rest p else r.first p

  -- the foremost position that has come
  pub record Foremost (coming : ℕ → ℕ) (F : ℕ) : Type 0 where
    pub port : ℕ
    pub below : port < r.ports
    pub is : coming port ≡ F + 1
    pub most : (q : ℕ) → q < r.ports → coming q ≤ F + 1

  -- every port has had two multiframes, the first of which starts at MFI1 0, and no two are further apart than the spread
  pub record Ready (coming : ℕ → ℕ) : Type 0 where
    pub stepped : (q : ℕ) → q < r.ports → start_from r.kind r.offset (r.first q) + L r * 2 ≤ coming q
    pub near : (p q : ℕ) → p < r.ports → q < r.ports → coming p + L r ≤ coming q + r.window

  -- a moment that is not after another: by frame time, and by how many ports have been served in it
  abbrev pub NotAfter : (u : ℕ) (earlier : List ℕ) (t : ℕ) (done : List ℕ) → Type 0
  NotAfter u earlier t done = (u < t) ⊎ ((u ≡ t) × (length earlier ≤ length done))

  -- at no moment up to this one were all ports ready
  abbrev pub Unready : ℕ → List ℕ → Type 0
  Unready t done = (u : ℕ) (earlier rest : List ℕ) → r.order u ≡ earlier ++ rest → NotAfter u earlier t done → Ready (coming u rest) → ⊥

  -- the moment at which receiving began in a run, the first at which all ports were ready: F was the foremost position
  pub record Beginning (run : Run) (F : ℕ) : Type 0 where
    pub time : ℕ
    pub done : List ℕ
    pub port : ℕ
    pub rest : List ℕ
    pub is_order : r.order time ≡ done ++ (port ∷ rest)
    pub not_yet : has_begun (run time done) ≡ 0
    pub begun : has_begun (run time (done ++ (port ∷ []))) ≡ 1
    pub foremost : Foremost (coming time rest) F
    pub ready : Ready (coming time rest)
    pub unready : Unready time done

  -- the answer to port p's frame at position x: 12 until the port has had two multiframes, the first of which starts at MFI1 0
  abbrev pub said : ℕ → ℕ → ℕ
  said p x = if start_from r.kind r.offset (r.first p) + L r * 2 ≤? x + 1 then 0 else 12

  -- of a port's turn in frame time t
  abbrev pub says_one : ℕ → ℕ → List ℕ
  says_one t p = if r.delay p + r.first p ≤? t then said p (t - r.delay p) ∷ [] else []

  -- of some ports, one after the other, and of all frame times before t
  abbrev pub says : ℕ → List ℕ → List ℕ
  says t [] = []
  says t (p ∷ ps) = says_one t p ++ says t ps

  abbrev pub says_through : ℕ → List ℕ
  says_through zero = []
  says_through (suc t) = says_through t ++ says t (r.order t)
