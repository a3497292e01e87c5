-- The start of an epoch, on a road whose ports have one delay of whole epochs, a: by then the epoch sent a + 1 epochs before has been reported, and no later one.
-- The idea: at that moment every port has come to the end of an epoch, and of the epochs that all have brought the last is told (`phase`).
use Rattle.std.specs.Prelude.{◌≡◌, refl, List, [], ◌∷◌, ◌++◌, ℕ, zero, suc, ◌+◌, ◌-◌, ◌*◌, ◌/◌, ◌≤◌, ◌<◌, length}
use Rattle.std.proofs.Common.{ap, ◌∙◌, inl, ⊎_elim, arith, length-append}
use Rattle.ground.specs.Table.{length_tabulate}
use Rattle.ground.specs.Truth.{le_or_lt}
use Rattle.packet.specs.Laws.Clock.{by}
use Rattle.packet.specs.Theorems.Tags.{frames_some}
use Rattle.step.specs.SentRuns.{start_from}
use Rattle.step.specs.Theorems.Run.{start_from_lem}
use Rattle.link.specs.Moments.{Beginning, NotAfter, Unready, coming, next_at, reached}
use Rattle.link.specs.Proofs.Contents.{report_after}
use Rattle.link.specs.Proofs.Fair.{Fair}
use Rattle.link.specs.Proofs.Standing.{Before, Later}
use Rattle.link.specs.Proofs.Transport.Times.{CallsDo, Phase, come_ready, coming_is, phase}
use Rattle.link.specs.Proofs.Transport.Times.Phase.{before, first, later}
use Rattle.link.specs.Road.{L, Road, times}
use Rattle.link.specs.Running.{Moment, has_begun}

module _ (r : Road) where
  last_whole : (T a i x : ℕ) → x + a * L r ≡ T * L r → suc i * L r ≤ x → x < suc i * L r + L r → i + a + 1 ≡ T
  last_whole T a i x e lo hi =
      by (λ l E N m. x + a * l ≡ T * l → suc i * l ≤ x → x < suc i * l + l → i + a + 1 ≡ T) (λ u v w. omega arith) (λ u v w. omega arith) r.kind e lo hi

  epoch_before : (t a x : ℕ) → x + a * L r < t * L r → suc (x / L r) + a ≤ t
  epoch_before t a x h = by (λ l E N m. x + a * l < t * l → suc (x / l) + a ≤ t) (λ u. omega arith) (λ u. omega arith) r.kind h

  -- at start T the port has long brought an epoch that ended by start t
  too_early : (t T a e x : ℕ) → e + a ≤ t → t + 2 ≤ T → x + a * L r ≡ T * L r → x < e * L r + L r → ⊥
  too_early t T a e x h late is owes =
      by (λ l E N m. x + a * l ≡ T * l → x < e * l + l → ⊥) (λ u v. omega arith) (λ u v. omega arith) r.kind is owes

  later_start : (t T : ℕ) → t + 2 ≤ T → t * L r ≤ T * L r
  later_start t T h = by (λ l E N m. t * l ≤ T * l) (omega arith) (omega arith) r.kind

module _ (r : Road) (f : Fair r) (s : CallsDo r) (m₀ : Moment) (fresh_start : Before r m₀ r.first) (a : ℕ) (delayed : (p : ℕ) → p < r.ports → r.delay p ≡ a * L r)
    (t₀ : ℕ) (begun : has_begun (reached r m₀ (t₀ * L r) []) ≡ 1) where
  -- receiving began before start t₀
  record Began : Type 0 where
    F : ℕ
    beginning : Beginning r (reached r m₀) F
    early : beginning.time < t₀ * L r

  by_come : (F : ℕ) (b : Beginning r (reached r m₀) F) → NotAfter r b.time (b.done ++ (b.port ∷ [])) (t₀ * L r) [] → Began
  by_come F b c =
      ⊎_elim (λ (h : b.time < t₀ * L r). record { F = F; beginning = b; early = h })
      (λ (h : (b.time ≡ t₀ * L r) × (length (b.done ++ (b.port ∷ [])) ≤ zero)). absurd (let l = length-append b.done (b.port ∷ []) in let w = h.1 in omega arith))
      c

  began : Began
  began = go (phase r m₀ f s fresh_start (t₀ * L r) [] (r.order (t₀ * L r)) refl)
    where
      none : (n : ℕ) → n ≡ 1 → n ≡ 0 → ⊥
      none n x y = omega arith

      go : Phase r m₀ (t₀ * L r) [] (reached r m₀ (t₀ * L r) []) (coming r (t₀ * L r) (r.order (t₀ * L r))) → Began
      go (before b un) = absurd (none (has_begun (reached r m₀ (t₀ * L r) [])) begun b.begun)
      go (first F b come c) = by_come F b come
      go (later F i b come c w) = by_come F b come

  not_unready : (t : ℕ) (done : List ℕ) → t₀ * L r ≤ t → Unready r t done → ⊥
  not_unready t done h un = let e = began.early in come_ready r m₀ began.F began.beginning t done (inl (omega arith)) un

  stepped_first : (q x : ℕ) → start_from r.kind r.offset (r.first q) + L r * 2 ≤ x → r.first q < x
  stepped_first q x h = let w = (start_from_lem r.kind r.offset (r.first q)).from in let l = frames_some r.kind in omega arith

  -- how far a port has come
  come_by : (t : ℕ) (rest : List ℕ) (q : ℕ) → q < r.ports → r.first q < coming r t rest q → coming r t rest q + a * L r ≤ t + 1
  unfolding next_at
  come_by t rest q b h =
      let e = coming_is r t rest q b in
      let d = delayed q b in
      let w : r.first q < r.first q + (t + 1 - times q rest - (r.delay q + r.first q)) = rw e at h in
      rw e (omega arith)

  come_at : (t q : ℕ) → q < r.ports → r.first q < coming r t (r.order t) q → coming r t (r.order t) q + a * L r ≡ t
  unfolding next_at
  come_at t q b h =
      let e = coming_is r t (r.order t) q b in
      let d = delayed q b in
      let o = f.once t q b in
      let w : r.first q < r.first q + (t + 1 - times q (r.order t) - (r.delay q + r.first q)) = rw e at h in
      rw e (omega arith)

  -- whichever beginning, its foremost frame lies by the delay before start t₀
  front : (F : ℕ) (b : Beginning r (reached r m₀) F) → F + a * L r < t₀ * L r
  front F b =
      let p : ℕ = b.foremost.port in
      let e = b.foremost.is in
      let l = come_by b.time b.rest p b.foremost.below (stepped_first p (coming r b.time b.rest p) (b.ready.stepped p b.foremost.below)) in
      ⊎_elim (λ (h : t₀ * L r ≤ b.time). absurd (not_unready b.time b.done h b.unready)) (λ (h : b.time < t₀ * L r). omega arith) (le_or_lt (t₀ * L r) b.time)

  -- what stands at start T
  pub record AtStart (T : ℕ) : Type 0 where
    pub F : ℕ
    pub i : ℕ
    pub beginning : Beginning r (reached r m₀) F
    pub stands : Later r (reached r m₀ (T * L r) []) (coming r (T * L r) (r.order (T * L r))) (suc (F / L r)) i
    pub epoch : i + a + 1 ≡ T
    pub told : 1 ≤ length (reached r m₀ (T * L r) []).told
    pub last : suc (F / L r) + length (reached r m₀ (T * L r) []).told ≡ i

  pub at_start_lem : (T : ℕ) → t₀ + 2 ≤ T → AtStart T
  at_start_lem T late = go (phase r m₀ f s fresh_start (T * L r) [] (r.order (T * L r)) refl)
    where
      t : ℕ
      t = T * L r

      go : Phase r m₀ t [] (reached r m₀ t []) (coming r t (r.order t)) → AtStart T
      go (before b un) = absurd (not_unready t [] (later_start r t₀ T late) un)
      go (first F b come c) =
          let q : ℕ = c.owes.port in
          let in_step_lem = stepped_first q (coming r t (r.order t) q) (c.open_at.in_step_lem q c.owes.below) in
          absurd (too_early r t₀ T a (suc (F / L r)) (coming r t (r.order t) q) (epoch_before r t₀ a F (front F b)) late (come_at t q c.owes.below in_step_lem) c.owes.owes)
      go (later F i b come c w) =
          let q : ℕ = w.port in
          let in_step_lem = stepped_first q (coming r t (r.order t) q) (c.open_at.in_step_lem q w.below) in
          let index : i + a + 1 ≡ T = last_whole r T a i (coming r t (r.order t) q) (come_at t q w.below in_step_lem) (c.within q w.below) w.owes in
          let from : suc (F / L r) + a ≤ t₀ = epoch_before r t₀ a F (front F b) in
          let many : length (reached r m₀ t []).told ≡ i - suc (F / L r) = ap length c.told ∙ length_tabulate (i - suc (F / L r)) (λ j. report_after r (suc (F / L r) + j) (r.output j)) in
          record { F = F; i = i; beginning = b; stands = c; epoch = index; told = omega arith; last = omega arith }
