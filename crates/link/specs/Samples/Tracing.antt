-- A run computed once for all that is said of it: where it comes to, and whether receiving had begun before each frame time. A frame and a fetch are computed only where one comes.
use Rattle.std.specs.Prelude.{◌≡◌, ◌≢◌, Bool, true, false, get_or, if◌then◌else◌, ◌==◌}
use Rattle.std.proofs.Math.Path.{refl, ap}
use Rattle.std.proofs.Common.{◌∙◌}
use Rattle.std.proofs.Math.Logic.{⊎_elim}
use mathlib.Core.List.{List, [], ◌∷◌}
use Prim.Native.Nat.{ℕ, zero, suc, ◌+◌, ◌-◌, ◌≤◌}
use native.Mathlib.Omega.{arith}
use Rattle.ground.specs.Plain.{◌≤?◌}
use Rattle.ground.specs.Truth.{eq_or_ne}
use Rattle.link.specs.Link.{Link, road_of}
use Rattle.link.specs.Road.{Road}
use Rattle.link.specs.Running.{Moment, drained, fetched, framed, has_begun, record_at, through, turn, turns}
use Rattle.link.specs.Samples.Computing.{Outcome, outcome, outcome_of, started}

first_by : (b : Bool) (m x y : Moment) → x ≡ y → (if b then m else x) ≡ elim b [ true ↦ m | false ↦ y ]
first_by true m x y e = refl
first_by false m x y e = e

second_by : (b : Bool) (m x y : Moment) → x ≡ y → (if b then x else m) ≡ elim b [ true ↦ y | false ↦ m ]
second_by true m x y e = e
second_by false m x y e = refl

-- a moment, and whether receiving had begun then and before each frame time up to it, the last one first
pub record Trace : Type 0 where
  pub moment : Moment
  pub begun : List ℕ

module _ (r : Road) where
  unfoldable pub drained_by : ℕ → Moment → Moment
  drained_by zero m = m
  drained_by (suc k) m = elim (get_or (record_at r m) 0 0 == 0) [ true ↦ m | false ↦ drained_by k (fetched r m) ]

  drained_by_lem : (k : ℕ) (m : Moment) → drained r k m ≡ drained_by k m
  unfolding drained drained_by
  drained_by_lem zero m = refl
  drained_by_lem (suc k) m = first_by (get_or (record_at r m) 0 0 == 0) m (drained r k (fetched r m)) (drained_by k (fetched r m)) (drained_by_lem k (fetched r m))

  unfoldable pub turn_by : (t port : ℕ) (m : Moment) → Moment
  turn_by t p m = elim (r.delay p + r.first p ≤? t) [ true ↦ drained_by r.window (framed r p (t - r.delay p) m) | false ↦ m ]

  turn_by_lem : (t p : ℕ) (m : Moment) → turn r t p m ≡ turn_by t p m
  unfolding turn turn_by
  turn_by_lem t p m =
      second_by (r.delay p + r.first p ≤? t) m (drained r r.window (framed r p (t - r.delay p) m)) (drained_by r.window (framed r p (t - r.delay p) m))
      (drained_by_lem r.window (framed r p (t - r.delay p) m))

  unfoldable pub turns_by : (t : ℕ) (ports : List ℕ) (m : Moment) → Moment
  turns_by t [] m = m
  turns_by t (p ∷ ps) m = turns_by t ps (turn_by t p m)

  pub turns_by_lem : (t : ℕ) (ps : List ℕ) (m : Moment) → turns r t ps m ≡ turns_by t ps m
  unfolding turns turns_by
  turns_by_lem t [] m = refl
  turns_by_lem t (p ∷ ps) m = ap (λ (n : Moment). turns r t ps n) (turn_by_lem t p m) ∙ turns_by_lem t ps (turn_by t p m)

  unfoldable pub traced : ℕ → Moment → Trace
  traced zero m = record { moment = m; begun = has_begun m ∷ [] }
  traced (suc t) m = let s = traced t m in let n = turns_by t (r.order t) s.moment in record { moment = n; begun = has_begun n ∷ s.begun }

  moment_is : (t : ℕ) (m : Moment) → through r t m ≡ (traced t m).moment
  unfolding through traced
  moment_is zero m = refl
  moment_is (suc t) m = ap (λ (n : Moment). turns r t (r.order t) n) (moment_is t m) ∙ turns_by_lem t (r.order t) (traced t m).moment

  begun_is : (t k : ℕ) (m : Moment) → k ≤ t → has_begun (through r k m) ≡ get_or (traced t m).begun (t - k) 0
  unfolding through traced
  begun_is zero k m h = let e : k ≡ 0 = omega arith in rw e refl
  begun_is (suc t) k m h =
      ⊎_elim
      (λ (e : k ≡ suc t). (let z : suc t - suc t ≡ 0 = omega arith in rw (e, z) (ap has_begun (moment_is (suc t) m))))
      (λ (d : k ≢ suc t). (let z : suc t - k ≡ suc (t - k) = omega arith in rw z (begun_is t k m (omega arith))))
      (eq_or_ne k (suc t))

-- of a link: the outcome after all frame times before t, and before which of them receiving had begun
pub record Course : Type 0 where
  pub outcome : Outcome
  pub begun : List ℕ

unfoldable pub course : Link → ℕ → Course
unfolding traced turns_by turn_by drained_by
course k t = let s = traced (road_of k) t (started k) in record { outcome = outcome_of s.moment; begun = s.begun }

pub outcome_by_lem : (k : Link) (t : ℕ) (o : Outcome) → (course k t).outcome ≡ o → outcome k t ≡ o
unfolding outcome course
outcome_by_lem k t o e = ap outcome_of (moment_is (road_of k) t (started k)) ∙ e

pub begun_by : (k : Link) (t n b : ℕ) → n ≤ t → get_or (course k t).begun (t - n) 0 ≡ b → (outcome k n).begun ≡ b
unfolding outcome course
begun_by k t n b h e = begun_is (road_of k) t n (started k) h ∙ e
