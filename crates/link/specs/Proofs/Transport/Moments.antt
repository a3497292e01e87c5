-- How far each port has come at a moment: in frame time t, with the ports of `rest` still to be served.
use Rattle.std.specs.Prelude.{◌≡◌, Bool, List, [], ◌∷◌, ℕ, suc, ◌+◌, ◌-◌, ◌≤◌, ◌<◌}
use Rattle.std.proofs.Math.Path.{refl}
use Rattle.std.proofs.Math.Bool.{true, false, cond}
use native.Mathlib.Omega.{arith}
use Rattle.std.proofs.Math.Dec.{eqb}
use borrow.Author.Tests.{eq-eqb, ne_eqb, eqb-true}
use Rattle.link.specs.Moments.{next_at}
use Rattle.link.specs.Road.{Below, Road, times}
use Rattle.link.specs.Proofs.Fair.{Fair}
use Rattle.link.specs.Proofs.Transport.Served.{Apart, Reach, Served}

module _ (r : Road) where
  -- ports still to be served: each at most once
  pub record Rest (rest : List ℕ) : Type 0 where
    pub all_below : Below r.ports rest
    pub once : (q : ℕ) → q < r.ports → times q rest ≤ 1

  pub rest_tail : (p : ℕ) (ps : List ℕ) → Rest (p ∷ ps) → Rest ps
  rest_tail p ps o = record { all_below = o.all_below.1; once = λ q b. (let w : cond (eqb q p) 1 0 + times q ps ≤ 1 = o.once q b in omega arith) }

  pub rest_all : (f : Fair r) (t : ℕ) → Rest (r.order t)
  rest_all f t = record { all_below = f.only t; once = λ q b. (let w = f.once t q b in omega arith) }

  -- the port that is served stands no second time in the list
  gone : (p : ℕ) (ps : List ℕ) → Rest (p ∷ ps) → times p ps ≡ 0
  gone p ps o = let w : cond (eqb p p) 1 0 + times p ps ≤ 1 = o.once p o.all_below.0 in let v : 1 + times p ps ≤ 1 = rw (eq-eqb p p refl) at w in omega arith

  -- a port's turn with a frame
  pub served : (t p : ℕ) (ps : List ℕ) → Rest (p ∷ ps) → r.delay p + r.first p ≤ t → Served r p (next_at r t (p ∷ ps)) (next_at r t ps)
  unfolding next_at
  served t p ps o late =
      let a = gone p ps o in
      record {
        below = o.all_below.0;
        next = rw (eq-eqb p p refl, a) (omega arith);
        others = λ q d. rw (ne_eqb q p d) (omega arith);
      }

  pub served_at : (t p : ℕ) (ps : List ℕ) → Rest (p ∷ ps) → r.delay p + r.first p ≤ t → next_at r t (p ∷ ps) p ≡ t - r.delay p
  unfolding next_at
  served_at t p ps o late = rw (eq-eqb p p refl, gone p ps o) (omega arith)

  -- a port's turn before its first frame
  pub unserved : (t p : ℕ) (ps : List ℕ) → Rest (p ∷ ps) → t < r.delay p + r.first p → (q : ℕ) → next_at r t (p ∷ ps) q ≡ next_at r t ps q
  unfolding next_at
  unserved t p ps o early q = go (eqb q p) refl
    where
      go : (b : Bool) → eqb q p ≡ b → r.first q + (t + 1 - (cond b 1 0 + times q ps) - (r.delay q + r.first q)) ≡ r.first q + (t + 1 - times q ps - (r.delay q + r.first q))
      go true e =
          let w = eqb-true q p e in
          let early' : t < r.delay q + r.first q = rw w early in
          omega arith
      go false e = omega arith

  -- the end of a frame time is the start of the next
  pub next_time : (f : Fair r) (t q : ℕ) → q < r.ports → next_at r t [] q ≡ next_at r (suc t) (r.order (suc t)) q
  unfolding next_at
  next_time f t q b = rw (f.once (suc t) q b) (omega arith)

  -- E2: the port that is served has all others within reach
  pub reach : (f : Fair r) (t p : ℕ) (ps : List ℕ) → Rest (p ∷ ps) → r.delay p + r.first p ≤ t → Reach r p (next_at r t (p ∷ ps))
  unfolding next_at
  reach f t p ps o late q b =
      let s = f.spread q p b o.all_below.0 in
      let w : cond (eqb q p) 1 0 + times q ps ≤ 1 = o.once q b in
      let v = gone p ps o in
      rw (eq-eqb p p refl) (omega arith)

  -- E1
  pub apart : (f : Fair r) (t : ℕ) (rest : List ℕ) → Rest rest → Apart r (next_at r t rest)
  unfolding next_at
  apart f t rest o p q hp hq sp sq =
      let s = f.spread q p hq hp in
      let w = o.once q hq in
      omega arith
