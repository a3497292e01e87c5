-- Beginning is 01's sentence: 'every port has had a frame and is in step or flagged failed, at least one is in step, and the latest tags of those in step lie within an arc of W-15 tags'.
-- The idea of the way back (`complete`): seen from a tag that no port in step lies half a round behind, `further` is a comparison of distances; so of the ports gone through the foremost is always the least far behind (`Least`), and at the end it is the one of the sentence.
use Rattle.std.specs.Prelude.{◌≡◌, refl, ◌⊎◌, ◌≢◌, Bool, true, false, cond, not, ◌&&◌, ◌||◌, List, eqb, leb, ltb}
use Rattle.std.proofs.Common.{◌∙◌, sym, ap, inr, ⊎_elim, true≢false, arith, eq-eqb, ne_eqb, leb-true, le-leb, lt-ltb, le-ltb}
use Rattle.std.proofs.Math.Logic.{inl}
use Prim.Native.Nat.{ℕ, zero, suc, ◌+◌, ◌/◌, ◌≤◌, ◌<◌}
use Rattle.std.proofs.Math.Nat.{not-suc-le-zero}
use Rattle.std.proofs.lemmas.Bool.{eqb-false, not-true}
use Rattle.ground.specs.Counting.Laws.Tests.{every_all, every_at}
use Rattle.ground.specs.Counting.Words.{every}
use Rattle.ground.specs.Truth.{and_left, and_right, and-true, eq_or_ne, le_or_lt, or_right}
use Rattle.packet.specs.Kinds.{distance_of, frames, tags}
use Rattle.packet.specs.Laws.Distances.{distance_none, distance_same, farther_not_after, nearer_after, tag_before_lt}
use Rattle.packet.specs.Theorems.Tags.{frames_some}
use Rattle.rows.specs.declared.group.Group.{Group}
use Rattle.rows.specs.declared.step.Step.{Step}
use Rattle.rows.specs.Step.{step_at}
use Rattle.step.specs.Arrival.{in_step}
use Rattle.phases.specs.Beginning.{Arc, begins, foremost, further, latest, no_tag, ready, in_arc}

-- a port in step whose latest tag it is
record LatestOf (g : Group) (s : List (List ℕ)) (n fore : ℕ) : Type 0 where
  port : ℕ
  below : port < n
  stepped : in_step g (step_at s port) ≡ true
  is : latest g (step_at s port) ≡ fore

further_by : (g : Group) (fore : ℕ) (step : Step) (P : ℕ → Type 0) → (in_step g step ≡ true → P (latest g step)) → P fore → P (further g fore step)
unfolding further
further_by g fore step P new old = go _ refl
  where
    test : Bool
    test = in_step g step && (eqb fore (no_tag g) || ltb (distance_of g.kind (latest g step) fore) (tags g.kind / 2))

    go : (b : Bool) → test ≡ b → P (cond b (latest g step) fore)
    go true e = new (and_left (in_step g step) _ e)
    go false e = old

brought_by : (g : Group) (s : List (List ℕ)) (n : ℕ) → foremost g s n ≢ no_tag g → LatestOf g s n (foremost g s n)
unfolding foremost
brought_by g s zero d = absurd (d refl)
brought_by g s (suc n) d =
    let rest = brought_by g s n in
    further_by g (foremost g s n) (step_at s n) (λ f. f ≢ no_tag g → LatestOf g s (suc n) f)
    (λ e x. record { port = n; below = omega arith; stepped = e; is = refl })
    (λ x. let r = rest x in record { port = r.port; below = (let b = r.below in omega arith); stepped = r.stepped; is = r.is })
    d

near : (g : Group) (fore : ℕ) (step : Step) → in_arc g fore step ≡ true → in_step g step ≡ true → distance_of g.kind fore (latest g step) + frames g.kind ≤ g.window
unfolding in_arc
near g fore step e t = leb-true (distance_of g.kind fore (latest g step) + frames g.kind) g.window (rw t at e)

pub sound : (g : Group) (s : List (List ℕ)) (n : ℕ) → begins g s n ≡ true → Arc g s n (foremost g s n)
unfolding begins
sound g s n e =
    let fore = foremost g s n in
    let readies : Bool = every n (λ i. ready g (step_at s i)) in
    let found : Bool = not (eqb fore (no_tag g)) in
    let closes : Bool = every n (λ i. in_arc g fore (step_at s i)) in
    let first = and_left (readies && found) closes e in
    let h = brought_by g s n (eqb-false fore (no_tag g) (not-true (eqb fore (no_tag g)) (and_right readies found first))) in
    record {
      all_ready = every_at n (λ i. ready g (step_at s i)) (and_left readies found first);
      port = h.port;
      below = h.below;
      stepped = h.stepped;
      fore_is = h.is;
      behind = λ j b t. near g fore (step_at s j) (every_at n (λ i. in_arc g fore (step_at s i)) (and_right (readies && found) closes e) j b) t;
    }

-- The foremost of the first k ports' tags, seen from a tag `far` that none in step is half a round behind: of them all it is the least far behind.

module _ (g : Group) (s : List (List ℕ)) (far : ℕ) where
  record Least (k a : ℕ) : Type 0 where
    low : a < tags g.kind
    half : distance_of g.kind far a < tags g.kind / 2
    least : (j : ℕ) → j < k → in_step g (step_at s j) ≡ true → distance_of g.kind far a ≤ distance_of g.kind far (latest g (step_at s j))

  record Nobody (k a : ℕ) : Type 0 where
    is : a ≡ no_tag g
    none : (j : ℕ) → j < k → in_step g (step_at s j) ≡ true → ⊥

further_out : (g : Group) (a : ℕ) (step : Step) → in_step g step ≡ false → further g a step ≡ a
unfolding further
further_out g a step e = rw e refl

further_first : (g : Group) (a : ℕ) (step : Step) → in_step g step ≡ true → a ≡ no_tag g → further g a step ≡ latest g step
unfolding further
further_first g a step e h = rw (e, eq-eqb a (no_tag g) h) refl

further_new : (g : Group) (a : ℕ) (step : Step) → in_step g step ≡ true → distance_of g.kind (latest g step) a < tags g.kind / 2 → further g a step ≡ latest g step
unfolding further
further_new g a step e h =
    rw (e, or_right (eqb a (no_tag g)) (ltb (distance_of g.kind (latest g step) a) (tags g.kind / 2)) (lt-ltb (distance_of g.kind (latest g step) a) (tags g.kind / 2) h))
    refl

further_old : (g : Group) (a : ℕ) (step : Step) → in_step g step ≡ true → a ≢ no_tag g → tags g.kind / 2 ≤ distance_of g.kind (latest g step) a → further g a step ≡ a
unfolding further
further_old g a step e d h =
    rw (e, ne_eqb a (no_tag g) d, le-ltb (distance_of g.kind (latest g step) a) (tags g.kind / 2) h) refl

latest_lt : (g : Group) (step : Step) → latest g step < tags g.kind
unfolding latest
latest_lt g step = tag_before_lt g.kind step.next

not_none : (g : Group) (a : ℕ) → a < tags g.kind → a ≢ no_tag g
unfolding no_tag
not_none g a h e = absurd (omega arith)

module _ (g : Group) (s : List (List ℕ)) (far : ℕ) where
  -- one more port
  next : (k a : ℕ) → (in_step g (step_at s k) ≡ true → distance_of g.kind far (latest g (step_at s k)) < tags g.kind / 2)
      → Nobody g s far k a ⊎ Least g s far k a
      → Nobody g s far (suc k) (further g a (step_at s k)) ⊎ Least g s far (suc k) (further g a (step_at s k))
  next k a half before = go (in_step g (step_at s k)) refl before
    where
      tag : ℕ
      tag = latest g (step_at s k)

      go : (b : Bool) → in_step g (step_at s k) ≡ b → Nobody g s far k a ⊎ Least g s far k a
          → Nobody g s far (suc k) (further g a (step_at s k)) ⊎ Least g s far (suc k) (further g a (step_at s k))
      go false e (inl o) =
          rw (further_out g a (step_at s k) e)
          (inl
          (record {
            is = o.is;
            none =
                λ j b t.
                ⊎_elim (λ (q : j ≡ k). true≢false (sym t ∙ ap (λ (i : ℕ). in_step g (step_at s i)) q ∙ e)) (λ (d : j ≢ k). o.none j (omega arith) t) (eq_or_ne j k);
          }))
      go false e (inr o) =
          rw (further_out g a (step_at s k) e)
          (inr
          (record {
            low = o.low;
            half = o.half;
            least =
                λ j b t.
                ⊎_elim (λ (q : j ≡ k). absurd (true≢false (sym t ∙ ap (λ (i : ℕ). in_step g (step_at s i)) q ∙ e))) (λ (d : j ≢ k). o.least j (omega arith) t) (eq_or_ne j k);
          }))
      go true e (inl o) =
          rw (further_first g a (step_at s k) e o.is)
          (inr
          (record {
            low = latest_lt g (step_at s k);
            half = half e;
            least =
                λ j b t.
                ⊎_elim (λ (q : j ≡ k). rw q (omega arith)) (λ (d : j ≢ k). absurd (o.none j (omega arith) t)) (eq_or_ne j k);
          }))
      go true e (inr o) =
          ⊎_elim
          (λ (h : distance_of g.kind far tag ≤ distance_of g.kind far a).
          rw (further_new g a (step_at s k) e (nearer_after g.kind far a tag o.half (half e) h))
          (inr
          (record {
            low = latest_lt g (step_at s k);
            half = half e;
            least =
                λ j b t.
                ⊎_elim (λ (q : j ≡ k). rw q (omega arith)) (λ (d : j ≢ k). let l = o.least j (omega arith) t in omega arith) (eq_or_ne j k);
          })))
          (λ (h : distance_of g.kind far a < distance_of g.kind far tag).
          rw (further_old g a (step_at s k) e (not_none g a o.low) (farther_not_after g.kind far a tag o.half (half e) h))
          (inr
          (record {
            low = o.low;
            half = o.half;
            least =
                λ j b t.
                ⊎_elim (λ (q : j ≡ k). rw q (omega arith)) (λ (d : j ≢ k). o.least j (omega arith) t) (eq_or_ne j k);
          })))
          (le_or_lt (distance_of g.kind far tag) (distance_of g.kind far a))

  least_of : (k : ℕ) → ((j : ℕ) → j < k → in_step g (step_at s j) ≡ true → distance_of g.kind far (latest g (step_at s j)) < tags g.kind / 2)
      → Nobody g s far k (foremost g s k) ⊎ Least g s far k (foremost g s k)
  unfolding foremost
  least_of zero half = inl (record { is = refl; none = λ j b t. not-suc-le-zero b })
  least_of (suc k) half = next k (foremost g s k) (half k (omega arith)) (least_of k (λ j b. half j (omega arith)))

close : (g : Group) (fore : ℕ) (step : Step) → (in_step g step ≡ true → distance_of g.kind fore (latest g step) + frames g.kind ≤ g.window) → in_arc g fore step ≡ true
unfolding in_arc
close g fore step h = go (in_step g step) refl
  where
    go : (b : Bool) → in_step g step ≡ b → (not b || leb (distance_of g.kind fore (latest g step) + frames g.kind) g.window) ≡ true
    go true e = le-leb (distance_of g.kind fore (latest g step) + frames g.kind) g.window (h e)
    go false e = refl

-- The foremost tag is the one that all others lie within the arc behind, and receiving begins.
pub complete : (g : Group) (s : List (List ℕ)) (n fore : ℕ) → Arc g s n fore → g.window ≤ tags g.kind / 2 → (begins g s n ≡ true) × (foremost g s n ≡ fore)
unfolding begins
complete g s n fore o h = (rw is begun, is)
  where
    low : fore < tags g.kind
    low = rw (← o.fore_is) (latest_lt g (step_at s o.port))

    half : (j : ℕ) → j < n → in_step g (step_at s j) ≡ true → distance_of g.kind fore (latest g (step_at s j)) < tags g.kind / 2
    half j b t = let d = o.behind j b t in let f = frames_some g.kind in omega arith

    at_port : distance_of g.kind fore (latest g (step_at s o.port)) ≡ 0
    at_port = rw o.fore_is (distance_same g.kind fore)

    is : foremost g s n ≡ fore
    is =
        ⊎_elim (λ (x : Nobody g s fore n (foremost g s n)). absurd (x.none o.port o.below o.stepped))
        (λ (x : Least g s fore n (foremost g s n)).
        let l = x.least o.port o.below o.stepped in
        sym (distance_none g.kind fore (foremost g s n) low x.low (omega (arith, at_port))))
        (least_of g s fore n half)

    begun : (every n (λ i. ready g (step_at s i)) && not (eqb fore (no_tag g)) && every n (λ i. in_arc g fore (step_at s i))) ≡ true
    begun =
        and-true (every n (λ i. ready g (step_at s i)) && not (eqb fore (no_tag g))) (every n (λ i. in_arc g fore (step_at s i)))
        (and-true (every n (λ i. ready g (step_at s i))) (not (eqb fore (no_tag g))) (every_all n (λ i. ready g (step_at s i)) o.all_ready)
        (rw (ne_eqb fore (no_tag g) (not_none g fore low)) refl))
        (every_all n (λ i. in_arc g fore (step_at s i)) (λ j b. close g fore (step_at s j) (o.behind j b)))
