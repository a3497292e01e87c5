-- How far ports lie behind the foremost, and when receiving begins: the same tags and the same arc.
use Rattle.std.specs.Prelude.{◌≡◌, refl, ◌≢◌, Bool, true, false, cond, not, ◌&&◌, ◌||◌, List, ℕ, zero, suc, ◌+◌, ◌/◌, ◌<◌, eqb, leb, ltb}
use Rattle.std.proofs.Common.{⊎_elim, not-suc-le-zero, arith, le-leb, ne_eqb}
use Rattle.std.proofs.lemmas.Bool.{eqb-false}
use Rattle.ground.specs.Counting.Laws.Tests.{every_all}
use Rattle.ground.specs.Counting.Words.{every}
use Rattle.ground.specs.Truth.{and-true, eq_or_ne}
use Rattle.packet.specs.Kinds.{distance_of, frames, tags}
use Rattle.packet.specs.Laws.Distances.{tag_before_lt}
use Rattle.packet.specs.Theorems.Tags.{distance_lt}
use Rattle.phases.specs.Beginning.{begins, foremost, further, latest, no_tag, ready, in_arc}
use Rattle.phases.specs.Theorems.Arc.{sound}
use Rattle.receiver.specs.Behind.{Near, behind_by, behind_in}
use Rattle.rows.specs.declared.group.Group.{Group}
use Rattle.rows.specs.declared.step.Step.{Step}
use Rattle.rows.specs.Step.{step_at}
use Rattle.step.specs.Arrival.{in_step}

-- of a port in step: a distance of tags
pub behind_is : (g : Group) (s : List (List ℕ)) (n i : ℕ) → in_step g (step_at s i) ≡ true → behind_in g s n i ≡ distance_of g.kind (foremost g s n) (latest g (step_at s i))
unfolding behind_in behind_by
behind_is g s n i e = rw e refl

-- 0 to 4,095, of VC-12 to 1,023
pub behind_lt : (g : Group) (s : List (List ℕ)) (n i : ℕ) → in_step g (step_at s i) ≡ true → behind_in g s n i < tags g.kind
behind_lt g s n i e = rw (behind_is g s n i e) (distance_lt g.kind (foremost g s n) (latest g (step_at s i)))

a_tag : (g : Group) (step : Step) → latest g step ≢ no_tag g
unfolding latest no_tag
a_tag g step e = let l = tag_before_lt g.kind step.next in absurd (omega arith)

-- where a port is in step, there is a foremost
further_some : (g : Group) (fore : ℕ) (step : Step) → in_step g step ≡ true → further g fore step ≢ no_tag g
unfolding further
further_some g fore step e = rw e (go (eqb fore (no_tag g)) (ltb (distance_of g.kind (latest g step) fore) (tags g.kind / 2)) refl)
  where
    go : (a b : Bool) → eqb fore (no_tag g) ≡ a → cond (a || b) (latest g step) fore ≢ no_tag g
    go true b q = a_tag g step
    go false true q = a_tag g step
    go false false q = eqb-false fore (no_tag g) q

further_keeps : (g : Group) (fore : ℕ) (step : Step) → fore ≢ no_tag g → further g fore step ≢ no_tag g
unfolding further
further_keeps g fore step d = go (in_step g step && (eqb fore (no_tag g) || ltb (distance_of g.kind (latest g step) fore) (tags g.kind / 2)))
  where
    go : (b : Bool) → cond b (latest g step) fore ≢ no_tag g
    go true = a_tag g step
    go false = d

pub foremost_some : (g : Group) (s : List (List ℕ)) (n p : ℕ) → p < n → in_step g (step_at s p) ≡ true → foremost g s n ≢ no_tag g
unfolding foremost
foremost_some g s zero p b e = absurd (not-suc-le-zero b)
foremost_some g s (suc n) p b e =
    let rest = foremost_some g s n p in
    ⊎_elim (λ (q : p ≡ n). further_some g (foremost g s n) (step_at s n) (rw q at e)) (λ (d : p ≢ n). further_keeps g (foremost g s n) (step_at s n) (rest (omega arith) e)) (eq_or_ne p n)

close : (g : Group) (s : List (List ℕ)) (n : ℕ) → Near g s n → (j : ℕ) → j < n → in_arc g (foremost g s n) (step_at s j) ≡ true
unfolding in_arc
close g s n o j b = go (in_step g (step_at s j)) refl
  where
    far : ℕ
    far = distance_of g.kind (foremost g s n) (latest g (step_at s j)) + frames g.kind

    go : (t : Bool) → in_step g (step_at s j) ≡ t → (not t || leb far g.window) ≡ true
    go true e = le-leb far g.window (rw (behind_is g s n j e) at (o.near j b e))
    go false e = refl

-- then receiving begins
pub near_begins : (g : Group) (s : List (List ℕ)) (n : ℕ) → Near g s n → begins g s n ≡ true
unfolding begins
near_begins g s n o =
    and-true (every n (λ i. ready g (step_at s i)) && not (eqb (foremost g s n) (no_tag g))) (every n (λ i. in_arc g (foremost g s n) (step_at s i)))
    (and-true (every n (λ i. ready g (step_at s i))) (not (eqb (foremost g s n) (no_tag g))) (every_all n (λ i. ready g (step_at s i)) o.all_ready)
    (rw (ne_eqb (foremost g s n) (no_tag g) (foremost_some g s n o.port o.below o.stepped)) refl))
    (every_all n (λ i. in_arc g (foremost g s n) (step_at s i)) (λ j b. close g s n o j b))

-- and only then
pub begins_near : (g : Group) (s : List (List ℕ)) (n : ℕ) → begins g s n ≡ true → Near g s n
begins_near g s n e =
    let a = sound g s n e in
    record {
      all_ready = a.all_ready;
      port = a.port;
      below = a.below;
      stepped = a.stepped;
      near = λ j b t. rw (behind_is g s n j t) (a.behind j b t);
    }
