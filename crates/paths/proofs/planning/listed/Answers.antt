use Rattle.std.proofs.Common.{◌≡◌, ◌∙◌, sym, refl, ℕ, Bool, arith}
use Rattle.ground.specs.Counting.Laws.Numbers.{count_le}
use Rattle.paths.specs.Laws.Listing.{length_listed}
use Rattle.paths.specs.Planning.{in_stretch, listed_plan}
use Rattle.paths.proofs.Growing.{listed_off, listed_on}
use Rattle.paths.proofs.planning.listed.Goals as goal
use Rattle.paths.proofs.planning.listed.Goals.{then-is_within, else-is_within}

pub bounds-paths-count : goal.bounds-paths-count
bounds-paths-count c = let l = count_le c.loop-i.i (in_stretch c.args.ranks.now c.args.first c.args.k) in omega arith

pub overflow_add-count : goal.overflow_add-count
overflow_add-count c = let l = count_le c.loop-i.i (in_stretch c.args.ranks.now c.args.first c.args.k) in omega arith

pub overflow_cast-result : goal.overflow_cast-result
overflow_cast-result c = let l = count_le c.loop-i.i (in_stretch c.args.ranks.now c.args.first c.args.k) in omega arith

pub loop-i-preserved : goal.loop-i-preserved
loop-i-preserved c =
    let f : ℕ → Bool = in_stretch c.args.ranks.now c.args.first c.args.k in
    elim c.if-is_within.branch [
      | then-is_within w ↦
          let t = listed_on f c.loop-i.i c.loop-i.count c.loop-i.paths c.loop-i.invariant.0 c.loop-i.invariant.1 (omega arith) (sym c.is_within.ensures ∙ w.if-is_within.true) in
          (w.count-is ∙ t.0, w.paths-is ∙ t.1)
      | else-is_within w ↦
          let t = listed_off f c.loop-i.i c.loop-i.count c.loop-i.paths c.loop-i.invariant.0 c.loop-i.invariant.1 (sym c.is_within.ensures ∙ w.if-is_within.false) in
          (w.count-is ∙ t.0, w.paths-is ∙ t.1)
    ]

pub returns : goal.returns
unfolding listed_plan
returns c =
    let e : c.loop-i.i ≡ c.args.n = omega arith in
    rw (c.loop-i.invariant.1, c.loop-i.invariant.0, e, length_listed c.args.n (in_stretch c.args.ranks.now c.args.first c.args.k)) refl
