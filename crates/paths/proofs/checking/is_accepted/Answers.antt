use Rattle.std.proofs.Common.{rules, tests, ◌≡◌, ◌-◌, ◌∙◌, refl, arith, eq-eqb, ne_eqb, length}
use Rattle.std.proofs.lemmas.Iterator.{YieldsList-from_range}
use Rattle.std.proofs.lemmas.Iterator.Search.{all_from_yields_List}
use Rattle.std.specs.List.{list_all, range_with_len}
use Rattle.paths.specs.Checking.{accepts, entry_fits}
use Rattle.ground.specs.Counting.Laws.Chains.{all_numbers}
use Rattle.paths.proofs.checking.is_accepted.Goals as goal

pub returns-then-set-k : goal.returns-then-set-k
unfolding accepts
returns-then-set-k c =
    let whole : length c.args.set.now - 0 ≡ length c.args.set.now = omega arith in
    let chain : c.all.result ≡ list_all (entry_fits c.args.delays.now c.args.set.now c.args.room) (range_with_len 0 (length c.args.set.now)) =
    all_from_yields_List (entry_fits c.args.delays.now c.args.set.now c.args.room) _ _ c.all.result c.all.ensures.ran (YieldsList-from_range 0 (length c.args.set.now) (length c.args.set.now) refl whole) (λ x b q k. search (rules, tests)) in
    rw (eq-eqb (length c.args.set.now) c.args.k c.if-set-k.true) (chain ∙ all_numbers (entry_fits c.args.delays.now c.args.set.now c.args.room) (length c.args.set.now))

pub returns-else-set-k : goal.returns-else-set-k
unfolding accepts
returns-else-set-k c = rw (ne_eqb (length c.args.set.now) c.args.k c.if-set-k.false)
