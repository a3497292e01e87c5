use Rattle.std.proofs.Common.{rules, tests, ◌≡◌, ◌∙◌, take, arith}
use Rattle.std.proofs.lemmas.Iterator.{YieldsList-from_slice}
use Rattle.std.proofs.lemmas.Iterator.Search.{all_from_yields_List}
use Rattle.std.specs.List.{list_all}
use Rattle.paths.specs.Checking.{agree, agrees_with}
use Rattle.paths.specs.Paths.{path_at}
use Rattle.ground.specs.Counting.Laws.Chains.{all_first}
use Rattle.paths.proofs.checking.agrees.Goals as goal

pub returns : goal.returns
unfolding agrees_with
returns c =
    let chain : c.all.result ≡ list_all (λ o. agree c.args.delays.now c.args.room o (path_at c.args.set.now c.args.a)) (take c.args.a c.args.set.now) =
    all_from_yields_List (λ o. agree c.args.delays.now c.args.room o (path_at c.args.set.now c.args.a)) _ _ c.all.result c.all.ensures.ran (YieldsList-from_slice (take c.args.a c.args.set.now) (search rules)) (λ x b q k. search (rules, tests)) in
    chain ∙ all_first (λ o. agree c.args.delays.now c.args.room o (path_at c.args.set.now c.args.a)) c.args.set.now 0 c.args.a (omega arith)
