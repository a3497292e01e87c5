use Rattle.std.proofs.Common.{rules, tests, ◌≡◌, ◌∙◌, leb}
use Rattle.std.proofs.lemmas.Iterator.{YieldsList-from_slice}
use Rattle.std.proofs.lemmas.Iterator.Search.{all_from_yields_List}
use Rattle.std.specs.List.{list_all}
use Rattle.paths.specs.Answers.{are_short}
use Rattle.paths.proofs.Chains.{all_every}
use Rattle.paths.proofs.answers.are_short.Goals as goal

pub returns : goal.returns
unfolding are_short
returns c =
    let chain : c.all.result ≡ list_all (λ d. leb d 4095) c.args.delays.now =
    all_from_yields_List (λ d. leb d 4095) _ _ c.all.result c.all.ensures.ran (YieldsList-from_slice c.args.delays.now cc) (λ x b q k. search (rules, tests)) in
    chain ∙ all_every (λ d. leb d 4095) c.args.delays.now
