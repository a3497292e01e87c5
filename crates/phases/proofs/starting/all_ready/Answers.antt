use Rattle.std.proofs.Common.{rules, tests, ◌≡◌, ◌-◌, ◌∙◌, ℕ, Bool, refl, arith}
use Rattle.std.specs.List.{list_all, range_with_len}
use Rattle.std.proofs.lemmas.Iterator.{YieldsList-from_range}
use Rattle.std.proofs.lemmas.Iterator.Search.{all_from_yields_List}
use Rattle.ground.specs.Counting.Laws.Chains.{all_numbers}
use Rattle.rows.specs.Step.{step_at}
use Rattle.phases.specs.Beginning.{ready}
use Rattle.phases.proofs.starting.all_ready.Goals as goal

pub returns : goal.returns
returns c =
    let test : ℕ → Bool = λ k. ready c.args.group (step_at c.args.state.now k) in
    let whole : c.args.ports - 0 ≡ c.args.ports = omega arith in
    let chain : c.all.result ≡ list_all test (range_with_len 0 c.args.ports) =
    all_from_yields_List test _ _ _ c.all.ensures.ran (YieldsList-from_range 0 c.args.ports c.args.ports refl whole) (λ x b q k. search (rules, tests)) in
    chain ∙ all_numbers test c.args.ports
