use Rattle.std.specs.Prelude.{Bool, ◌||◌}
use Rattle.std.proofs.Common.{◌≡◌, ◌∙◌, rules, tests}
use Rattle.std.specs.List.{list_any}
use Rattle.std.proofs.lemmas.Iterator.{YieldsList-from_slice}
use Rattle.std.proofs.lemmas.Iterator.Search.{any_from_yields_List}
use Rattle.ground.specs.Counting.Laws.Chains.{any_first}
use Rattle.reply.specs.declared.members.Port.{Port}
use Rattle.reply.specs.Telling.{has_changed, has_left, turns_over}
use Rattle.reply.proofs.members.Ports.is_turning.Goals as goal

pub returns : goal.returns
unfolding turns_over
returns c =
    let test : Port → Bool = λ p. has_changed p || has_left p in
    let chain : c.any.result ≡ list_any test c.all.result.now =
    any_from_yields_List test _ _ _ c.any.ensures.ran (YieldsList-from_slice c.all.result.now (cc)) (λ x b q k. search (rules, tests)) in
    rw c.all.ensures.first at chain ∙ any_first test c.args.self.now.table.now _ c.args.self.now.count c.all.ensures.room
