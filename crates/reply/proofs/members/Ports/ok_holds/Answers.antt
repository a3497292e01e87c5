use Rattle.std.specs.Prelude.{Bool, ◌&&◌, eqb}
use Rattle.std.proofs.Common.{◌≡◌, ◌∙◌, rules, tests}
use Rattle.std.specs.List.{list_any}
use Rattle.std.proofs.lemmas.Iterator.{YieldsList-from_slice}
use Rattle.std.proofs.lemmas.Iterator.Search.{any_from_yields_List}
use Rattle.ground.specs.Counting.Laws.Chains.{any_first}
use Rattle.reply.specs.declared.members.Port.{Port}
use Rattle.reply.specs.Members.{ok_state}
use Rattle.reply.specs.Telling.{ok_holds}
use Rattle.reply.proofs.members.Ports.ok_holds.Goals as goal

pub returns : goal.returns
unfolding ok_holds
returns c =
    let test : Port → Bool = λ p. eqb p.state ok_state && eqb p.state_number c.args.number in
    let chain : c.any.result ≡ list_any test c.all.result.now =
    any_from_yields_List test _ _ _ c.any.ensures.ran (YieldsList-from_slice c.all.result.now (cc)) (λ x b q k. search (rules, tests)) in
    rw c.all.ensures.first at chain ∙ any_first test c.args.self.now.table.now _ c.args.self.now.count c.all.ensures.room
