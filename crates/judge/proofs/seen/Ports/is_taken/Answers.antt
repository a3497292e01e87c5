use Rattle.std.specs.Prelude.{Bool, ◌&&◌, eqb}
use Rattle.std.proofs.Common.{◌∙◌, rules, tests}
use Rattle.std.proofs.lemmas.Iterator.{YieldsList-from_slice}
use Rattle.std.proofs.lemmas.Iterator.Search.{any_from_yields_List}
use Rattle.judge.specs.declared.seen.Seen.{Seen}
use Rattle.judge.specs.Seen.{numbered_seen}
use Rattle.judge.specs.Verdict.{takes}
use Rattle.judge.proofs.Chains.{any_is}
use Rattle.judge.proofs.seen.Ports.is_taken.Goals as goal

pub returns : goal.returns
unfolding takes
returns c =
    let test : Seen → Bool = λ p. numbered_seen p && eqb p.number c.args.number in
    let ports = c.self.inside.seen.now in
    rw (← c.self.view_is) (any_from_yields_List test _ _ _ c.any.ensures.ran (YieldsList-from_slice ports (cc)) (λ x b q k. search (rules, tests)) ∙ any_is test ports)
