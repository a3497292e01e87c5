use Rattle.std.specs.Prelude.{Bool, ◌&&◌, eqb}
use Rattle.std.specs.Bool.{beq}
use Rattle.std.proofs.Common.{◌∙◌, rules, tests}
use Rattle.std.proofs.lemmas.Iterator.{YieldsList-from_slice}
use Rattle.std.proofs.lemmas.Iterator.Search.{all_from_yields_List}
use Rattle.judge.specs.declared.seen.Seen.{Seen}
use Rattle.judge.specs.Seen.{active_seen, eos_seen}
use Rattle.judge.specs.Tally.{eos_alone_by}
use Rattle.judge.proofs.Chains.{all_is}
use Rattle.judge.proofs.seen.Ports.is_eos_alone.Goals as goal

pub returns : goal.returns
unfolding eos_alone_by
returns c =
    let test : Seen → Bool = λ p. beq (eos_seen p) (active_seen p && eqb p.number c.args.highest) in
    let ports = c.self.inside.seen.now in
    rw (← c.self.view_is) (all_from_yields_List test _ _ _ c.all.ensures.ran (YieldsList-from_slice ports (cc)) (λ x b q k. search (rules, tests)) ∙ all_is test ports)
