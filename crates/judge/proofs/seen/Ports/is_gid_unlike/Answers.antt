use Rattle.std.specs.Prelude.{Bool, not, ◌&&◌, eqb}
use Rattle.std.specs.Bool.{beq}
use Rattle.std.proofs.Common.{◌∙◌, rules, tests}
use Rattle.std.proofs.lemmas.Iterator.{YieldsList-from_slice}
use Rattle.std.proofs.lemmas.Iterator.Search.{any_from_yields_List}
use Rattle.judge.specs.declared.seen.Seen.{Seen}
use Rattle.judge.specs.Cause.{gid_unlike}
use Rattle.judge.specs.Seen.{unidle_seen}
use Rattle.judge.proofs.Chains.{any_is}
use Rattle.judge.proofs.seen.Ports.is_gid_unlike.Goals as goal

pub returns : goal.returns
unfolding gid_unlike
returns c =
    let test : Seen → Bool = λ p. unidle_seen p && not (beq (eqb p.gid 0) (eqb c.args.gid 0)) in
    let ports = c.self.inside.seen.now in
    rw (← c.self.view_is) (any_from_yields_List test _ _ _ c.any.ensures.ran (YieldsList-from_slice ports (cc)) (λ x b q k. search (rules, tests)) ∙ any_is test ports)
