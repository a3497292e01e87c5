use Rattle.std.proofs.Common.{◌∙◌, refl, sym, rules, tests}
use Rattle.std.specs.Prelude.{length}
use Rattle.std.proofs.Math.Nat.{sub-zero}
use Rattle.std.proofs.lemmas.Iterator.{YieldsList-from_range}
use Rattle.std.proofs.lemmas.Iterator.Search.{all_from_yields_List}
use Rattle.judge.specs.Tally.{exact_to}
use Rattle.judge.specs.Theorems.Full.{full_exact}
use Rattle.judge.specs.Verdict.{takes}
use Rattle.ground.specs.Counting.Laws.Chains.{all_numbers}
use Rattle.judge.proofs.seen.Ports.is_exact.Goals as goal

pub returns-then-full : goal.returns-then-full
unfolding exact_to
returns-then-full c = c.if-full.true ∙ sym (full_exact c.args.self.now (length c.args.self.now) (c.requires.1 c.if-full.true) c.args.limit c.requires.0)

pub returns-else-full : goal.returns-else-full
unfolding exact_to
returns-else-full c =
    let test = takes c.args.self.now (length c.args.self.now) in
    all_from_yields_List test _ _ _ c.all.ensures.ran (YieldsList-from_range 0 c.args.limit c.args.limit refl (sub-zero _)) (λ x b q k. search (rules, tests)) ∙ all_numbers test c.args.limit
