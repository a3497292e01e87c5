use Rattle.std.proofs.Common.{rules, ◌∙◌}
use Rattle.receiver.specs.Report.{seen_of, seen_all}
use Rattle.receiver.proofs.Lists.{each_both}
use Rattle.receiver.proofs.report.seen_all.Goals as goal

pub returns : goal.returns
unfolding seen_all
returns c =
    c.put_each.ensures (seen_of c.args.group c.args.state.now) (search rules)
    ∙ each_both _ _ (seen_of c.args.group c.args.state.now) _ _ c.size_byte.ensures c.no_seen-seen.ensures
