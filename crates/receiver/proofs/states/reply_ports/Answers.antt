use Rattle.std.proofs.Common.{rules, ◌∙◌}
use Rattle.receiver.specs.Report.{reply_port, reply_ports}
use Rattle.receiver.proofs.Lists.{each_both}
use Rattle.receiver.proofs.states.reply_ports.Goals as goal

pub returns : goal.returns
unfolding reply_ports
returns c =
    c.put_each.ensures (reply_port c.args.group c.args.state.now) (search rules)
    ∙ each_both _ _ (reply_port c.args.group c.args.state.now) _ _ c.size_byte.ensures c.no_port-all.ensures
