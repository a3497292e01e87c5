use Rattle.std.proofs.Common.{◌∙◌, ◌≤◌, arith}
use Rattle.speak_lines.proofs.Answering.{after_line_lem, next_is}
use Rattle.speak_lines.proofs.listening.after_line.Goals as goal

pub returns : goal.returns
returns c =
    let few : c.args.listener.place ≤ 18446744073709551615 = omega arith in
    after_line_lem c.args.listener c.args.kept c.table_after.result c.heard_after.result c.nothing.result c.saturating_add.result c.table_after.ensures c.heard_after.ensures c.nothing.ensures
    (c.saturating_add.ensures ∙ next_is c.args.listener.place few)
