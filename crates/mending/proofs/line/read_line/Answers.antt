use Rattle.mending.specs.Laws.Reads.{found_of_lem, last_of, read_of}
use mathlib.Core.Path.{sym, ◌∙◌}
use Rattle.mending.proofs.line.read_line.Goals as goal

pub read_as-requires : goal.read_as-requires
read_as-requires c =
    let f = last_of c.args.ports c.args.size c.args.at c.args.text.now c.requires.0 c.record_at-found.result c.last_record-last.result
    c.record_at-found.ensures (sym c.is_unended.ensures ∙ c.if-is_unended.true) c.last_record-last.ensures in
    (f.place, f.next)

pub returns-then-is_unended : goal.returns-then-is_unended
returns-then-is_unended c =
    let f = last_of c.args.ports c.args.size c.args.at c.args.text.now c.requires.0 c.record_at-found.result c.last_record-last.result
    c.record_at-found.ensures (sym c.is_unended.ensures ∙ c.if-is_unended.true) c.last_record-last.ensures in
    read_of c.args.ports c.args.size c.args.at c.args.text.now c.requires.0 c.requires.1 0 c.last_record-last.result f c.read_as.result c.read_as.ensures

pub read_as-requires-2 : goal.read_as-requires-2
read_as-requires-2 c =
    let f = found_of_lem c.args.ports c.args.size c.args.at c.args.text.now c.requires.0 c.record_at-found.result c.record_at-found.ensures
    (sym c.is_unended.ensures ∙ c.if-is_unended.false) in
    (f.place, f.next)

pub returns : goal.returns
returns c =
    let f = found_of_lem c.args.ports c.args.size c.args.at c.args.text.now c.requires.0 c.record_at-found.result c.record_at-found.ensures
    (sym c.is_unended.ensures ∙ c.if-is_unended.false) in
    read_of c.args.ports c.args.size c.args.at c.args.text.now c.requires.0 c.requires.1 1 c.record_at-found.result f c.read_as-2.result c.read_as-2.ensures
