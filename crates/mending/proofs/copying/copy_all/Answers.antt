use Rattle.mending.specs.Laws.Copies.{lines_asked, lines_left}
use lib.Seq.{length-take-le}
use mathlib.Core.Path.{sym}
use Rattle.mending.proofs.copying.copy_all.Goals as goal

pub slice_bounds-lay-end : goal.slice_bounds-lay-end
slice_bounds-lay-end c = sym (length-take-le c.args.start c.args.text.now c.requires.0)

pub copy_lines-requires : goal.copy_lines-requires
copy_lines-requires c =
    lines_asked c.args.counted c.args.ports c.args.size c.args.start c.args.text.now c.args.mended.now _ c.requires.0 c.lay.ensures c.requires.2 c.requires.1

pub returns : goal.returns
returns c =
    lines_left c.args.counted c.args.ports c.args.size c.args.start c.args.text.now c.args.mended.now _ c.requires.0 c.lay.ensures c.requires.2 _ c.copy_lines.ensures
