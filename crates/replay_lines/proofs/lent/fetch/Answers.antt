use Rattle.std.proofs.Common.{sym, refl, length-take-le}
use Rattle.replay_lines.proofs.lent.fetch.Goals as goal

pub slice_bounds-fetch-end-2 : goal.slice_bounds-fetch-end-2
slice_bounds-fetch-end-2 c = sym (length-take-le c.args.count c.args.rows.now c.requires.0)

pub slice_bounds-fetch-end-3 : goal.slice_bounds-fetch-end-3
slice_bounds-fetch-end-3 c = sym (length-take-le c.args.bytes c.args.store.now c.requires.1)

pub returns : goal.returns
returns c = rw (c.fetch.ensures.1, c.fetch.ensures.2, c.fetch.ensures.3) (refl, refl, refl)
