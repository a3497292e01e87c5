-- `restore` meets its contract: three places back, each put where it is restored, one behind the other (`restored_by`).
use Rattle.mending.proofs.Promised.{restored_by}
use Rattle.mending.proofs.copying.restore.Goals as goal

pub returns : goal.returns
returns c =
    restored_by c.args.before c.args.after c.args.places c.args.mended.now c.is_first-first.ensures c.is_second-second.ensures c.is_third-third.ensures c.count_back.ensures.0 c.count_back-2.ensures.0 c.count_back-3.ensures.0
    c.restore_at.ensures c.restore_at-2.ensures c.restore_at-3.ensures
