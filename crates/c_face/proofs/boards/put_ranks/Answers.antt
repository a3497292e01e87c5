-- `put_ranks` meets its contract: four numbers, then each slot's rank.
-- Two pieces fill the whole buffer (`ranks_whole`).
use Rattle.std.proofs.Common.{◌∙◌}
use Rattle.c_face.specs.Laws.Sharing.{flag_byte}
use Rattle.c_face.proofs.Showing.{ranks_whole}
use Rattle.c_face.proofs.boards.put_ranks.Goals as goal

pub returns : goal.returns
returns c =
    ranks_whole c.args.ranks _ c.args.out.now _ _ c.requires c.well_formed.0.1.1.0.1.0.1 (c.from.ensures ∙ flag_byte c.args.ranks.begun) c.put_bytes.ensures c.put_bytes-2.ensures
