use mathlib.Core.Path.{◌∙◌, sym}
use Rattle.c_face.specs.Laws.Sharing.{sized, unsized}
use Rattle.c_face.proofs.sharing.put_ranks.Goals as goal

pub returns-then-out-eq-RANKS_BYTES : goal.returns-then-out-eq-RANKS_BYTES
returns-then-out-eq-RANKS_BYTES c = c.put_ranks.ensures ∙ sym (sized 68 _ c.args.out.now c.if-out-eq-RANKS_BYTES.true)

pub returns-else-out-eq-RANKS_BYTES : goal.returns-else-out-eq-RANKS_BYTES
returns-else-out-eq-RANKS_BYTES c = sym (unsized 68 _ c.args.out.now c.if-out-eq-RANKS_BYTES.false)
