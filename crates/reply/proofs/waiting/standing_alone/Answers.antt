use mathlib.Core.List.{[], ◌∷◌}
use Rattle.reply.specs.Theorems.Alone.{alone_leaves, standing_alone}
use Rattle.reply.proofs.waiting.standing_alone.Goals as goal

pub returns-then-is_idle : goal.returns-then-is_idle
unfolding alone_leaves
returns-then-is_idle c = rw (standing_alone (c.args.port ∷ []), ← c.is_idle.ensures, c.if-is_idle.true)

pub returns-then-is_candidate : goal.returns-then-is_candidate
unfolding alone_leaves
returns-then-is_candidate c = rw (standing_alone (c.args.port ∷ []), c.with_claim.ensures, ← c.is_candidate.ensures, c.if-is_candidate.true, ← c.is_idle.ensures, c.if-is_idle.false)

pub returns : goal.returns
unfolding alone_leaves
returns c = rw (standing_alone (c.args.port ∷ []), c.without_claim_alone.ensures, ← c.is_candidate.ensures, c.if-is_candidate.false, ← c.is_idle.ensures, c.if-is_idle.false)
