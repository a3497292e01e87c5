-- A clause that holds decides (`by_held`), else one that doubts (`by_doubt`), each from the definition's tally, repeats, EOS and exactness.
-- The numbers to be exact are no more than the ports (`numbered_le`).
use Rattle.std.specs.Prelude.{length}
use Rattle.std.proofs.Common.{◌∙◌, sym}
use Rattle.judge.proofs.Deciding.{none_decides, some_decides}
use Rattle.judge.proofs.Judging.{by_held, by_doubt, numbered_le}
use Rattle.judge.proofs.seen.Ports.lcas_cause.Goals as goal

pub returns-then-is_some : goal.returns-then-is_some
returns-then-is_some c = by_held c.args.self.now (length c.args.self.now) c.tally-tally.result _ _ _ c.tally-tally.ensures c.has_repeats-repeated.ensures c.is_eos_alone-alone.ensures c.held_cause-held.ensures (some_decides _ (sym c.is_some.ensures ∙ c.if-is_some.true))

pub is_exact-requires : goal.is_exact-requires
is_exact-requires c = (numbered_le c.args.self.now (length c.args.self.now) c.tally-tally.result c.tally-tally.ensures, c.is_full-full.ensures)

pub returns : goal.returns
returns c =
    by_doubt c.args.self.now (length c.args.self.now) c.tally-tally.result _ _ _ c.tally-tally.ensures c.has_repeats-repeated.ensures c.is_eos_alone-alone.ensures c.held_cause-held.ensures _ _ c.is_exact.ensures (none_decides _ (sym c.is_some.ensures ∙ c.if-is_some.false)) c.doubt_cause.ensures
