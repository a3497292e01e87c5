use Rattle.payload.proofs.Deals.{dealt_by}
use Rattle.payload.proofs.deal.dealt.Goals as goal

pub returns : goal.returns
returns c = dealt_by c.args.n _ _ _ c.requires c.pairs-w.ensures c.split.ensures
