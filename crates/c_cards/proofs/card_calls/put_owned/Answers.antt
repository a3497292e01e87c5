use Rattle.c_cards.proofs.TwoGroups.{owned_whole}
use native.Mathlib.Omega.{arith}
use Rattle.c_cards.proofs.card_calls.put_owned.Goals as goal

pub returns : goal.returns
returns c = owned_whole c.args.owned c.args.out.now _ (omega arith) c.requires c.put_bytes.ensures
