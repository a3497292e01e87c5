-- A sender put into the part lent, cut out by its ends, fills the state from the part's place on and leaves the rest (`write_part`), for each group.
use Rattle.c_cards.proofs.TwoGroups.{first_at, second_at, write_part}
use native.Mathlib.Omega.{arith}
use Rattle.c_cards.proofs.card_calls.put_part.Goals as goal

pub returns-then-group-eq0 : goal.returns-then-group-eq0
returns-then-group-eq0 c = write_part c.args.group 64 c.args.state.now (first_at _ c.if-group-eq0.true) c.requires (omega arith) c.args.sender.now _ c.put_sender.ensures

pub returns : goal.returns
returns c = write_part c.args.group 461 c.args.state.now (second_at _ c.if-group-eq0.false) c.requires (omega arith) c.args.sender.now _ c.put_sender-2.ensures
