-- Each of the two parts of a card's state, cut out by its ends, is the definition's part of the group (`read_part`), and the sender is read of it.
-- A group other than 0 has the second part.
use Rattle.c_cards.proofs.TwoGroups.{first_at, second_at, read_part}
use Rattle.c_face.specs.Keeping.{sender_of}
use mathlib.Core.Path.{◌∙◌, ap}
use native.Mathlib.Omega.{arith}
use Rattle.c_cards.proofs.card_calls.part_in.Goals as goal

pub returns-then-group-eq0 : goal.returns-then-group-eq0
returns-then-group-eq0 c = c.sender_of.ensures ∙ ap sender_of (read_part c.args.group 64 c.args.state.now (first_at _ c.if-group-eq0.true) c.requires (omega arith))

pub returns : goal.returns
returns c = c.sender_of-2.ensures ∙ ap sender_of (read_part c.args.group 461 c.args.state.now (second_at _ c.if-group-eq0.false) c.requires (omega arith))
