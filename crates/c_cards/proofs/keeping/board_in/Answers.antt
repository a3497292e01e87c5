use mathlib.Core.Path.{◌∙◌}
use Rattle.c_face.specs.Laws.Sharing.{board_there, room}
use Rattle.c_cards.proofs.keeping.board_in.Goals as goal

pub returns : goal.returns
returns c = let s = c.before.before in c.board_in.ensures ∙ board_there s.args.state.now s.args.at s.args.count s.args.wait (room s.args.at 128 s.args.state.now s.requires)
