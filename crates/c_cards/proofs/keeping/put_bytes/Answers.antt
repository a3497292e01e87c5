use mathlib.Core.Path.{◌∙◌}
use lib.ListN.{length}
use Rattle.c_face.specs.Laws.Sharing.{put_there, room}
use Rattle.c_cards.proofs.keeping.put_bytes.Goals as goal

pub returns : goal.returns
returns c = let s = c.before.before.before.before.before.before in c.put_bytes.ensures ∙ put_there s.args.from.now s.args.at s.args.out.now (room s.args.at (length s.args.from.now) s.args.out.now s.requires)
