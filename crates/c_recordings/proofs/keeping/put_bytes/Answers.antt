use mathlib.Core.Path.{◌∙◌}
use lib.ListN.{length}
use Rattle.c_face.specs.Laws.Sharing.{put_there, room}
use Rattle.c_recordings.proofs.keeping.put_bytes.Goals as goal

pub returns : goal.returns
returns c = c.put_bytes.ensures ∙ put_there c.args.from.now c.args.at c.args.out.now (room c.args.at (length c.args.from.now) c.args.out.now c.requires)
