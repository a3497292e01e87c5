-- `put_sender` meets its contract: slots, both boards' rows and the fields, at their places.
-- Four pieces are written one behind the other and fill the whole state, so that nothing of the old one is left (`put_whole`).
use Rattle.c_face.proofs.Pieces.{put_whole}
use Rattle.c_face.proofs.keeping.put_sender.Goals as goal

pub returns : goal.returns
returns c =
    put_whole c.args.sender _ c.args.state.now _ _ _ _ c.requires c.field_bytes.ensures (c.put_pairs.ensures _) (c.put_pairs-2.ensures _) (c.put_pairs-3.ensures _) c.put_bytes.ensures
