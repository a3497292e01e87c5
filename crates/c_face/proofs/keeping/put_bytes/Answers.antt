use Rattle.std.proofs.Common.{arith}
use Rattle.c_face.proofs.Wholes.{copied_piece}
use Rattle.c_face.proofs.keeping.put_bytes.Goals as goal

pub returns : goal.returns
returns c = copied_piece c.args.out.now c.args.at _ c.args.from.now _ c.requires (omega arith) c.copy_from_slice.ensures.after
