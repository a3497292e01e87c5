use Rattle.std.proofs.Common.{arith}
use Rattle.packet.proofs.OneNumber.{fields_are}
use Rattle.packet.proofs.vc12.fields_of.Goals as goal

pub returns : goal.returns
returns c = fields_are c.args.number (omega arith)
