-- `data_of` meets its contract: the fields in order make one number, which is that of the 29 data bits (`data_number`), and fits since each field does.
use Rattle.std.proofs.Common.{sym}
use Rattle.packet.specs.Laws.Vc12.{data_number}
use Rattle.packet.proofs.vc12.data_of.Goals as goal

pub returns : goal.returns
returns c = sym (data_number c.args.fields c.requires)
