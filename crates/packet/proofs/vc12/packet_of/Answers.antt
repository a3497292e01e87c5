use Rattle.std.proofs.Common.{arith}
use Rattle.packet.specs.Laws.Vc12.{packet_bits}
use Rattle.packet.proofs.OneNumber.{data_lt, sealed_lt}
use Rattle.packet.proofs.vc12.packet_of.Goals as goal

pub data_of-data-requires : goal.data_of-data-requires
data_of-data-requires c = c.requires

pub overflow_mul-result : goal.overflow_mul-result
overflow_mul-result c = let low = data_lt _ _ c.data_of-data.ensures in omega arith

pub overflow_mul-data : goal.overflow_mul-data
overflow_mul-data c = let low = data_lt _ _ c.data_of-data.ensures in omega arith

pub overflow_add-result : goal.overflow_add-result
overflow_add-result c = let low = sealed_lt _ _ _ c.data_of-data.ensures c.left_of.ensures in omega arith

pub returns : goal.returns
returns c = packet_bits _ _ _ c.data_of-data.ensures c.left_of.ensures
