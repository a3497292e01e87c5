use Rattle.std.proofs.Common.{arith, lit<}
use Rattle.text.proofs.Reading.{power_le}
use Rattle.text.proofs.fields.read_hex.Goals as goal

pub read_digits-requires : goal.read_digits-requires
read_digits-requires c = let p = power_le 16 _ 8 (lit< tt) c.if-field-gt8.false in (lit< tt, omega (arith, p), omega arith)
