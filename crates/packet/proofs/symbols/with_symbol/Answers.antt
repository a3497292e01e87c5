-- The symbol changes one entry of the row, which is worked out of the old one (`with_parts`); a place beyond the row leaves it (`with_past`).
use Rattle.std.proofs.Common.{refl, arith}
use Rattle.packet.specs.Theorems.Symbols.{with_parts, with_past}
use Rattle.packet.proofs.symbols.with_symbol.Goals as goal

pub returns-then-at-lt16 : goal.returns-then-at-lt16
returns-then-at-lt16 c = with_parts _ _ _ _ _ _ _ c.entry_at-at.ensures refl c.entry_with.ensures

pub returns-else-at-lt16 : goal.returns-else-at-lt16
returns-else-at-lt16 c = with_past _ _ _ _ _ c.entry_at-at.ensures (omega arith)
